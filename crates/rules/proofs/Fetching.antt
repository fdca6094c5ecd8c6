-- (u), (v), (w): what a push brings; and what a tick of grow does after the push test's answer.
use Prim.Native.Nat.{ℕ, ◌+◌, ◌-◌, ◌<◌, ◌≤◌, min}
use native.Mathlib.Omega.{arith}
use native.Mathlib.Decide.{dec_le, dec_lt}
use mathlib.Core.Path.{◌≡◌, refl}
use mathlib.Core.Bool.{Bool, true, false, ◌&&◌, and-false}
use Rattle.std.proofs.Common.{None as none, Some as some, Ok, Err}
use mathlib.Core.List.{List}
use lib.ListN.{length}
use lib.Dec.{ltb}
use borrow.Author.Tests.{le-leb, le-ltb, lt-ltb, eq-eqb, ne_eqb}
use Rattle.scope.specs.declared.Op.{Op}
use Rattle.scope.specs.declared.Refusal.{Refusal}
use Rattle.scope.specs.declared.Refusal.TheVariants.{Missing, Stuck, Inside}
use Rattle.scope.specs.Words.{lowest, holds, latest_of, ◌at◌}
use Rattle.scope.specs.Rules.{Asked, yes as Yes, no as No, outside, differs, needs_copy, out_of_reach}
use Rattle.scope.specs.Rules.{may_push, store_unless_push, load, store, rule_u, rule_v, rule_w, grow_plan}
use Rattle.scope.proofs.Walks.{lowest-found, lowest-again, lowest-out, highest-some}
use Rattle.rules.specs.declared.Choice.TheVariants.{Store, Load, Dup}
use Rattle.rules.specs.Promises.{Chosen, Answer, loading, job, state, ◌then◌, settling, settled, getting, pushing}
use Rattle.questions.specs.Promises.{said, may_push_in, copy_for}
use Rattle.questions.proofs.Copying.{copy_is, copy-none, copy-depth}

-- the guard of a question at a position
asked-inside : (p n t : ℕ) → p < n → p < t → (ltb p n && ltb p t) ≡ true
asked-inside p n t a b = rw (lt-ltb p n a, lt-ltb p t b)

asked-past : (p n t : ℕ) → t ≤ p → (ltb p n && ltb p t) ≡ false
asked-past p n t a = rw (le-ltb p t a) (and-false (ltb p n))

-- ---- loads

module _ (L : List ℕ) (v : ℕ) where
  pub load_found : (i : ℕ) → latest_of v L ≡ some i → (C T : List ℕ) (c S D : ℕ) → Chosen 0 C T L c S D (loading v) (Ok (some (Load i)))
  unfolding load latest_of
  load_found i q C T c S D = record { is = λ first slots room os. rw q; fit = λ _. (highest-some (length L) (holds L v) i q).0 }

  pub load-none : latest_of v L ≡ none → (C T : List ℕ) (c S D : ℕ) → Chosen 0 C T L c S D (loading v) (Err Missing)
  unfolding load
  load-none q C T c S D = record { is = λ first slots room os. rw q; fit = λ _. omega arith }

-- ---- (u)

asked-outside : (p n t : ℕ) → min n t ≤ p → (ltb p n && ltb p t) ≡ false
asked-outside p n t a = elim (dec_lt p n) [ yes l ↦ asked-past p n t (omega arith) | no l ↦ rw (le-ltb p n (omega arith)) ]

module _ (C T L : List ℕ) (S : ℕ) where
  pub u-low : length C < S → (c D : ℕ) → Chosen 0 C T L c S D rule_u (Ok none)
  unfolding rule_u
  u-low l c D = record { is = λ first slots room os. rw (lt-ltb (length C) S l); fit = λ _. omega arith }

  pub u-outside : (m : ℕ) → S ≤ length C → m ≡ min (length C) (length T) → m ≤ length C - S → (c D : ℕ) → Chosen 0 C T L c S D rule_u (Err Inside)
  unfolding rule_u
  u-outside m l em k c D =
      record { is = λ first slots room os. rw (le-ltb (length C) S l, asked-outside (length C - S) (length C) (length T) (omega arith)); fit = λ _. omega arith }

  module _ (m : ℕ) (b : Bool) (l : S ≤ length C) (em : m ≡ min (length C) (length T)) (k : length C - S < m) (e : b ≡ (differs C T (length C - S) && out_of_reach C T S (length C - S))) where
    pub u-load : (v : ℕ) (r : Answer) → b ≡ true → v ≡ (T at (length C - S)) → ((C T : List ℕ) (c S D : ℕ) → Chosen 0 C T L c S D (loading v) r)
        → (c D : ℕ) → Chosen 0 C T L c S D rule_u r
    unfolding rule_u
    u-load v r h ev x c D =
        record {
          is = λ first slots room os.
              rw (le-ltb (length C) S l, asked-inside (length C - S) (length C) (length T) (omega arith) (omega arith), ← e, h, ← ev) ((x C T c S D).is first slots room os);
          fit = (x C T c S D).fit;
        }

    pub u-pass : b ≡ false → (c D : ℕ) → Chosen 0 C T L c S D rule_u (Ok none)
    unfolding rule_u
    u-pass h c D =
        record {
          is = λ first slots room os. rw (le-ltb (length C) S l, asked-inside (length C - S) (length C) (length T) (omega arith) (omega arith), ← e, h);
          fit = λ _. omega arith;
        }

-- ---- (v)

pub v-again : (C T : List ℕ) (b p : ℕ)
    → lowest p (min (length C) (length T)) (needs_copy C T b) ≡ lowest b (min (length C) (length T)) (needs_copy C T b)
    → p < min (length C) (length T) → copy_for C T b p ≡ none
    → lowest (p + 1) (min (length C) (length T)) (needs_copy C T b) ≡ lowest b (min (length C) (length T)) (needs_copy C T b)
v-again C T b p k l e = lowest-again b (min (length C) (length T)) p (needs_copy C T b) l (copy-none C T b p e) k

module _ (C T : List ℕ) (D : ℕ) where
  pub v-empty : length C ≡ 0 → (L : List ℕ) (c S : ℕ) → Chosen 0 C T L c S D rule_v (Ok none)
  unfolding rule_v
  v-empty z L c S = record { is = λ first slots room os. rw (eq-eqb (length C) 0 z); fit = λ _. omega arith }

  module _ (b : ℕ) (some₀ : length C ≡ 0 → ⊥) (start : b ≡ length C - 1 - min D (length C - 1)) where
    module _ (p d : ℕ) (copied : copy_for C T b p ≡ some d) where
      v-small : d ≤ D
      v-small = omega (arith, copy-depth C T b p d copied)

      pub v-dup : (k : ℕ) → p < min (length C) (length T)
          → lowest p (min (length C) (length T)) (needs_copy C T b) ≡ lowest b (min (length C) (length T)) (needs_copy C T b)
          → k ≡ min d D → (L : List ℕ) (c S : ℕ) → Chosen 0 C T L c S D rule_v (Ok (some (Dup k)))
      unfolding rule_v
      v-dup k l i ek L c S =
          let y = copy_is C T b p d copied in
          let q = lowest-found b (min (length C) (length T)) p (needs_copy C T b) l y.0 i in
          let deep : k ≡ d = omega (arith, v-small) in
          record {
            is = λ first slots room os. rw (ne_eqb (length C) 0 some₀, ← start, q, y.1, deep);
            fit = λ _. omega (arith, copy-depth C T b p d copied);
          }

    pub v-pass : (p : ℕ) → min (length C) (length T) ≤ p
        → lowest p (min (length C) (length T)) (needs_copy C T b) ≡ lowest b (min (length C) (length T)) (needs_copy C T b)
        → (L : List ℕ) (c S : ℕ) → Chosen 0 C T L c S D rule_v (Ok none)
    unfolding rule_v
    v-pass p l i L c S =
        let q = lowest-out b (min (length C) (length T)) p (needs_copy C T b) l i in
        record { is = λ first slots room os. rw (ne_eqb (length C) 0 some₀, ← start, q); fit = λ _. omega arith }

-- ---- (w)

module _ (C T L : List ℕ) (c D k : ℕ) (ek : k ≡ min (D + 1) (length C)) where
  pub w-load : (p v : ℕ) (r : Answer) → lowest c (length T) (out_of_reach C T k) ≡ some p → v ≡ (T at p)
      → ((C T : List ℕ) (c S D : ℕ) → Chosen 0 C T L c S D (loading v) r) → (S : ℕ) → Chosen 0 C T L c S D rule_w r
  unfolding rule_w
  w-load p v r h ev x S =
      record { is = λ first slots room os. rw (← ek, h, ← ev) ((x C T c S D).is first slots room os); fit = (x C T c S D).fit }

  pub w-stuck : lowest c (length T) (out_of_reach C T k) ≡ none → (S : ℕ) → Chosen 0 C T L c S D rule_w (Err Stuck)
  unfolding rule_w
  w-stuck h S = record { is = λ first slots room os. rw (← ek, h); fit = λ _. omega arith }

-- ---- after the push test

asked-yes : (y : Asked) → said y ≡ Ok true → y ≡ Yes
asked-yes Yes e = refl
asked-yes No e = let z : ◌≡◌ {A = ℕ} 0 1 = cc in absurd (omega arith)
asked-yes outside e = let z : ◌≡◌ {A = ℕ} 0 1 = cc in absurd (omega arith)

asked-no : (y : Asked) → said y ≡ Ok false → y ≡ No
asked-no Yes e = let z : ◌≡◌ {A = ℕ} 0 1 = cc in absurd (omega arith)
asked-no No e = refl
asked-no outside e = let z : ◌≡◌ {A = ℕ} 0 1 = cc in absurd (omega arith)

asked-out : (y : Asked) (r : Refusal) → said y ≡ Err r → (y ≡ outside) × (Inside ≡ r)
asked-out Yes r e = let z : ◌≡◌ {A = ℕ} 0 1 = cc in absurd (omega arith)
asked-out No r e = let z : ◌≡◌ {A = ℕ} 0 1 = cc in absurd (omega arith)
asked-out outside r e = (refl, cc)

module _ (C T L : List ℕ) (c S D : ℕ) where
  which : (x : Asked) → may_push_in C T L S ≡ x → (first slots room : ℕ) (os : List Op) → may_push (job S D T first slots room) (state C c L os) ≡ x
  unfolding may_push
  which x h first slots room os = h

  pub push-yes : (r : Answer) → said (may_push_in C T L S) ≡ Ok true → Chosen 0 C T L c S D getting r → Chosen 0 C T L c S D pushing r
  unfolding store_unless_push
  push-yes r h x =
      let i = asked-yes (may_push_in C T L S) h in
      record { is = λ first slots room os. rw (which Yes i first slots room os) (x.is first slots room os); fit = x.fit }

  -- a no comes only from a stack higher than the limit
  high : may_push_in C T L S ≡ No → S < length C
  unfolding may_push
  high h =
      elim (dec_le (length C) S) [
        | yes l ↦ let q : Yes ≡ No = rw (le-leb (length C) S l) at h in let z : ◌≡◌ {A = ℕ} 0 1 = cc in absurd (omega arith)
        | no l ↦ omega arith
      ]

  pub push-no : said (may_push_in C T L S) ≡ Ok false → Chosen 0 C T L c S D pushing (Ok (some Store))
  unfolding store_unless_push store
  push-no h =
      let i = asked-no (may_push_in C T L S) h in
      let l = high i in
      record { is = λ first slots room os. rw (which No i first slots room os); fit = λ _. omega arith }

  pub push-out : (r : Refusal) → said (may_push_in C T L S) ≡ Err r → Chosen 0 C T L c S D pushing (Err r)
  unfolding store_unless_push
  push-out r h =
      let i = asked-out (may_push_in C T L S) r h in
      rw (← i.1) (record { is = λ first slots room os. rw (which outside i.0 first slots room os); fit = λ _. omega arith })

-- ---- grow

module _ (C T L : List ℕ) (c S D : ℕ) where
  pub settled-none : length C ≤ c → Chosen 0 C T L c S D settled (Ok none)
  settled-none l = record { is = λ first slots room os. rw (le-ltb c (length C) l); fit = λ _. omega arith }

  pub settled-some : (r : Answer) → c < length C → Chosen 1 C T L c S D settling r → Chosen 0 C T L c S D settled r
  settled-some r l x = record { is = λ first slots room os. rw (lt-ltb c (length C) l) (x.is first slots room os); fit = λ _. x.fit (omega arith) }

  pub as-grown : (r : Answer) → Chosen 0 C T L c S D (settled then pushing) r → Chosen 0 C T L c S D grow_plan r
  unfolding grow_plan
  as-grown r x = record { is = x.is; fit = x.fit }
