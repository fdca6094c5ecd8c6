-- What (v) asks: a value that needs another copy, and where it stands first.
use Rattle.std.specs.Prelude.{if◌then◌else◌}
use Rattle.std.specs.Bool.{then_some}
use Prim.Native.Nat.{ℕ, ◌-◌, ◌<◌, ◌≤◌}
use native.Mathlib.Omega.{arith}
use native.Mathlib.Decide.{dec_lt}
use mathlib.Core.Path.{◌≡◌, refl, sym, ap, ◌∙◌}
use mathlib.Core.Bool.{Bool, true, false, ◌&&◌, true≢false}
use Rattle.std.proofs.Common.{Option, None as none, Some as some}
use Rattle.std.proofs.lemmas.Option.{none-some as none-ne-some}
use mathlib.Core.List.{List}
use lib.ListN.{length, get_or, take, length-take}
use lib.Seq.{take_all, get_or-take}
use lib.Dec.{eqb, ltb}
use borrow.Author.Tests.{eqb-true}
use Rattle.scope.specs.Words.{◌∈◌, count, holds, first_of, ◌at◌, ◌from◌}
use Rattle.scope.specs.Rules.{needs_copy}
use Rattle.scope.proofs.Walks.{Lowest, lowest-some, lowest-none, in_take}
use Rattle.scope.proofs.Counts.{count-in, count_at}
use Rattle.questions.specs.Promises.{copy_for}

-- ---- the first place of a value

first-lowest : (v : ℕ) (l : List ℕ) (d : ℕ) → first_of v l ≡ some d → Lowest 0 (length l) (holds l v) d
unfolding first_of
first-lowest v l d e = lowest-some 0 (length l) (holds l v) d e

first-in : (v : ℕ) (l : List ℕ) (d : ℕ) → first_of v l ≡ some d → (v ∈ l) ≡ true
unfolding holds
first-in v l d e =
    let y = first-lowest v l d e in
    let is : get_or l d 0 ≡ v = eqb-true (get_or l d 0) v y.has in
    count-in v l (rw is at (count_at d l y.below))

first_absent : (v : ℕ) (l : List ℕ) → first_of v l ≡ none → (v ∈ l) ≡ false
unfolding first_of holds
first_absent v l e = go (v ∈ l) refl
  where
    go : (b : Bool) → (v ∈ l) ≡ b → (v ∈ l) ≡ false
    go true h =
        let z = in_take v (length l) l (rw (take_all (length l) l (omega arith)) h) in
        absurd (true≢false (sym z.2 ∙ lowest-none 0 (length l) (holds l v) e z.0 (omega arith) z.1))
    go false h = h

-- the first place in a part is the first place
module _ (v k : ℕ) (C : List ℕ) (d : ℕ) (e : first_of v (take k C) ≡ some d) where
  part_of : Lowest 0 (length (take k C)) (holds (take k C) v) d
  part_of = first-lowest v (take k C) d e

  inside : (d < k) × (d < length C)
  inside = let y = simp length-take at part_of.below in (omega arith, omega arith)

  same_at : (i : ℕ) → i ≤ d → holds (take k C) v i ≡ holds C v i
  unfolding holds
  same_at i h = let y = inside in rw (get_or-take k C i 0 (omega arith))

  pub first-of-part : first_of v C ≡ some d
  unfolding first_of
  first-of-part = go (first_of v C) refl
    where
      here : holds C v d ≡ true
      here = sym (same_at d (omega arith)) ∙ part_of.has

      go : (x : Option ℕ) → first_of v C ≡ x → first_of v C ≡ some d
      go none h = absurd (true≢false (sym here ∙ lowest-none 0 (length C) (holds C v) h d (omega arith) inside.1))
      go (some j) h = let y = first-lowest v C j h in lower (dec_lt j d) (dec_lt d j) y
        where
          lower : Dec (j < d) → Dec (d < j) → Lowest 0 (length C) (holds C v) j → first_of v C ≡ some d
          lower (yes a) b y = absurd (true≢false (sym y.has ∙ sym (same_at j (omega arith)) ∙ part_of.none-lower j (omega arith) a))
          lower (no a) (yes b) y = absurd (true≢false (sym here ∙ y.none-lower d (omega arith) b))
          lower (no a) (no b) y = let z : j ≡ d = omega arith in h ∙ ap some z

-- ---- (v)

module _ (C T P : List ℕ) (b p v : ℕ) (x : Option ℕ) (ev : v ≡ (T at p)) (ep : P ≡ (C from b)) (ex : x ≡ first_of v P) where
  pub copy-absent : x ≡ none → none ≡ copy_for C T b p
  unfolding needs_copy
  copy-absent h = rw (← ev, ← ep, first_absent v P (sym ex ∙ h))

  pub copy-first : (d m n : ℕ) (Q : List ℕ) → x ≡ some d → Q ≡ (T from b) → m ≡ count v P → n ≡ count v Q
      → then_some (ltb m n) d ≡ copy_for C T b p
  unfolding needs_copy
  copy-first d m n Q h eq em en =
      let there = first-of-part v (length C - b) C d (rw ep at (sym ex ∙ h)) in
      rw (← ev, ← ep, first-in v P d (sym ex ∙ h), ← eq, ← em, ← en, there) (either (ltb m n))
    where
      either : (r : Bool) → then_some r d ≡ (if r then some d else none)
      either true = refl
      either false = refl

-- ---- what the answer says

and_first : (a b : Bool) → (a && b) ≡ true → a ≡ true
and_first true b e = refl
and_first false b e = absurd (true≢false (sym e))

module _ (C T : List ℕ) (b p : ℕ) where
  -- a value that needs a copy stands within the part
  stands : needs_copy C T b p ≡ true → (i : ℕ) × (i < length C - b) × (eqb (get_or C i 0) (T at p) ≡ true)
  unfolding needs_copy
  stands e = in_take (T at p) (length C - b) C (and_first _ _ e)

  by-need : (x : Bool) → needs_copy C T b p ≡ x → (d : ℕ) → (if x then first_of (T at p) C else none) ≡ some d
      → (needs_copy C T b p ≡ true) × (first_of (T at p) C ≡ some d)
  by-need true e d h = (e, h)
  by-need false e d h = absurd (none-ne-some d h)

  pub copy_is : (d : ℕ) → copy_for C T b p ≡ some d → (needs_copy C T b p ≡ true) × (first_of (T at p) C ≡ some d)
  copy_is d h = by-need (needs_copy C T b p) refl d h

  pub copy-none : copy_for C T b p ≡ none → needs_copy C T b p ≡ false
  unfolding first_of holds
  copy-none h = go (needs_copy C T b p) refl h
    where
      go : (x : Bool) → needs_copy C T b p ≡ x → (if x then first_of (T at p) C else none) ≡ none → needs_copy C T b p ≡ false
      go true e k =
          let z = stands e in
          absurd (true≢false (sym z.2 ∙ lowest-none 0 (length C) (holds C (T at p)) k z.0 (omega arith) (omega (arith, z.1))))
      go false e k = e

  pub copy-depth : (d : ℕ) → copy_for C T b p ≡ some d → d < length C - b
  unfolding holds
  copy-depth d h =
      let k = copy_is d h in
      let y = first-lowest (T at p) C d k.1 in
      let z = stands k.0 in
      elim (dec_lt z.0 d) [
        | yes l ↦ absurd (true≢false (sym z.2 ∙ y.none-lower z.0 (omega arith) l))
        | no l ↦ omega (arith, z.1)
      ]
