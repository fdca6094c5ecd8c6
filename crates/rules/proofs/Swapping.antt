-- (b), (d), (x): the search's answer is the depth of the swap.
use Rattle.std.specs.Prelude.{if◌then◌else◌}
use Prim.Native.Nat.{ℕ, ◌+◌, ◌-◌, ◌<◌, ◌≤◌, min, max}
use native.Mathlib.Omega.{arith}
use mathlib.Core.Path.{◌≡◌, refl, ap}
use mathlib.Core.Bool.{Bool, true, false, ◌&&◌}
use Rattle.std.proofs.Common.{Option, None as none, Some as some, Ok}
use Rattle.std.proofs.lemmas.Option.{none-some as none-ne-some}
use mathlib.Core.List.{List}
use lib.ListN.{length, get_or}
use Rattle.scope.specs.Words.{lowest, found, ◌at◌}
use Rattle.scope.specs.Rules.{differs, wants_top, extra, extra_at, giver, can_be_set_right, rule_b, rule_d, rule_x}
use Rattle.scope.proofs.Walks.{lowest-some, lowest-found, lowest-again, lowest-out}
use Rattle.rules.specs.declared.Choice.TheVariants.{Swap, SwapPop, Swaps}
use Rattle.rules.specs.Promises.{Chosen}
use Rattle.questions.specs.Promises.{source_for}

module _ (C T : List ℕ) (c S v : ℕ) (top : v ≡ get_or C 0 0) where
  pub b-swap : (p k : ℕ) → lowest (max c (length C - 1 - S)) (min (length C) (length T)) (wants_top C T v) ≡ some p → k ≡ min (length C - 1 - p) S
      → (L : List ℕ) (D : ℕ) → Chosen 0 C T L c S D rule_b (Ok (some (Swap k)))
  unfolding rule_b
  b-swap p k e g L D =
      let w = lowest-some _ _ _ _ e in
      let deep : k ≡ length C - 1 - p = omega (arith, w.from) in
      record { is = λ first slots room os. rw (← top, e, deep); fit = λ _. omega (arith, w.below) }

  pub b-pass : lowest (max c (length C - 1 - S)) (min (length C) (length T)) (wants_top C T v) ≡ none
      → (L : List ℕ) (D : ℕ) → Chosen 0 C T L c S D rule_b (Ok none)
  unfolding rule_b
  b-pass e L D = record { is = λ first slots room os. rw (← top, e); fit = λ _. omega arith }

module _ (C T : List ℕ) (c S : ℕ) where
  pub d-swap : (p k : ℕ) → lowest (max c (length C - 1 - S)) (length C) (extra_at C T c) ≡ some p → k ≡ min (length C - 1 - p) S
      → (L : List ℕ) (D : ℕ) → Chosen 0 C T L c S D rule_d (Ok (some (SwapPop k)))
  unfolding rule_d
  d-swap p k e g L D =
      let w = lowest-some _ _ _ _ e in
      let deep : k ≡ length C - 1 - p = omega (arith, w.from) in
      record { is = λ first slots room os. rw (e, deep); fit = λ _. omega (arith, w.below) }

  pub d-pass : lowest (max c (length C - 1 - S)) (length C) (extra_at C T c) ≡ none → (L : List ℕ) (D : ℕ) → Chosen 0 C T L c S D rule_d (Ok none)
  unfolding rule_d
  d-pass e L D = record { is = λ first slots room os. rw e; fit = λ _. omega arith }

-- the value at a position is extra
pub extra-here : (C T : List ℕ) (c p v : ℕ) (b : Bool) → v ≡ (C at p) → b ≡ extra C T c v → b ≡ extra_at C T c p
unfolding extra_at
extra-here C T c p v b ev eb = rw (← ev) eb

-- ---- (x)

module _ (C T : List ℕ) (f p : ℕ) where
  source-wrong : (b : Bool) → differs C T p ≡ b → (x : Option ℕ) → (if b then giver C T f p else none) ≡ x → (b && found (giver C T f p)) ≡ found x
  source-wrong true e x h = ap found h
  source-wrong false e x h = ap found h

  -- a position can be set right exactly where its source is found
  pub can-be-set-right : (x : Option ℕ) → source_for C T f p ≡ x → can_be_set_right C T f p ≡ found x
  unfolding can_be_set_right
  can-be-set-right x h = source-wrong (differs C T p) refl x h

  pub source-giver : (q : ℕ) → source_for C T f p ≡ some q → giver C T f p ≡ some q
  source-giver q h = go (differs C T p) h
    where
      go : (b : Bool) → (if b then giver C T f p else none) ≡ some q → giver C T f p ≡ some q
      go true e = e
      go false e = absurd (none-ne-some q e)

  -- a position without a source is passed by
  pub x-again : lowest p (min (length C) (length T)) (can_be_set_right C T f) ≡ lowest f (min (length C) (length T)) (can_be_set_right C T f)
      → p < min (length C) (length T) → source_for C T f p ≡ none
      → lowest (p + 1) (min (length C) (length T)) (can_be_set_right C T f) ≡ lowest f (min (length C) (length T)) (can_be_set_right C T f)
  x-again k l h = lowest-again f (min (length C) (length T)) p (can_be_set_right C T f) l (can-be-set-right none h) k

module _ (C T : List ℕ) (c S f : ℕ) (floor : f ≡ max c (length C - 1 - S)) where
  module _ (p q : ℕ) (e : source_for C T f p ≡ some q) where
    x-giver : giver C T f p ≡ some q
    x-giver = source-giver C T f p q e

    x-inside : q < length C
    unfolding giver
    x-inside = let w = (lowest-some _ _ _ _ x-giver).below in omega arith

    x-depth : length C - 1 - q ≤ S
    unfolding giver
    x-depth = let w = (lowest-some _ _ _ _ x-giver).from in omega arith

    pub x-swaps : (a b : ℕ) → p < min (length C) (length T)
        → lowest p (min (length C) (length T)) (can_be_set_right C T f) ≡ lowest f (min (length C) (length T)) (can_be_set_right C T f)
        → a ≡ min (length C - 1 - q) S → b ≡ min (length C - 1 - p) S → (L : List ℕ) (D : ℕ) → Chosen 0 C T L c S D rule_x (Ok (some (Swaps a b)))
    unfolding rule_x
    x-swaps a b l k ea eb L D =
        let y = lowest-found f (min (length C) (length T)) p (can_be_set_right C T f) l (can-be-set-right C T f p (some q) e) k in
        let w = lowest-some _ _ _ _ y in
        let u = x-inside in
        let down : a ≡ length C - 1 - q = omega (arith, x-depth) in
        let back : b ≡ length C - 1 - p = omega (arith, w.from) in
        record { is = λ first slots room os. rw (← floor, y, ← floor, x-giver, down, back); fit = λ _. (omega arith, omega arith) }

  pub x-pass : (p : ℕ) → lowest p (min (length C) (length T)) (can_be_set_right C T f) ≡ lowest f (min (length C) (length T)) (can_be_set_right C T f)
      → min (length C) (length T) ≤ p → (L : List ℕ) (D : ℕ) → Chosen 0 C T L c S D rule_x (Ok none)
  unfolding rule_x
  x-pass p k l L D =
      let y = lowest-out f (min (length C) (length T)) p (can_be_set_right C T f) l k in
      record { is = λ first slots room os. rw (← floor, y); fit = λ _. omega arith }
