-- `find` over a range is scope's search for the lowest number.
use Rattle.std.proofs.Common.{ℕ, ◌<◌, ◌≤◌, ◌≡◌, Bool, true, false, List, Option, None as none, Some as some, refl, sym, ap, ◌∙◌, arith, Bor}
use Rattle.std.specs.Prelude.{MatchOption, ⊤}
use Rattle.std.specs.declared.ops.Range.{Range}
use Rattle.std.specs.Fn.{CalledAt}
use Rattle.std.specs.Iterator.{YieldsThen}
use Rattle.std.specs.List.{FoldsTo}
use Rattle.std.proofs.iter.Yields.{nat_range_steps}
use Rattle.std.proofs.lemmas.Iterator.{first_from_Range}
use denote.Param.Members.{Mut}
use native.Mathlib.Decide.{dec_lt}
use mathlib.Core.Bool.{true≢false}
use Rattle.scope.specs.Words.{lowest}
use Rattle.scope.proofs.Walks.{Lowest, lowest-some, lowest-none}

-- what has the property with nothing below it is the lowest
lowest-is : (a b p : ℕ) (is : ℕ → Bool) → a ≤ p → p < b → is p ≡ true → ((k : ℕ) → a ≤ k → k < p → is k ≡ false) → some p ≡ lowest a b is
lowest-is a b p is low high has lower = go (lowest a b is) refl
  where
    go : (r : Option ℕ) → lowest a b is ≡ r → some p ≡ lowest a b is
    go none e = absurd (true≢false (sym has ∙ lowest-none a b is e p low high))
    go (some q) e = pick (dec_lt q p) (dec_lt p q) (lowest-some a b is q e)
      where
        pick : Dec (q < p) → Dec (p < q) → Lowest a b is q → some p ≡ lowest a b is
        pick (yes l) g y = absurd (true≢false (sym y.has ∙ lower q y.from l))
        pick (no l) (yes g) y = absurd (true≢false (sym has ∙ y.none-lower p low g))
        pick (no l) (no g) y = let z : p ≡ q = omega arith in ap some z ∙ sym e

-- where nothing has it there is none
lowest-isnt : (a b : ℕ) (is : ℕ → Bool) → ((k : ℕ) → a ≤ k → k < b → is k ≡ false) → none ≡ lowest a b is
lowest-isnt a b is lacks = go (lowest a b is) refl
  where
    go : (r : Option ℕ) → lowest a b is ≡ r → none ≡ lowest a b is
    go none e = sym e
    go (some q) e = let y = lowest-some a b is q e in absurd (true≢false (sym y.has ∙ lacks q y.from y.below))

decided : (a b : ℕ) (is : ℕ → Bool) (r : Option ℕ)
    → MatchOption r ((k : ℕ) → a ≤ k → k < b → is k ≡ false) (λ i. (a ≤ i) × (i < b) × (is i ≡ true) × ((k : ℕ) → a ≤ k → k < i → is k ≡ false))
    → r ≡ lowest a b is
decided a b is none h = lowest-isnt a b is h
decided a b is (some p) h = lowest-is a b p is h.0 h.1 h.2 h.3

pub lowest_by_find : {F : Type 0} {g : Mut F (Bor ℕ × Unit {0}) Bool} (s u : Range ℕ) (f : F) (r : Option ℕ) (a b : ℕ) (is : ℕ → Bool)
    → (xs : List ℕ) × (j : F) × YieldsThen nat_range_steps s xs r u × FoldsTo (λ p x q. CalledAt g p x false q) f xs j × MatchOption r ⊤ (λ x. (h : F) × CalledAt g j x true h)
    → s.start ≡ a → s.end ≡ b
    → ((x : ℕ) (y : Bool) (q : F) → CalledAt g f x y q → (q ≡ f) × (y ≡ is x))
    → r ≡ lowest a b is
lowest_by_find s u f r a b is ran from to computes =
    rw (← from, ← to) (decided s.start s.end is r
    (first_from_Range s u f r (λ i. is i ≡ true) (λ i. is i ≡ false) ran (λ x q c. sym (computes x true q c).1) (λ x q c. ((computes x false q c).0, sym (computes x false q c).1))))
