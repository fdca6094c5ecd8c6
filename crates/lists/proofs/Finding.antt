-- Std's walks over a slice are scope's.
use Rattle.std.proofs.Common.{ℕ, zero, suc, ◌+◌, ◌-◌, ◌≤◌, ◌≡◌, Bool, true, false, List, [], ◌∷◌, Option}
use Rattle.std.proofs.Common.{refl, sym, ◌∙◌, cond, nat_eq, length, take, drop, arith}
use Rattle.std.specs.Prelude.{position, count_by, if◌then◌else◌}
use Rattle.std.proofs.lemmas.List.Recursion.{is_count_by}
use Rattle.std.specs.List.{list_any, position_from}
use Rattle.std.specs.Cmp.Lexicographic.{pointwise}
use Rattle.std.proofs.lemmas.Iterator.Adapters.{position_from-zero}
use native.Mathlib.Numerals.{add-one}
use lib.ListN.{drop_of_length-le}
use lib.Seq.{drop-cons, take_all}
use Rattle.scope.specs.Words.{◌∈◌, count, lowest, seek, holds, first_of, same_list}

any-in : (v : ℕ) (l : List ℕ) → list_any (λ y. nat_eq y v) l ≡ (v ∈ l)
unfolding ◌∈◌
any-in v [] = refl
any-in v (x ∷ l) = rw (any-in v l) refl

-- `contains`
pub in_list : (b : Bool) (v : ℕ) (l : List ℕ) → b ≡ list_any (λ y. nat_eq y v) l → b ≡ (v ∈ l)
in_list b v l h = h ∙ any-in v l

counted : (v : ℕ) (l : List ℕ) → count_by (λ x. nat_eq x v) l ≡ count v l
unfolding count
counted v l = sym (is_count_by (count v) (λ x. nat_eq x v) refl (λ x xs. step (nat_eq x v) (count v xs)) l)
  where
    step : (b : Bool) (n : ℕ) → (if b then suc n else n) ≡ cond b (1 + n) n
    step true n = omega arith
    step false n = refl

-- a count by hand, when all is passed
pub count_list : (n i v : ℕ) (l : List ℕ) → n ≡ count_by (λ x. nat_eq x v) (take i l) → length l ≤ i → n ≡ count v l
count_list n i v l h out = rw take_all at h ∙ counted v l

same : (a b : List ℕ) → pointwise nat_eq a b ≡ same_list a b
unfolding same_list
same [] [] = refl
same [] (y ∷ b) = refl
same (x ∷ a) [] = refl
same (x ∷ a) (y ∷ b) = rw (same a b) refl

-- `==`
pub same_slices : (r : Bool) (a b : List ℕ) → r ≡ pointwise nat_eq a b → r ≡ same_list a b
same_slices r a b h = h ∙ same a b

from-on : (v : ℕ) (l : List ℕ) (k i : ℕ) → i + k ≡ length l → position_from (λ x. nat_eq x v) i (drop i l) ≡ seek k i (holds l v)
unfolding seek holds
from-on v l zero i h = rw (drop_of_length-le l {i = i} (omega arith)) refl
from-on v l (suc k) i h = rw (drop-cons l i 0 (omega arith), add-one i, from-on v l k (suc i) (omega arith)) refl

-- `position`
pub first_position : (r : Option ℕ) (v : ℕ) (l : List ℕ) → r ≡ position (λ x. nat_eq x v) l → r ≡ first_of v l
unfolding first_of lowest
first_position r v l h =
    let all : length l - 0 ≡ length l = omega arith in
    rw all (h ∙ position_from-zero (λ x. nat_eq x v) l ∙ from-on v l (length l) 0 (omega arith))
