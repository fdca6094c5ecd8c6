-- Counts and the latest entry, block after block.
use Rattle.std.proofs.Common.{ℕ, zero, suc, ◌+◌, ◌-◌, ◌<◌, ◌≤◌, ◌≡◌, Bool, true, false, List, [], ◌∷◌, Option, None as none, Some as some}
use Rattle.std.proofs.Common.{refl, sym, ap, ◌∙◌, length, get_or, take, drop, arith}
use lib.ListN.{take-append-drop, length-drop}
use lib.Seq.{take-suc, get_or-drop, get_or-take, take_all}
use lib.Dec.{eqb}
use borrow.Author.Tests.{eq-eqb, ne_eqb}
use Rattle.scope.specs.Words.{count, highest, holds, latest_of}
use Rattle.scope.proofs.Counts.{one_hit, count-cons, count-append}
use Rattle.scope.proofs.Walks.{highest-hit, highest-miss}

module _ (v n k m size : ℕ) (rest block after : List ℕ) where
  -- a block of the rest is counted
  pub counted_on : block ≡ take size rest → after ≡ drop size rest → k ≡ count v block → n + count v rest ≡ m → n + k + count v after ≡ m
  counted_on is next block-has so =
      let split : count v rest ≡ count v block + count v after =
      rw (is, next) (ap (count v) (sym (take-append-drop size rest)) ∙ count-append v (take size rest) (drop size rest)) in
      omega (arith, split)

-- a value that is counted nowhere in a list with x at its end is not x
not_last : (v x n : ℕ) → n + count v (x ∷ []) ≡ 0 → eqb x v ≡ false
not_last v x n z = go (eqb x v) refl
  where
    go : (b : Bool) → eqb x v ≡ b → eqb x v ≡ false
    go true e = absurd (omega (arith, count-cons v x [], one_hit v x e))
    go false e = e

-- the k entries from i on lack v, so that none of them is the latest
skipped : (v : ℕ) (l : List ℕ) (i k : ℕ)
    → i + k ≤ length l → count v (take k (drop i l)) ≡ 0 → highest (i + k) (holds l v) ≡ highest i (holds l v)
unfolding holds
skipped v l i zero h z = let q : i + 0 ≡ i = omega arith in rw q
skipped v l i (suc k) h z =
    let inside : k < length (drop i l) = simp length-drop (omega arith) in
    let split : count v (take k (drop i l)) + count v (get_or (drop i l) k 0 ∷ []) ≡ 0 =
    sym (count-append v (take k (drop i l)) (get_or (drop i l) k 0 ∷ [])) ∙ ap (count v) (sym (take-suc (drop i l) k 0 inside)) ∙ z in
    let other : eqb (get_or l (i + k) 0) v ≡ false =
    rw get_or-drop at (not_last v (get_or (drop i l) k 0) (count v (take k (drop i l))) split) in
    let q : i + suc k ≡ i + k + 1 = omega arith in
    rw q (highest-miss (i + k) (holds l v) other ∙ skipped v l i k (omega arith) (omega arith))

-- what is below i alone decides
beginning : (v : ℕ) (l : List ℕ) (i k : ℕ) → k ≤ i → highest k (holds (take i l) v) ≡ highest k (holds l v)
unfolding highest holds
beginning v l i zero h = refl
beginning v l i (suc k) h = rw (get_or-take i l k 0 (omega arith), beginning v l i k (omega arith)) refl

-- A block of the list's end that lacks v is passed over.
pub end_lacks : (v n k : ℕ) (l before block : List ℕ) (m : Option ℕ)
    → before ≡ take (length l - n) l → block ≡ drop (length l - n) l → length before + n ≡ length l → k ≡ count v block → k ≤ 0
    → latest_of v l ≡ m → latest_of v before ≡ m
unfolding latest_of
end_lacks v n k l before block m is end long has lacks whole =
    let i : ℕ = length l - n in
    let short : length (drop i l) ≤ n = simp length-drop (omega arith) in
    let above : count v (take n (drop i l)) ≡ 0 = rw (take_all n (drop i l) short) (omega (arith, ap (count v) end)) in
    let up : i + n ≡ length l = omega arith in
    let down : length before ≡ i = omega arith in
    rw (down, is) (beginning v l i i (omega arith) ∙ sym (skipped v l i n (omega arith) above)
    ∙ ap (λ (j : ℕ). highest j (holds l v)) up ∙ whole)

-- downward: below i, and next at i - 1
module _ (v : ℕ) (l : List ℕ) (i : ℕ) (m : Option ℕ) (rest : highest i (holds l v) ≡ m) where
  step : 0 < i → i ≡ i - 1 + 1
  step h = omega arith

  pub last_found : 0 < i → get_or l (i - 1) 0 ≡ v → some (i - 1) ≡ m
  unfolding holds
  last_found h e = sym (highest-hit (i - 1) (holds l v) (eq-eqb (get_or l (i - 1) 0) v e))
      ∙ ap (λ (k : ℕ). highest k (holds l v)) (sym (step h)) ∙ rest

  pub last_again : 0 < i → (get_or l (i - 1) 0 ≡ v → ⊥) → highest (i - 1) (holds l v) ≡ m
  unfolding holds
  last_again h e = sym (highest-miss (i - 1) (holds l v) (ne_eqb (get_or l (i - 1) 0) v e))
      ∙ ap (λ (k : ℕ). highest k (holds l v)) (sym (step h)) ∙ rest

  pub last_out : i ≤ 0 → none ≡ m
  unfolding highest
  last_out h = let z : 0 ≡ i = omega arith in ap (λ (k : ℕ). highest k (holds l v)) z ∙ rest

pub ruleset last_walk = (end_lacks, last_found, last_again, last_out)
