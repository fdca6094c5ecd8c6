-- What goes past the buffer's end leaves it as it is, so that one text after the other is both together.
use Prim.Native.Nat.{ℕ, zero, suc, ◌+◌, ◌-◌, ◌≤◌, ◌<◌, min}
use native.Mathlib.Omega.{arith}
use native.Mathlib.Nat.{add-zero, add-suc, suc-add}
use mathlib.Core.Path.{◌≡◌, refl, sym, ap, ◌∙◌}
use mathlib.Core.Bool.{Bool, true, false}
use mathlib.Core.List.{List, [], ◌∷◌, ◌++◌, append_assoc}
use Rattle.std.proofs.Common.{Some as some}
use lib.ListN.{length, set, take, length-append, length-take, length-set}
use borrow.Rule.Slice.PartMut.{put_mid}
use lib.Seq.{sets, sets-eq, length-sets, set_out, take_all, take-nil, drop-drop}
use lib.Dec.{leb}
use borrow.Author.Tests.{le-leb, leb-true, leb-false}
use Rattle.scope.specs.Machine.{over_from}
use Rattle.printing.specs.Promises.{Lays, placed}

-- ---- One run of bytes after the other, and past the end

pub sets-append : (l : List ℕ) (i : ℕ) (a b : List ℕ) → sets l i (a ++ b) ≡ sets (sets l i a) (i + length a) b
sets-append l i [] b = rw add-zero
sets-append l i (x ∷ a) b = rw (add-suc, ← suc-add) (sets-append (set l i x) (suc i) a b)

sets-out : (l : List ℕ) (i : ℕ) (bs : List ℕ) → length l ≤ i → sets l i bs ≡ l
sets-out l i [] h = refl
sets-out l i (b ∷ bs) h = rw (set_out l i b h) (sets-out l (suc i) bs (omega arith))

sets-cut : (l : List ℕ) (i : ℕ) (bs : List ℕ) (k : ℕ) → k ≡ length l - i → sets l i (take k bs) ≡ sets l i bs
sets-cut l i [] k e = rw (take-nil {A = ℕ} k)
sets-cut l i (b ∷ bs) zero e = sym (sets-out l i (b ∷ bs) (omega arith))
sets-cut l i (b ∷ bs) (suc k) e = sets-cut (set l i b) (suc i) bs k (rw (length-set l i b) (omega arith))

take-least : (n : ℕ) (bs : List ℕ) → take (min (length bs) n) bs ≡ take n bs
take-least n bs = go (leb (length bs) n) refl
  where
    go : (t : Bool) → leb (length bs) n ≡ t → take (min (length bs) n) bs ≡ take n bs
    go true e = let h = leb-true (length bs) n e in take_all (min (length bs) n) bs (omega arith) ∙ sym (take_all n bs h)
    go false e =
        let h = leb-false (length bs) n e in
        let m : min (length bs) n ≡ n = omega arith in
        ap (λ (k : ℕ). take k bs) m

over-sets : (bytes : List ℕ) (at : ℕ) (l : List ℕ) → at + length bytes ≤ length l → over_from at bytes l ≡ sets l at bytes
over-sets bytes at l h = rw (sets-eq, drop-drop, append_assoc)

-- ---- As much of a text as fits

pub fitted : (l : List ℕ) (at : ℕ) (text part : List ℕ) (n : ℕ) → at ≤ length l → n ≡ min (length text) (length l - at) → part ≡ take n text → Lays l at text (put_mid at n l part) (at + n)
fitted l at text part n inside least is =
    let k : length (take n text) ≡ n = omega (arith, length-take n text) in
    let e : sets l at (take n text) ≡ sets l at text = ap (λ (m : ℕ). sets l at (take m text)) least ∙ ap (λ (bs : List ℕ). sets l at bs) (take-least (length l - at) text) ∙ sets-cut l at text (length l - at) refl in
    record { bytes-are = rw (is, ← e, sets-eq (take n text) l at (omega arith), k, drop-drop, append_assoc) refl; next-is = omega arith }

pub past-end : (l : List ℕ) (at : ℕ) (text : List ℕ) → length l < at → Lays l at text l at
past-end l at text h = record { bytes-are = sym (sets-out l at text (omega arith)); next-is = omega arith }

-- ---- Nothing; one text after the other

pub none-laid : (l : List ℕ) (at : ℕ) → Lays l at [] l at
none-laid l at = record { bytes-are = refl; next-is = omega arith }

module _ {l : List ℕ} {at : ℕ} {a l₁ : List ℕ} {r₁ : ℕ} (first : Lays l at a l₁ r₁) where
  pub long : length l₁ ≡ length l
  long = ap length first.bytes-are ∙ length-sets l at a

  pub whole : at + length a ≤ length l → r₁ ≡ at + length a
  whole h = omega (arith, first.next-is)

  -- where it fits, it is placed
  pub placed-laid : at + length a ≤ length l → record { wrote = some (length a); buffer = l₁ } ≡ placed a at l
  unfolding placed
  placed-laid h = rw (le-leb (at + length a) (length l) h, over-sets a at l h, first.bytes-are)

module _ {l : List ℕ} {at : ℕ} {a l₁ : List ℕ} {r₁ : ℕ} (first : Lays l at a l₁ r₁) {b l₂ : List ℕ} {r₂ : ℕ} (second : Lays l₁ r₁ b l₂ r₂) where
  both : sets (sets l at a) r₁ b ≡ sets l at (a ++ b)
  both = sym (go (leb (at + length a) (length l)) refl) ∙ sym (sets-append l at a b)
    where
      go : (t : Bool) → leb (at + length a) (length l) ≡ t → sets (sets l at a) (at + length a) b ≡ sets (sets l at a) r₁ b
      go true t =
          let m : at + length a ≡ r₁ = sym (whole first (leb-true (at + length a) (length l) t)) in
          ap (λ (k : ℕ). sets (sets l at a) k b) m
      go false t =
          let h = leb-false (at + length a) (length l) t in
          let e = length-sets l at a in
          sets-out (sets l at a) (at + length a) b (omega arith) ∙ sym (sets-out (sets l at a) r₁ b (omega (arith, first.next-is)))

  pub then : Lays l at (a ++ b) l₂ r₂
  then = record {
    bytes-are = second.bytes-are ∙ ap (λ (m : List ℕ). sets m r₁ b) first.bytes-are ∙ both;
    next-is = simp length-append (omega (arith, long first, first.next-is, second.next-is));
  }
