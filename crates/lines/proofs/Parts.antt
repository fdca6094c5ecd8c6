-- The text of each part, case by case: what the code lays is what the definition says.
use Prim.Native.Nat.{ℕ, suc, ◌+◌, ◌-◌, ◌≤◌, ◌<◌, min}
use native.Mathlib.Omega.{arith}
use native.Mathlib.Numerals.{add-one}
use mathlib.Core.Path.{◌≡◌, refl, sym, ap, subst, ◌∙◌}
use mathlib.Core.Bool.{Bool, true, false}
use Rattle.std.proofs.Common.{Option, None as none, Some as some}
use mathlib.Core.List.{List, [], ◌∷◌, ◌++◌}
use lib.ListN.{length, get_or, take, drop, length-append, drop_of_length-le}
use lib.Seq.{sets, set_out, length-sets, drop-cons}
use Rattle.std.proofs.lemmas.List.{take_min}
use lib.Dec.{leb}
use borrow.Author.Tests.{lt-ltb, ne_eqb, leb-true, leb-false}
use Rattle.scope.specs.declared.Op.{Op}
use Rattle.scope.specs.declared.Op.TheVariants.{Swap, Dup, Pop, Store, Load}
use Rattle.scope.specs.Replay.{decoded}
use Rattle.scope.specs.Stack.{decimal, printed, stack_op}
use Rattle.printing.specs.Promises.{Lays}
use Rattle.printing.proofs.Laying.{then}
use Rattle.printing.proofs.Digits.{twenty}
use Rattle.lines.specs.Promises.{blanks, spelled_op, spelled, each, rest_of, values_text, slot_text, each_slot, front_of, slots_text}
use Rattle.lines.proofs.Laying.{Going, goes_on, gone}

-- ---- Columns

sets-out : (l : List ℕ) (i : ℕ) (bs : List ℕ) → length l ≤ i → sets l i bs ≡ l
sets-out l i [] h = refl
sets-out l i (b ∷ bs) h = rw (set_out l i b h) (sets-out l (suc i) bs (omega arith))

-- past the buffer's end it does not matter how many blanks follow
module _ {l : List ℕ} {at : ℕ} {t m : List ℕ} {e : ℕ} (first : Lays l at t m e) (width : ℕ) {l₂ : List ℕ} {e₂ : ℕ} (second : Lays m e (blanks (width - (e - at))) l₂ e₂) where
  same_blanks : (b : Bool) → leb (at + length t) (length l) ≡ b → Lays m e (blanks (width - length t)) l₂ e₂
  same_blanks true f =
      let h = leb-true (at + length t) (length l) f in
      let q : e - at ≡ length t = omega (arith, first.next-is) in
      subst (λ (n : ℕ). Lays m e (blanks (width - n)) l₂ e₂) q second
  same_blanks false f =
      let h = leb-false (at + length t) (length l) f in
      let long : length m ≡ length l = ap length first.bytes-are ∙ length-sets l at t in
      let past : length m ≤ e = omega (arith, first.next-is) in
      record {
        bytes-are = second.bytes-are ∙ sets-out m e (blanks (width - (e - at))) past ∙ sym (sets-out m e (blanks (width - length t)) past);
        next-is = omega (arith, second.next-is);
      }

  pub padded : Lays l at (t ++ blanks (width - length t)) l₂ e₂
  padded = then first (same_blanks (leb (at + length t) (length l)) refl)

-- ---- What follows the values, where not all are shown

module _ {l : List ℕ} {at : ℕ} {m : List ℕ} {e : ℕ} where
  pub rest_more : (n : ℕ) {l₂ : List ℕ} {e₂ : ℕ} → (n ≡ 0 → ⊥) → 17 < n → Lays l at ((32 ∷ 46 ∷ 46 ∷ 46 ∷ 32 ∷ 40 ∷ []) ++ decimal n) m e → Lays m e (32 ∷ 105 ∷ 110 ∷ 32 ∷ 97 ∷ 108 ∷ 108 ∷ 41 ∷ []) l₂ e₂ → Lays l at (rest_of n) l₂ e₂
  rest_more n {l₂} {e₂} c g h k = rw (ne_eqb n 0 c, lt-ltb 17 n g) (then h k)

-- ---- An operation is short

printed-short : (o : Op) → length (printed (stack_op o)) ≤ 56
printed-short (Swap k) = let h = twenty k in simp length-append (omega arith)
printed-short (Dup k) = let h = twenty k in simp length-append (omega arith)
printed-short Pop = omega arith
printed-short (Store id) = let h = twenty id in simp length-append (omega arith)
printed-short (Load id) = let h = twenty id in simp length-append (omega arith)

spelled_op-short : (k a : ℕ) (o : Option Op) → length (spelled_op k a o) ≤ 56
spelled_op-short k a none = let h = twenty k in let g = twenty a in simp length-append (omega arith)
spelled_op-short k a (some o) = printed-short o

pub spelled-short : (k a : ℕ) → length (spelled k a) ≤ 56
unfolding spelled
spelled-short k a = spelled_op-short k a (decoded k a)

-- ---- The loops over values and over slots

module _ {l : List ℕ} {at : ℕ} {now : List ℕ} {end : ℕ} {now₁ : List ℕ} {end₁ : ℕ} where
  pub values-on : (values whole : List ℕ) (i v : ℕ) → i < length values → v ≡ get_or values i 0 → Going l at whole (each (drop i values)) now end → Lays now end (32 ∷ decimal v) now₁ end₁ → Going l at whole (each (drop (i + 1) values)) now₁ end₁
  unfolding each
  values-on values whole i v h c g k =
      rw add-one (goes_on (subst (λ (t : List ℕ). Going l at whole (each t) now end) (drop-cons values i 0 h) g) (subst (λ (x : ℕ). Lays now end (32 ∷ decimal x) now₁ end₁) c k))

  pub values-end : (values : List ℕ) (i n : ℕ) → n ≡ min 17 (length values) → length (take n values) ≤ i → Going l at (each (take n values)) (each (drop i (take n values))) now end → Lays now end (rest_of (length values)) now₁ end₁ → Lays l at (values_text values) now₁ end₁
  unfolding each values_text
  values-end values i n c h g k =
      let none_left : drop i (take n values) ≡ [] = drop_of_length-le (take n values) h in
      let all = gone (subst (λ (t : List ℕ). Going l at (each (take n values)) (each t) now end) none_left g) in
      then (subst (λ (t : List ℕ). Lays l at (each t) now end) (ap (λ (k : ℕ). take k values) c ∙ take_min 17 values) all) k

  pub slots-on : (first : ℕ) (slots whole : List ℕ) (i : ℕ) → i < length slots → Going l at whole (each_slot first i (drop i slots)) now end → Lays now end (slot_text first i (get_or slots i 0)) now₁ end₁ → Going l at whole (each_slot first (i + 1) (drop (i + 1) slots)) now₁ end₁
  unfolding each_slot
  slots-on first slots whole i h g k =
      rw add-one (goes_on (subst (λ (t : List ℕ). Going l at whole (each_slot first i t) now end) (drop-cons slots i 0 h) g) k)

pub slots_end : (first : ℕ) (slots : List ℕ) (i₀ i : ℕ) {l m now : List ℕ} {at e end : ℕ} → Lays l at (front_of (length slots)) m e → i₀ ≡ length slots - 8 → length slots ≤ i → Going m e (each_slot first i₀ (drop i₀ slots)) (each_slot first i (drop i slots)) now end → Lays l at (slots_text first slots) now end
unfolding each_slot slots_text
slots_end first slots i₀ i {m = m} {now} {e = e} {end} h c d g =
    let none_left : drop i slots ≡ [] = drop_of_length-le slots d in
    let k = gone (subst (λ (t : List ℕ). Going m e (each_slot first i₀ (drop i₀ slots)) (each_slot first i t) now end) none_left g) in
    then h (subst (λ (x : ℕ). Lays m e (each_slot first x (drop x slots)) now end) c k)
