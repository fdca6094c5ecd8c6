-- Pieces of text, one after the other, and the whole answer.
use Prim.Native.Nat.{ℕ, ◌+◌, ◌*◌, ◌/◌, ◌≤◌, ◌<◌, min}
use native.Mathlib.Omega.{arith}
use mathlib.Core.Path.{◌≡◌, refl, sym, ap, ◌∙◌}
use mathlib.Core.Bool.{Bool, true, false}
use Rattle.std.proofs.Common.{Option, None as none, Some as some, Ok, Err}
use Rattle.std.proofs.lemmas.Option.{none-some as none-ne-some, same_Some as some-injective}
use mathlib.Core.List.{List, [], ◌∷◌, ◌++◌, append_assoc}
use lib.ListN.{length, take, drop, length-append, length-replicate}
use lib.Seq.{sets-eq, take_at}
use lib.Dec.{leb}
use borrow.Author.Tests.{lt-ltb, le-ltb, lt-leb, leb-true, leb-false}
use Rattle.scope.specs.declared.Op.{Op}
use Rattle.scope.specs.Machine.{gas_total}
use Rattle.scope.specs.Stack.{decimal}
use Rattle.scope.specs.JobFile.{op_lines, answer_lines}
use Rattle.printing.specs.Promises.{Lays, placed}
use Rattle.printing.proofs.Digits.{twenty}
use Rattle.printing.proofs.Laying.{then, whole, placed-laid}
use Rattle.answer.specs.declared.Answer.{Answer}
use Rattle.answer.specs.declared.Measured.{Measured}
use Rattle.answer.specs.declared.Unwritten.TheVariants.{NoRoom, NoOperations}
use Rattle.answer.specs.Promises.{said, one_more, ops_in, measured, first_line, shown, writes, writes_ops, as_written, written_of}

-- a label after a text
pub label_after : {l : List ℕ} {at : ℕ} {a l₁ : List ℕ} {r₁ : ℕ} (t : List ℕ) (n : ℕ) {l₂ : List ℕ} {r₂ : ℕ} → Lays l at a l₁ r₁ → Lays l₁ r₁ (t ++ decimal n) l₂ r₂ → Lays l at (a ++ t ++ decimal n) l₂ r₂
label_after {a = a} t n first second = rw (append_assoc a t (decimal n)) (then first second)

-- six numbers of twenty digits at most, and the texts between them
short : (a : Answer) (ops gas : ℕ) → length (first_line a ops gas) ≤ 160
short a ops gas =
    simp length-append (omega (arith, twenty a.code, twenty a.shrink_ticks, twenty a.grow_ticks, twenty ops, twenty a.slots, twenty gas))

-- what stands at the low end is what was stored there
at-the-low-end : (l bytes l₁ : List ℕ) (next : ℕ) → Lays l 0 bytes l₁ next → length bytes ≤ length l → take next l₁ ≡ bytes
at-the-low-end l bytes l₁ next laid h =
    let k : 0 + length bytes ≤ length l = omega arith in
    let e : next ≡ length bytes = omega (arith, whole laid k) in
    rw (laid.bytes-are, e, sets-eq bytes l 0 k) (take_at bytes (drop (0 + length bytes) l) (length bytes) refl)

-- two words for each operation
two-each : (ws : List ℕ) (os : List Op) → ops_in ws ≡ some os → length ws ≡ 2 * length os
unfolding ops_in
two-each [] os h = rw (← some-injective [] os h) refl
two-each (k ∷ []) os h = absurd (none-ne-some os h)
two-each (k ∷ a ∷ ws) os h = go (said k a) (ops_in ws) refl h (two-each ws)
  where
    go : (o : Option Op) (r : Option (List Op)) → ops_in ws ≡ r → one_more o r ≡ some os → ((os : List Op) → ops_in ws ≡ some os → length ws ≡ 2 * length os)
        → length (k ∷ a ∷ ws) ≡ 2 * length os
    go none r f h rest = absurd (none-ne-some os h)
    go (some o) none f h rest = absurd (none-ne-some os h)
    go (some o) (some os') f h rest = rw (← some-injective (o ∷ os') os h) (omega (arith, rest os' f))

module _ (a : Answer) (ws lent : List ℕ) where
  pub too_many : 8192 < length ws → written_of (Err NoOperations) lent ≡ writes a ws lent
  unfolding writes
  too_many h = rw (lt-ltb 8192 (length ws) h)

  none-said : (r : Option (List Op)) → none ≡ measured r → written_of (Err NoOperations) lent ≡ writes_ops a r lent
  none-said none e = refl
  none-said (some os) e = absurd (none-ne-some _ e)

  pub no-operations : length ws ≤ 8192 → none ≡ measured (ops_in ws) → written_of (Err NoOperations) lent ≡ writes a ws lent
  unfolding writes
  no-operations h e = rw (le-ltb 8192 (length ws) h) (none-said (ops_in ws) e)

  -- all words say operations, and they are measured
  module _ (few : length ws ≤ 8192) (m : Measured) (all : some m ≡ measured (ops_in ws)) (little : m.gas ≤ 6 * length ws)
      (zeros bytes : List ℕ) (head : ℕ) (room : length zeros ≡ 160) (first : Lays zeros 0 (first_line a (length ws / 2) m.gas) bytes head) where
    record Said : Type 0 where
      os : List Op
      say : ops_in ws ≡ some os
      len : m.len ≡ length (op_lines os)
      gas : m.gas ≡ gas_total os

    said-all : Said
    said-all = go (ops_in ws) refl all
      where
        go : (r : Option (List Op)) → ops_in ws ≡ r → some m ≡ measured r → Said
        go none e h = absurd (none-ne-some m (sym h))
        go (some os) e h =
            let z = some-injective m _ h in
            record { os = os; say = e; len = ap (λ (n : Measured). n.len) z; gas = ap (λ (n : Measured). n.gas) z }

    line : List ℕ
    line = first_line a (length ws / 2) m.gas

    laid-line : Lays zeros 0 line bytes head
    unfolding line
    laid-line = first

    line-short : length line ≤ 160
    unfolding line
    line-short = short a (length ws / 2) m.gas

    head-is : head ≡ length line
    head-is = omega (arith, whole laid-line (omega (arith, line-short)))

    lines_are : (s : Said) → answer_lines (shown a s.os) ≡ line ++ op_lines s.os
    unfolding answer_lines line
    lines_are s =
        let c = two-each ws s.os s.say in
        let n : length ws / 2 ≡ length s.os = omega (arith, c) in
        let g : min 18446744073709551615 (gas_total s.os) ≡ gas_total s.os = omega (arith, s.gas) in
        rw (n, s.gas, g, length-replicate) refl

    writes-text : (s : Said) → writes a ws lent ≡ as_written (placed (line ++ op_lines s.os) 0 lent)
    unfolding writes
    writes-text s = rw (le-ltb 8192 (length ws) few, s.say) (ap (λ (t : List ℕ). as_written (placed t 0 lent)) (lines_are s))

    text-length : (s : Said) → length (line ++ op_lines s.os) ≡ head + m.len
    text-length s = simp length-append (omega (arith, head-is, s.len))

    module _ (b : Bool) (asked : b ≡ leb (0 + (head + m.len)) (length lent)) where
      pub does-not-fit : b ≡ false → written_of (Err NoRoom) lent ≡ writes a ws lent
      unfolding placed
      does-not-fit h =
          let s = said-all in
          let k = leb-false (0 + (head + m.len)) (length lent) (sym asked ∙ h) in
          rw (writes-text s, lt-leb (0 + length (line ++ op_lines s.os)) (length lent) (omega (arith, text-length s))) refl

      pub was-answered : b ≡ true → (l₁ l₂ : List ℕ) (r₁ r₂ : ℕ) → (low-bytes : List ℕ) → low-bytes ≡ bytes → Lays lent 0 (take head low-bytes) l₁ r₁ → ((os : List Op) → ops_in ws ≡ some os → Lays l₁ r₁ (op_lines os) l₂ r₂)
          → written_of (Ok r₂) l₂ ≡ writes a ws lent
      was-answered h l₁ l₂ r₁ r₂ low-bytes same low rest =
          let s = said-all in
          let k = leb-true (0 + (head + m.len)) (length lent) (sym asked ∙ h) in
          let z : take head bytes ≡ line = at-the-low-end zeros line bytes head laid-line (omega (arith, line-short)) in
          let g = then (rw (same, z) at low) (rest s.os s.say) in
          let fits : 0 + length (line ++ op_lines s.os) ≤ length lent = omega (arith, text-length s) in
          let n : r₂ ≡ length (line ++ op_lines s.os) = omega (arith, whole g fits) in
          sym (writes-text s ∙ rw (n, ← placed-laid g fits) refl)
