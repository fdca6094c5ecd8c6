-- A line that is the same as an operation's form is that operation; a list's words grow at their end.
use Prim.Native.Nat.{ℕ, ◌+◌, ◌*◌}
use native.Mathlib.Omega.{arith}
use Rattle.std.proofs.lemmas.Bool.Decides.{Decides-eqb}
use Rattle.std.proofs.lemmas.Slice.Eq.{slice_eq-Decides}
use mathlib.Core.Bool.{Bool, true}
use lib.Dec.{eqb}
use lib.Pointwise.{pointwise}
use mathlib.Core.Path.{◌≡◌, sym, ap, ◌∙◌}
use Rattle.std.proofs.Common.{Result, Ok}
use mathlib.Core.List.{List}
use lib.ListN.{length, set, take, drop, replicate, length-set}
use lib.Seq.{sets-eq, take_at, drop-set-lt, drop-drop}
use Rattle.reader.specs.declared.Record.{Record}
use Rattle.printing.specs.Promises.{Lays}
use Rattle.lines.specs.Promises.{spelled}
use Rattle.lines.proofs.Parts.{spelled-short}
use Rattle.listing.specs.Promises.{Stored, Lists, Takes}
use Rattle.listing.specs.declared.Unlisted.{Unlisted}

-- ---- One line

form : (k a len : ℕ) (text : List ℕ) → Lays (replicate 56 0) 0 (spelled k a) text len → take len text ≡ spelled k a
form k a len text h =
    let s = spelled-short k a in
    let e : length (spelled k a) ≡ len = omega (arith, h.next-is) in
    ap (λ (m : List ℕ). take len m) (h.bytes-are ∙ sets-eq (spelled k a) (replicate 56 0) 0 (omega arith)) ∙ take_at (spelled k a) (drop (0 + length (spelled k a)) (replicate 56 0)) len e

pub read-it : (line text : List ℕ) (k a len : ℕ) (b : Bool) → Lays (replicate 56 0) 0 (spelled k a) text len → b ≡ pointwise eqb line (take len text) → b ≡ true → line ≡ spelled k a
read-it line text k a len b h e t = (slice_eq-Decides Decides-eqb line (take len text) b e).0 t ∙ form k a len text h

-- ---- The words

so-one : {ops : ℕ} {o : Record} {r : Result Unit Unlisted} {before now now₁ : List ℕ} → Lists ops before now → Stored ops o r now now₁ → r ≡ Ok tt → Lists (ops + 1) before now₁
so-one {ops} {o} {before = before} {now = now} s t e =
    let w = t.taken e in
    let f = w.0 in
    let l : length (set (set now (2 * ops) o.kind) (2 * ops + 1) o.argument) ≡ length now = length-set (set now (2 * ops) o.kind) (2 * ops + 1) o.argument ∙ length-set now (2 * ops) o.kind in
    let m : 2 * (ops + 1) ≡ 2 * ops + 2 = omega arith in
    let d : drop (2 * (ops + 1)) now ≡ drop (2 * (ops + 1)) before = rw m (sym (drop-drop 2 (2 * ops) now) ∙ ap (λ (r : List ℕ). drop 2 r) s.beyond ∙ drop-drop 2 (2 * ops) before) in
    rw w.1 (record {
      fits = omega (arith, l, f);
      long = l ∙ s.long;
      beyond = drop-set-lt (2 * (ops + 1)) (set now (2 * ops) o.kind) (2 * ops + 1) o.argument (omega arith) ∙ drop-set-lt (2 * (ops + 1)) now (2 * ops) o.kind (omega arith) ∙ d;
    })

pub takes_one : (ops : ℕ) (o : Record) (r : Result Unit Unlisted) (words after : List ℕ) → Stored ops o r words after → r ≡ Ok tt → Takes ops (ops + 1) words after
takes_one ops o r words after t e = record { keeps = λ before h. so-one h t e }
