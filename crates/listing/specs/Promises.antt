-- What is read of a list's text.
use Rattle.std.specs.Prelude.{ℕ, ◌+◌, ◌*◌, ◌≤◌, ◌≡◌, List, length, set, drop, Result, Ok, Err}
use Rattle.reader.specs.declared.Record.{Record}
use Rattle.listing.specs.declared.Unlisted.{Unlisted}
use Rattle.listing.specs.declared.ListError.{ListError}

-- an operation's words stored after so many operations, where there is room for them
pub record Stored (ops : ℕ) (o : Record) (r : Result Unit Unlisted) (before after : List ℕ) : Type 0 where
  pub taken : r ≡ Ok tt → (2 * ops + 2 ≤ length before) × (after ≡ set (set before (2 * ops) o.kind) (2 * ops + 1) o.argument)
  pub full : (e : Unlisted) → r ≡ Err e → after ≡ before

-- the operations that are counted fit, and the words beyond them are as lent
pub record Lists (ops : ℕ) (before after : List ℕ) : Type 0 where
  pub fits : 2 * ops ≤ length after
  pub long : length after ≡ length before
  pub beyond : drop (2 * ops) after ≡ drop (2 * ops) before

-- one line more of a list
pub record Takes (ops more : ℕ) (words after : List ℕ) : Type 0 where
  pub keeps : (before : List ℕ) → Lists ops before words → Lists more before after

-- how many operations there are after a line, taken or refused
abbrev pub taken : ℕ → Result ℕ Unlisted → ℕ
taken ops (Ok more) = more
taken ops (Err why) = ops

-- how many operations a list has, read to its end or up to the line that is refused
abbrev pub counted : Result ℕ ListError → ℕ
counted (Ok ops) = ops
counted (Err refused) = refused.ops
