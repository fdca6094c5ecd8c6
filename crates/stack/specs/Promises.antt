-- What the calls of this crate promise: which field of a stack is which of scope's.
use Rattle.std.specs.Prelude.{ℕ, ◌-◌, ◌≡◌, List, [], ◌++◌, length, get_or, take, replicate, eqb, leb, if◌then◌else◌, Result, Ok, Err}
use Rattle.scope.specs.Words.{Stack, stack_of}
use Rattle.scope.specs.Stack.{fifo, kept}
use Rattle.scope.specs.declared.Refusal.{Refusal}
use Rattle.scope.specs.declared.Refusal.TheVariants.{Empty, Outside}
use Rattle.stack.specs.declared.EvmStack.{EvmStack}

-- the stack that an `EvmStack` keeps, and its values
abbrev pub stack_in : EvmStack → Stack
stack_in s = kept s.stack_raw s.stack_len

abbrev pub values_in : EvmStack → List ℕ
values_in s = fifo s.stack_raw s.stack_len

-- an array in which nothing is kept yet
abbrev pub blank : List ℕ
blank = replicate 1024 0

-- an array with these values at its end; the words before them are as they were
unfoldable pub laid : List ℕ → List ℕ → List ℕ
laid l raw = take (length raw - length l) raw ++ l

-- the value at a depth
abbrev pub value_at : ℕ → List ℕ → Result ℕ Refusal
value_at k l = if eqb (length l) 0 then Err Empty else (if leb (length l) k then Err Outside else Ok (get_or l k 0))

-- A stack with nothing in it yet: no values, and every word is 0.
pub record Fresh (s : EvmStack) : Type 0 where
  pub stack : stack_in s ≡ stack_of []
  pub words : s.stack_raw ≡ blank
