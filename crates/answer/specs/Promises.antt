-- What writing an answer leaves. The operations come as words; what words say is said here, for any words.
use Rattle.std.specs.Prelude.{ℕ, ◌*◌, List, [], ◌∷◌, ◌++◌, length, replicate, leb, ltb, if◌then◌else◌}
use Rattle.std.specs.Prelude.{Option, None as none, Some as some, Result as Outcome, Ok, Err, ◌≡◌}
use Rattle.scope.specs.declared.Op.{Op}
use Rattle.scope.specs.declared.Op.TheVariants.{Swap, Dup, Pop, Store, Load}
use Rattle.scope.specs.Machine.{record_words, gas_total}
use Rattle.scope.specs.Shuffle.{Result}
use Rattle.scope.specs.Replay.{decoded}
use Rattle.scope.specs.Stack.{decimal}
use Rattle.scope.specs.JobFile.{op_lines, answer_lines, driver_room}
use Rattle.printing.specs.Promises.{Placed, placed}
use Rattle.answer.specs.declared.Answer.{Answer}
use Rattle.answer.specs.declared.Measured.{Measured}
use Rattle.answer.specs.declared.Unwritten.{Unwritten}
use Rattle.answer.specs.declared.Unwritten.TheVariants.{NoRoom, NoOperations}

-- ---- What words say

-- a depth is a byte
abbrev pub shallow : Option Op → Option Op
shallow none = none
shallow (some (Swap k)) = if leb k 255 then some (Swap k) else none
shallow (some (Dup k)) = if leb k 255 then some (Dup k) else none
shallow (some Pop) = some Pop
shallow (some (Store id)) = some (Store id)
shallow (some (Load id)) = some (Load id)

-- the operation of a kind and an argument
unfoldable pub said : ℕ → ℕ → Option Op
said k a = shallow (decoded k a)

-- the operations that words say; none where one record says none, or a word is left over
abbrev pub one_more : Option Op → Option (List Op) → Option (List Op)
one_more none rest = none
one_more (some o) none = none
one_more (some o) (some os) = some (o ∷ os)

unfoldable pub ops_in : List ℕ → Option (List Op)
ops_in [] = some []
ops_in (k ∷ []) = none
ops_in (k ∷ a ∷ ws) = let rest = ops_in ws in one_more (said k a) rest

-- every depth of a list of operations is a byte, as those of the code's own operations are
pub data AllShallow : List Op → Type 0 where
  no-ops : AllShallow []
  one-op : (o : Op) (os : List Op) → shallow (some o) ≡ some o → AllShallow os → AllShallow (o ∷ os)

-- ---- What a leaf works out

-- the bytes of the operations' lines, and their gas
abbrev pub measured : Option (List Op) → Option Measured
measured none = none
measured (some os) = some (record { len = length (op_lines os); gas = gas_total os })

-- the first line, as scope's `answer_lines` has it
abbrev pub first_line : Answer → ℕ → ℕ → List ℕ
first_line a ops gas =
    (97 ∷ 110 ∷ 115 ∷ 119 ∷ 101 ∷ 114 ∷ 32 ∷ []) ++ decimal a.code
    ++ (32 ∷ 115 ∷ 104 ∷ 114 ∷ 105 ∷ 110 ∷ 107 ∷ 32 ∷ []) ++ decimal a.shrink_ticks
    ++ (32 ∷ 103 ∷ 114 ∷ 111 ∷ 119 ∷ 32 ∷ []) ++ decimal a.grow_ticks
    ++ (32 ∷ 111 ∷ 112 ∷ 115 ∷ 32 ∷ []) ++ decimal ops
    ++ (32 ∷ 115 ∷ 108 ∷ 111 ∷ 116 ∷ 115 ∷ 32 ∷ []) ++ decimal a.slots
    ++ (32 ∷ 103 ∷ 97 ∷ 115 ∷ 32 ∷ []) ++ decimal gas ++ (10 ∷ [])

-- ---- What is written

-- the result that the lines show: of the slots they say the number alone, of the stack nothing
abbrev pub shown : Answer → List Op → Result
shown a os = record { code = a.code; shrink_ticks = a.shrink_ticks; grow_ticks = a.grow_ticks; ops = os; spilled = replicate a.slots 0; stack = [] }

-- an answer, with the buffer as it is then
pub record Writing : Type 0 where
  pub answer : Outcome ℕ Unwritten
  pub buffer : List ℕ

abbrev pub written_of : Outcome ℕ Unwritten → List ℕ → Writing
written_of r buffer = record { answer = r; buffer = buffer }

abbrev pub answer_of : Option ℕ → Outcome ℕ Unwritten
answer_of none = Err NoRoom
answer_of (some n) = Ok n

abbrev pub as_written : Placed → Writing
as_written p = written_of (answer_of p.wrote) p.buffer

-- the lines at the low end of the buffer, if they fit and the words say operations, no more than the driver lends
abbrev pub writes_ops : Answer → Option (List Op) → List ℕ → Writing
writes_ops a none lent = written_of (Err NoOperations) lent
writes_ops a (some os) lent = as_written (placed (answer_lines (shown a os)) 0 lent)

unfoldable pub writes : Answer → List ℕ → List ℕ → Writing
writes a words lent = if ltb (record_words * driver_room) (length words) then written_of (Err NoOperations) lent else writes_ops a (ops_in words) lent
