-- What a call that lays text into a lent buffer leaves, and the text of each part of a trace.
use Rattle.std.specs.Prelude.{ℕ, suc, ◌+◌, ◌-◌, min, List, [], ◌∷◌, ◌++◌, length, take, drop, replicate, eqb, ltb, if◌then◌else◌}
use Rattle.std.specs.Prelude.{Option, None as none, Some as some}
use Rattle.scope.specs.declared.Op.{Op}
use Rattle.scope.specs.Codes.{MAX-GAS}
use Rattle.scope.specs.Replay.{decoded}
use Rattle.scope.specs.Stack.{decimal, printed, stack_op}
use Rattle.printing.specs.Promises.{Lays}

-- ---- Text in a buffer

-- some text, where only this is promised: the bytes before the place and after what fitted are as they were lent
pub record Wrote (lent : List ℕ) (at : ℕ) (left : List ℕ) (next : ℕ) : Type 0 where
  pub text : List ℕ
  pub lays : Lays lent at text left next

-- ---- Columns

-- so many blanks, eighteen at most
abbrev pub blanks : ℕ → List ℕ
blanks n = take (min n 18) (replicate 18 32)

-- a number, and blanks up to a width
abbrev pub column : ℕ → ℕ → List ℕ
column n width = decimal n ++ blanks (width - length (decimal n))

-- "kind K argument A": two words that are no operation
abbrev pub no_operation : ℕ → ℕ → List ℕ
no_operation k a = ((107 ∷ 105 ∷ 110 ∷ 100 ∷ 32 ∷ []) ++ decimal k) ++ ((32 ∷ 97 ∷ 114 ∷ 103 ∷ 117 ∷ 109 ∷ 101 ∷ 110 ∷ 116 ∷ 32 ∷ []) ++ decimal a)

-- an operation's words as the driver prints them
abbrev pub spelled_op : ℕ → ℕ → Option Op → List ℕ
spelled_op k a none = no_operation k a
spelled_op k a (some o) = printed (stack_op o)

unfoldable pub spelled : ℕ → ℕ → List ℕ
spelled k a = spelled_op k a (decoded k a)

-- ---- Values and slots

-- how many values, and how many slots, are shown
abbrev pub shown_values : ℕ
shown_values = 17

abbrev pub shown_slots : ℕ
shown_slots = 8

-- a blank and a number for each value
unfoldable pub each : List ℕ → List ℕ
each [] = []
each (v ∷ vs) = let rest = each vs in (32 ∷ decimal v) ++ rest

-- after the values: " -" where there is none, " ... (N in all)" where there are more than are shown
abbrev pub rest_of : ℕ → List ℕ
rest_of n =
    if eqb n 0 then (32 ∷ 45 ∷ [])
    else (if ltb shown_values n then (32 ∷ 46 ∷ 46 ∷ 46 ∷ 32 ∷ 40 ∷ []) ++ decimal n ++ (32 ∷ 105 ∷ 110 ∷ 32 ∷ 97 ∷ 108 ∷ 108 ∷ 41 ∷ []) else [])

unfoldable pub values_text : List ℕ → List ℕ
values_text l = each (take shown_values l) ++ rest_of (length l)

-- the number of a slot by its place, as far as 64 bits hold it, and what it holds: " 5=7"
abbrev pub slot_number : ℕ → ℕ → ℕ
slot_number first i = min MAX-GAS (first + i)

abbrev pub slot_text : ℕ → ℕ → ℕ → List ℕ
slot_text first i v = (32 ∷ decimal (slot_number first i)) ++ (61 ∷ decimal v)

-- the slots from a place on
unfoldable pub each_slot : ℕ → ℕ → List ℕ → List ℕ
each_slot first i [] = []
each_slot first i (v ∷ vs) = let rest = each_slot first (suc i) vs in slot_text first i v ++ rest

-- before the slots: " -" where there is none, " ..." where there are more than are shown
abbrev pub front_of : ℕ → List ℕ
front_of n = if eqb n 0 then (32 ∷ 45 ∷ []) else (if ltb shown_slots n then (32 ∷ 46 ∷ 46 ∷ 46 ∷ []) else [])

-- the latest slots; first is the number of the first one
unfoldable pub slots_text : ℕ → List ℕ → List ℕ
slots_text first l = front_of (length l) ++ each_slot first (length l - shown_slots) (drop (length l - shown_slots) l)

-- ---- Lines

-- an operation's form, and blanks up to eighteen bytes
abbrev pub operation_column : ℕ → ℕ → List ℕ
operation_column k a = spelled k a ++ blanks (18 - length (spelled k a))

-- an operation's index and its form
abbrev pub turn_text : ℕ → ℕ → ℕ → List ℕ
turn_text index k a = column index 6 ++ operation_column k a

-- how many positions are completed, and the stack
abbrev pub state_text : ℕ → List ℕ → List ℕ
state_text done values = column done 5 ++ values_text values

-- a name, values, and the line's end
abbrev pub list_text : List ℕ → List ℕ → List ℕ
list_text name values = name ++ values_text values ++ (10 ∷ [])
