-- The codes of faults.
use Rattle.std.specs.Prelude.{ℕ, Result, Ok, Err}
use Rattle.scope.specs.Codes.{DONE, ODD, UNKNOWN, SWAP-FAR, SWAP-BELOW, DUP-FAR, DUP-BELOW, TOO-HIGH}
use Rattle.scope.specs.Codes.{NONE-LEFT, OTHER-SLOT, NO-SLOT, NOT-FILLED, UNLIKE}
use Rattle.scope.specs.Codes as codes
use Rattle.replay.specs.declared.Fault.{Fault}
use Rattle.replay.specs.declared.Fault.TheVariants as faults

abbrev pub number_of : Fault → ℕ
number_of (faults.Job refusal) = codes.number_of refusal
number_of faults.Odd = ODD
number_of faults.Unknown = UNKNOWN
number_of faults.SwapFar = SWAP-FAR
number_of faults.SwapBelow = SWAP-BELOW
number_of faults.DupFar = DUP-FAR
number_of faults.DupBelow = DUP-BELOW
number_of faults.TooHigh = TOO-HIGH
number_of faults.NoneLeft = NONE-LEFT
number_of faults.OtherSlot = OTHER-SLOT
number_of faults.NoSlot = NO-SLOT
number_of faults.NotFilled = NOT-FILLED
number_of faults.Unlike = UNLIKE

-- the code of an answer that may be a fault: 0 where it is none
abbrev pub code_of : {A : Type 0} → Result A Fault → ℕ
code_of (Ok a) = DONE
code_of (Err fault) = number_of fault
