-- What the calls of this crate promise: which field of a `TrackedState` is which of scope's.
use Rattle.std.specs.Prelude.{ℕ, ◌≡◌, List}
use Rattle.scope.specs.Tracked.{Tracked, Stepped, step_code, step_op, values}
use Rattle.scope.specs.declared.Step.{Step}
use Rattle.stack.specs.Promises.{stack_in, laid}
use Rattle.tracked_state.specs.declared.TrackedState.{TrackedState}

-- the array of a state, and the tracked stack that it keeps
abbrev pub array_of : TrackedState → List ℕ
array_of s = s.stack.stack_raw

abbrev pub tracked_of : TrackedState → Tracked
tracked_of s = record { stack = stack_in s.stack; first = s.first; filled = s.filled; written = s.written }

-- A call that makes a step: code, operation, tracked stack and operation words are scope's, and every word of the array is fixed.
pub record StepsTo (to : Stepped) (step : Step) (before after : TrackedState) (ops : List ℕ) : Type 0 where
  pub code : step_code step ≡ to.code
  pub op : step_op step ≡ to.op
  pub state : tracked_of after ≡ to.state
  pub words : ops ≡ to.words
  pub array : array_of after ≡ laid (values to.state) (array_of before)
