-- What the calls of this crate promise: what scope's definitions give for what a tracked stack holds.
use Rattle.std.specs.Prelude.{ℕ, ◌-◌, ◌+◌, ◌≡◌, ◌∷◌, List, length, get_or, leb, ltb, if◌then◌else◌, Result, Ok, Err}
use Rattle.scope.specs.Codes.{FULL, MAX-HEIGHT, MAX-WORD}
use Rattle.scope.specs.Machine.{capacity}
use Rattle.scope.specs.Tracked.{Tracked, Stepped, Spilled, values, step_code, step_op, writes, refused_step, pop_step, swap_step}
use Rattle.scope.specs.Tracked.{dup_step, load_step, unspill_step, spill_step}
use Rattle.scope.specs.declared.Op.{Op}
use Rattle.scope.specs.declared.Refusal.{Refusal}
use Rattle.scope.specs.declared.Refusal.TheVariants as refusals
use Rattle.scope.specs.declared.Step.{Step}
use Rattle.stack.specs.Promises.{stack_in, laid}
use Rattle.tracked.specs.declared.TrackedStack.{TrackedStack}

-- what a tracked stack holds, beside its words
abbrev pub tracked_of : TrackedStack → Tracked
tracked_of t = record { stack = stack_in t.stack.now; first = t.first; filled = t.filled; written = t.written }

-- A call still has what it was lent, and its slots the same numbers.
pub record SameLoans (old new : TrackedStack) : Type 0 where
  pub stack : new.stack.ghost_name ≡ old.stack.ghost_name
  pub ops : new.ops.ghost_name ≡ old.ops.ghost_name
  pub spill : new.spill.ghost_name ≡ old.spill.ghost_name
  pub first : new.first ≡ old.first

-- A step: code, operation, tracked stack and operation words are scope's, and every word of the stack's array is fixed.
pub record Moves (to : Stepped) (s : Step) (old new : TrackedStack) : Type 0 where
  pub code : step_code s ≡ to.code
  pub op : step_op s ≡ to.op
  pub state : tracked_of new ≡ to.state
  pub words : new.ops.now ≡ to.words
  pub array : new.stack.now.stack_raw ≡ laid to.state.stack.values old.stack.now.stack_raw

-- ---- what each call comes to

abbrev pub popped : TrackedStack → Stepped
popped t = pop_step (tracked_of t) t.ops.now

abbrev pub swapped : ℕ → TrackedStack → Stepped
swapped k t = swap_step k (tracked_of t) t.ops.now

abbrev pub dupped : ℕ → TrackedStack → Stepped
dupped k t = dup_step k (tracked_of t) t.ops.now

abbrev pub loaded : ℕ → TrackedStack → Stepped
loaded id t = load_step id (tracked_of t) t.ops.now t.spill.now

abbrev pub unspilled : ℕ → TrackedStack → Stepped
unspilled v t = unspill_step v (tracked_of t) t.ops.now t.spill.now

abbrev pub spilled : TrackedStack → Spilled
spilled t = spill_step (tracked_of t) t.ops.now t.spill.now

-- ---- the parts of which they are made

-- a value is put on top by an operation
abbrev pub put_step : ℕ → Op → Tracked → List ℕ → Stepped
put_step v o t words = if leb MAX-HEIGHT (length (values t)) then refused_step FULL t words else writes t words (v ∷ values t) t.filled o

abbrev pub put : ℕ → Op → TrackedStack → Stepped
put v o t = put_step v o (tracked_of t) t.ops.now

-- room for one operation more
abbrev pub room_for_one : TrackedStack → Result Unit Refusal
room_for_one t = if leb (capacity (length t.ops.now)) t.written then Err refusals.Ops else Ok tt

-- the next slot's number
abbrev pub next_free : ℕ → ℕ → ℕ → Result ℕ Refusal
next_free first filled slots =
    if leb slots filled then Err refusals.Spill
    else (if ltb MAX-WORD (first + filled) then Err refusals.Spill else Ok (first + filled))

-- what the slot with a number holds, of the values that are stored
abbrev pub value_in : ℕ → ℕ → List ℕ → Result ℕ Refusal
value_in id first stored =
    if ltb id first then Err refusals.Unfilled
    else (if leb (length stored) (id - first) then Err refusals.Unfilled else Ok (get_or stored (id - first) 0))
