-- What one operation of a list leaves, by the calls of the tracked stack, and how many positions are completed after it.
use Rattle.std.specs.Prelude.{ℕ, min, List, [], ◌∷◌, length}
use Rattle.std.specs.Prelude.{Option, None as none, Some as some}
use Rattle.scope.specs.declared.Op.{Op}
use Rattle.scope.specs.declared.Op.TheVariants.{Swap, Dup, Pop, Store, Load}
use Rattle.scope.specs.Codes.{UNKNOWN}
use Rattle.scope.specs.Words.{lowest}
use Rattle.scope.specs.Rules.{differs}
use Rattle.scope.specs.Tracked.{Stepped, Spilled, pop_step, swap_step, dup_step, spill_step, load_step, refused_spill}
use Rattle.reader.specs.declared.Record.{Record}
use Rattle.answer.specs.Promises.{said}
use Rattle.rules.specs.Promises.{counted_in}
use Rattle.tracked.specs.declared.TrackedStack.{TrackedStack}
use Rattle.tracked.specs.Promises.{tracked_of}

-- ---- One operation

-- room for one operation
abbrev pub one_record : List ℕ
one_record = 0 ∷ 0 ∷ []

-- a step that leaves the slots
abbrev pub leaves_slots : Stepped → List ℕ → Spilled
leaves_slots s spill = record { step = s; spill = spill }

-- the tracked stack's call of an operation
unfoldable pub step_of : Op → TrackedStack → Spilled
step_of (Swap k) t = leaves_slots (swap_step k (tracked_of t) one_record) t.spill.now
step_of (Dup k) t = leaves_slots (dup_step k (tracked_of t) one_record) t.spill.now
step_of Pop t = leaves_slots (pop_step (tracked_of t) one_record) t.spill.now
step_of (Store id) t = spill_step (tracked_of t) one_record t.spill.now
step_of (Load id) t = leaves_slots (load_step id (tracked_of t) one_record t.spill.now) t.spill.now

-- words that are no operation change nothing
abbrev pub step_said : Option Op → TrackedStack → Spilled
step_said none t = refused_spill UNKNOWN (tracked_of t) one_record t.spill.now
step_said (some o) t = step_of o t

-- a turn: what an operation's words say, carried out
abbrev pub turned : Record → TrackedStack → Spilled
turned item t = step_said (said item.kind item.argument) t

-- ---- The completed positions

-- of so many positions from the bottom, those below the first at which the stack is not the target
abbrev pub or_all : ℕ → Option ℕ → ℕ
or_all n none = n
or_all n (some p) = p

abbrev pub within : List ℕ → List ℕ → ℕ → ℕ
within C T before = min before (min (length C) (length T))

unfoldable pub kept : List ℕ → List ℕ → ℕ → ℕ
kept C T before = or_all (within C T before) (lowest 0 (within C T before) (differs C T))

-- counting goes on from there
abbrev pub completed_in : List ℕ → List ℕ → ℕ → ℕ
completed_in C T before = counted_in C T (kept C T before)
