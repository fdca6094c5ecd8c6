-- One turn of a trace: what it leaves, and the line that it lays.
use Rattle.std.specs.Prelude.{ℕ, List, [], ◌∷◌, ◌++◌, length, ltb, if◌then◌else◌}
use Rattle.scope.specs.Tracked.{stored_in}
use Rattle.stack.specs.Promises.{values_in}
use Rattle.tracked.specs.declared.TrackedStack.{TrackedStack}
use Rattle.reader.specs.declared.Record.{Record}
use Rattle.lines.specs.Promises.{turn_text, state_text, slots_text}

-- the slots, where an operation has filled one, and the line's end
abbrev pub filled_text : ℕ → ℕ → List ℕ → List ℕ
filled_text first before slots = (if ltb before (length slots) then (32 ∷ 32 ∷ 115 ∷ 108 ∷ 111 ∷ 116 ∷ 115 ∷ []) ++ slots_text first slots else []) ++ (10 ∷ [])

-- the tracked stack before a turn: no operation is written yet
abbrev pub fresh : TrackedStack → TrackedStack
fresh t = record t { written = 0 }

-- the line of an operation, with the tracked stack that it leaves: its index and form, the completed positions, the stack, the slots where they
-- changed
abbrev pub line_text : ℕ → Record → ℕ → TrackedStack → ℕ → List ℕ
line_text index item before t done =
    turn_text index item.kind item.argument ++ state_text done (values_in t.stack.now) ++ filled_text t.first before (stored_in t.filled t.spill.now)
