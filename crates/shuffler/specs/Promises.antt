-- What the public calls promise: which field of an answer, and which lent word, is which of scope's.
use Rattle.std.specs.Prelude.{ℕ, ◌+◌, ◌≡◌, List, [], length}
use Rattle.std.specs.Prelude.{Err}
use Rattle.scope.specs.declared.Refusal.{Refusal}
use Rattle.scope.specs.Codes.{code}
use Rattle.scope.specs.Words.{if_zero, stack_of}
use Rattle.scope.specs.Shuffle.{code_of, shuffle}
use Rattle.scope.specs.Tracked.{Tracked}
use Rattle.scope.specs.Once.{Lent, job_lent, start_lent, Seen}
use Rattle.stack.specs.declared.EvmStack.{EvmStack}
use Rattle.stack.specs.Promises.{stack_in}
use Rattle.operations.specs.declared.ScheduleConfig.{ScheduleConfig}
use Rattle.tracked_state.specs.declared.TrackedState.{TrackedState}
use Rattle.shuffler.specs.declared.Answer.{Answer}
use Rattle.shuffler.specs.declared.Ended.{Ended}

-- what is seen of an answer and of the two buffers after the call
abbrev pub seen_in : Answer → List ℕ → List ℕ → Seen
seen_in r spill words = record {
  code = code r.outcome;
  shrink_ticks = r.shrink_ticks;
  grow_ticks = r.grow_ticks;
  ops = r.ops;
  slots = r.slots;
  stack = stack_in r.stack;
  spill = spill;
  words = words;
}

-- the answer to a run that ended so, with its stack
abbrev pub answer_in : Ended → EvmStack → Answer
answer_in e stack = record {
  outcome = e.outcome;
  shrink_ticks = e.shrink_ticks;
  grow_ticks = e.grow_ticks;
  ops = e.ops;
  slots = e.slots;
  stack = stack;
}

-- an end with a refusal and nothing else
abbrev pub stopped_by : Refusal → Ended
stopped_by r = record { outcome = Err r; shrink_ticks = 0; grow_ticks = 0; ops = 0; slots = 0 }

-- what is lent to `shuffle`: nothing is written yet
abbrev pub lent_plain : List ℕ → List ℕ → ℕ → ℕ → List ℕ → ScheduleConfig → List ℕ → Lent
lent_plain start spill filled first target config words = record {
  S = config.max_swap_depth;
  D = config.max_dup_depth;
  target = target;
  stack = stack_of start;
  first = first;
  filled = filled;
  spill = spill;
  written = 0;
  words = words;
}

-- what is lent to `run`: the state as it stands
abbrev pub lent_state : TrackedState → List ℕ → List ℕ → ScheduleConfig → List ℕ → Lent
lent_state s spill target config words = record {
  S = config.max_swap_depth;
  D = config.max_dup_depth;
  target = target;
  stack = stack_in s.stack;
  first = s.first;
  filled = s.filled;
  spill = spill;
  written = s.written;
  words = words;
}

-- the state after a run: the end stack and the counts, on top of what was written before; as it was lent where codes 1 to 5 refuse
unfoldable pub state_due : Lent → Tracked
state_due e =
    let r = shuffle (job_lent e) (start_lent e) in
    if_zero (code_of (job_lent e) (start_lent e))
    (record { stack = stack_of r.stack; first = e.first; filled = length r.spilled; written = e.written + length r.ops })
    (record { stack = e.stack; first = e.first; filled = e.filled; written = e.written })

-- where codes 1 to 5 refuse, the state after a run is the one that was lent: every word of its array, and its counts
pub record KeptIfRefused (e : Lent) (before after : TrackedState) : Type 0 where
  pub keeps : (code_of (job_lent e) (start_lent e) ≡ 0 → ⊥) → after ≡ before

-- an answer with a code, zero counts and an empty stack
pub record Refuses (r : ℕ) (a : Answer) : Type 0 where
  pub is : code a.outcome ≡ r
  pub shrink_ticks : a.shrink_ticks ≡ 0
  pub grow_ticks : a.grow_ticks ≡ 0
  pub ops : a.ops ≡ 0
  pub slots : a.slots ≡ 0
  pub stack : stack_in a.stack ≡ stack_of []
