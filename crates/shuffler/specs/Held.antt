-- How the code keeps the state of a run, and what a piece of work makes of it.
use Rattle.std.specs.Prelude.{ℕ, ◌+◌, ◌-◌, ◌*◌, ◌≤◌, ◌≡◌, List, length}
use Rattle.scope.specs.Words.{stack_of}
use Rattle.scope.specs.Machine.{record_words, capacity, words_of, over, over_from}
use Rattle.scope.specs.Rules.{State}
use Rattle.scope.specs.Shuffle.{Ended}
use Rattle.scope.specs.Tracked.{Tracked, Stepped}
use Rattle.scope.specs.Once.{Lent}
use Rattle.tracked.specs.declared.TrackedStack.{TrackedStack}
use Rattle.tracked.specs.Promises.{tracked_of}

-- What the code holds during a run: the tracked stack, every word of its two buffers, the completed count.
pub record Holding : Type 0 where
  pub tracked : Tracked
  pub words : List ℕ
  pub spill : List ℕ
  pub complete : ℕ

-- a tracked stack and a completed count hold this
abbrev pub holding : ℕ → TrackedStack → Holding
holding complete t = record { tracked = tracked_of t; words = t.ops.now; spill = t.spill.now; complete = complete }

-- Held e x s: with e lent, what the code holds is the state s of that job.
pub record Held (e : Lent) (x : Holding) (s : State) : Type 0 where
  pub stack : x.tracked.stack ≡ stack_of s.C
  pub low : length s.C ≤ 1024
  pub complete : x.complete ≡ s.c
  pub first : x.tracked.first ≡ e.first
  pub numbers : e.first + length e.spill ≤ 4294967295
  pub filled : x.tracked.filled ≡ length s.spilled
  pub slots : length s.spilled ≤ length e.spill
  pub spill : x.spill ≡ over s.spilled e.spill
  pub written : x.tracked.written ≡ e.written + length s.ops
  pub records : length s.ops ≤ capacity (length e.words) - e.written
  pub words : x.words ≡ over_from (record_words * e.written) (words_of s.ops) e.words

-- what is held after a tracked call
abbrev pub stepped : Holding → Stepped → List ℕ → Holding
stepped x d spill = record { tracked = d.state; words = d.words; spill = spill; complete = x.complete }

-- a code and what is held are those of an end
pub record Ran (e : Lent) (r : ℕ) (x : Holding) (d : Ended) : Type 0 where
  pub code : r ≡ d.code
  pub held : Held e x d.state
