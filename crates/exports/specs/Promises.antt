-- What C sees of an answer and of a verdict, and the settings that its two limits stand for.
use Rattle.std.specs.Prelude.{ℕ, List}
use Rattle.scope.specs.Once.{Seen, SeenVerdict}
use Rattle.stack.specs.Promises.{stack_in}
use Rattle.operations.specs.declared.ScheduleConfig.{ScheduleConfig}
use Rattle.exports.specs.declared.Answer.{Answer}
use Rattle.exports.specs.declared.Verdict.{Verdict}

-- there is no exchange
abbrev pub limits : ℕ → ℕ → ScheduleConfig
limits swaps dups = record { max_swap_depth = swaps; max_dup_depth = dups; max_exchange_range = 0; exchange_cost = 0 }

-- what is seen of an answer and of the two buffers after the call
abbrev pub seen_in : Answer → List ℕ → List ℕ → Seen
seen_in r spill words = record {
  code = r.code;
  shrink_ticks = r.shrink_ticks;
  grow_ticks = r.grow_ticks;
  ops = r.ops;
  slots = r.slots;
  stack = stack_in r.stack;
  spill = spill;
  words = words;
}

-- what is seen of the checker's outcome: its answer, and every word of the spill buffer
abbrev pub seen : Verdict → List ℕ → SeenVerdict
seen v spill = record { code = v.code; index = v.index; gas = v.gas; filled = v.filled; spill = spill }
