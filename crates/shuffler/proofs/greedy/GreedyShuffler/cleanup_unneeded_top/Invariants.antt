-- The same loans; what is left to pop from here gives all that is to pop.
use Rattle.std.proofs.Common.{ℕ, ◌-◌, length}
use Rattle.tracked.specs.Promises.{SameLoans}
use Rattle.shuffler.specs.Held.{holding}
use Rattle.shuffler.specs.Runs.{Lowers}
use Rattle.shuffler.proofs.greedy.GreedyShuffler.cleanup_unneeded_top.Given as goal

abbrev pub invariant-loop : goal.invariant-loop
invariant-loop l = record {
  loans : SameLoans l.fn.current l.current;
  lowers : (c : ℕ) → Lowers (length l.self.target.now) (holding c l.fn.current) (holding c l.current) (l.end - l.counter);
}
