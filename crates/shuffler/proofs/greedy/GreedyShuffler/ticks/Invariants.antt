-- The same loans and the same aim; what is left of the loop from here gives the whole loop.
use Rattle.std.proofs.Common.{◌≡◌, ◌-◌, ◌≤◌}
use Rattle.tracked.specs.Promises.{SameLoans}
use Rattle.shuffler.specs.Held.{holding}
use Rattle.shuffler.specs.Runs.{Within}
use Rattle.shuffler.proofs.greedy.GreedyShuffler.ticks.Given as goal

abbrev pub invariant-loop-ticks : goal.invariant-loop-ticks
invariant-loop-ticks g l = record {
  loans : SameLoans l.fn.current l.current;
  target : l.self.target ≡ l.fn.self.target;
  config : l.self.config ≡ l.fn.self.config;
  few : l.ticks ≤ 100000;
  within :
      Within l.fn.self.target.now l.fn.self.config g.P.Phase.goes g.P.Phase.plan
      (holding l.fn.self.complete l.fn.current) (holding l.self.complete l.current) l.ticks;
}

abbrev pub decreases-loop-ticks : goal.decreases-loop-ticks
decreases-loop-ticks g l = 100000 - l.ticks
