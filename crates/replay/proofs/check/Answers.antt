-- A job that is refused, and one that is replayed.
use borrow.Author.Rules.{rules}
use Rattle.std.proofs.Common.{refl}
use Rattle.replay.proofs.Laws.{check-job, check-run}
use Rattle.replay.proofs.check.Goals as goal

pub returns-in-Err : goal.returns-in-Err
returns-in-Err c = check-job _ _ _ _ refl c.into.ensures c.in-Err.ensures

pub returns : goal.returns
returns c = check-run _ _ c.run-outcome.new.self _ c.in_default.ensures c.run-outcome.ensures.due (search rules)
