-- The test decides whether the top goes.
use Rattle.std.proofs.Common.{rules}
use Rattle.rules.proofs.Popping.{e-pop}
use Rattle.rules.proofs.shrink.pop_duplicate.Goals as goal

pub returns : goal.returns
returns c = search (e-pop, rules)
