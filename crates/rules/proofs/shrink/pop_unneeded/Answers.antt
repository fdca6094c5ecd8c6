-- The test decides whether the top goes.
use Rattle.std.proofs.Common.{rules}
use Rattle.rules.proofs.Popping.{a-pop}
use Rattle.rules.proofs.shrink.pop_unneeded.Goals as goal

pub returns : goal.returns
returns c = search (a-pop, rules)
