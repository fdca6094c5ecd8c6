-- The test decides whether the top goes.
use Rattle.std.proofs.Common.{rules}
use Rattle.rules.proofs.Popping.{c-pop}
use Rattle.rules.proofs.shrink.pop_extra.Goals as goal

pub returns : goal.returns
returns c = search (c-pop, rules)
