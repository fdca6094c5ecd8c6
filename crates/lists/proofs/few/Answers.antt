use Rattle.std.proofs.Common.{rules}
use Rattle.lists.proofs.Finding.{count_list}
use Rattle.lists.proofs.few.Goals as goal

pub returns-clause-value : goal.returns-clause-value
returns-clause-value c = count_list c.loop-x.n c.loop-x.x-index c.args.v c.args.s.now (search rules) (search rules)
