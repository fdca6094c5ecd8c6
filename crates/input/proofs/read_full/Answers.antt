use Rattle.std.proofs.Common.{rules}
use Rattle.input.proofs.Filled.{read_more}
use Rattle.input.proofs.read_full.Goals as goal

pub loop-filled-preserved : goal.loop-filled-preserved
loop-filled-preserved g c = search (read_more, rules)
