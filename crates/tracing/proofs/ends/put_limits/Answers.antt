-- One text after the other.
use Rattle.printing.proofs.Laying.{then}
use Rattle.lines.proofs.Laying.{some-laid}
use Rattle.tracing.proofs.ends.put_limits.Goals as goal

pub returns-clause-wrote : goal.returns-clause-wrote
returns-clause-wrote c = some-laid (then (then (then c.label.ensures.lays c.label-2.ensures.lays) c.label-3.ensures.lays) c.put.ensures.lays)
