-- One text after the other.
use Rattle.printing.proofs.Laying.{then}
use Rattle.lines.proofs.Laying.{some-laid}
use Rattle.tracing.proofs.show_no_list.Goals as goal

pub returns-clause-wrote : goal.returns-clause-wrote
returns-clause-wrote c = some-laid (then c.label.ensures.lays c.put.ensures.lays)
