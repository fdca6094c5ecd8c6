-- One text after the other.
use Rattle.printing.proofs.Laying.{then}
use Rattle.printing.proofs.Text.around.Goals as goal

pub returns-clause-lays : goal.returns-clause-lays
returns-clause-lays c = then c.label.ensures.lays c.put.ensures.lays
