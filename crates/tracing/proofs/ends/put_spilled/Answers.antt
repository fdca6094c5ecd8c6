-- One text after the other.
use Rattle.printing.proofs.Laying.{then}
use Rattle.lines.proofs.Laying.{some-laid}
use Rattle.tracing.proofs.ends.put_spilled.Goals as goal

pub returns-clause-wrote : goal.returns-clause-wrote
returns-clause-wrote c = some-laid (then (then c.put.ensures.lays c.put_slots.ensures.lays) c.put-2.ensures.lays)
