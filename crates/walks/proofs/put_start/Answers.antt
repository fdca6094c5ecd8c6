-- One text after the other.
use Rattle.printing.proofs.Laying.{then}
use Rattle.lines.proofs.Laying.{some-laid}
use Rattle.walks.proofs.put_start.Goals as goal

pub returns-clause-wrote : goal.returns-clause-wrote
returns-clause-wrote c =
    some-laid (then (then (then c.put.ensures.lays c.put-2.ensures.lays) c.put_state.ensures.lays) c.put-3.ensures.lays)
