-- One text after the other.
use Rattle.std.proofs.Common.{rules}
use Rattle.printing.proofs.Laying.{then}
use Rattle.printing.proofs.Text.operation.Goals as goal

pub returns-in-Exchange-clause-lays : goal.returns-in-Exchange-clause-lays
returns-in-Exchange-clause-lays c =
    let texts = then (then c.around-in-Exchange.ensures.lays c.number.ensures.lays) c.put-in-Exchange.ensures.lays in
    search (texts, rules)
