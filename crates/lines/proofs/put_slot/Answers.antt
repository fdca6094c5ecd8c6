-- The number, and then the value.
use Rattle.std.proofs.Common.{rules}
use Rattle.printing.proofs.Laying.{then}
use Rattle.lines.proofs.put_slot.Goals as goal

pub returns-clause-lays : goal.returns-clause-lays
returns-clause-lays c = let both = then c.label.ensures.lays c.label-2.ensures.lays in search (both, rules)
