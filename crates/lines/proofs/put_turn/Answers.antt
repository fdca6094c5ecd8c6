-- One text after the other.
use Rattle.std.proofs.Common.{rules}
use Rattle.printing.proofs.Laying.{then}
use Rattle.lines.proofs.put_turn.Goals as goal

pub returns-clause-lays : goal.returns-clause-lays
returns-clause-lays c = search (then, rules)
