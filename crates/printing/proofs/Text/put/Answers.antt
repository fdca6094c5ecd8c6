-- What fits is laid; past the end nothing does.
use Rattle.std.proofs.Common.{rules}
use Rattle.printing.proofs.Laying.{fitted, past-end}
use Rattle.printing.proofs.Text.put.Goals as goal

pub returns-in_default-clause-lays : goal.returns-in_default-clause-lays
returns-in_default-clause-lays c = search (past-end, rules)

pub returns-clause-lays : goal.returns-clause-lays
returns-clause-lays c = search (fitted, rules)
