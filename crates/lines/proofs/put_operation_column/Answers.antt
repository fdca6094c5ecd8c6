-- Blanks for what the form leaves of the width.
use Rattle.std.proofs.Common.{rules}
use Rattle.lines.proofs.Parts.{padded}
use Rattle.lines.proofs.put_operation_column.Goals as goal

pub returns-clause-lays : goal.returns-clause-lays
returns-clause-lays c = search (padded, rules)
