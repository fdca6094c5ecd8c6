-- Blanks for what the digits leave of the width.
use Rattle.std.proofs.Common.{rules}
use Rattle.lines.proofs.Parts.{padded}
use Rattle.lines.proofs.put_column.Goals as goal

pub returns-clause-lays : goal.returns-clause-lays
returns-clause-lays c = search (padded, rules)
