-- More values than are shown.
use Rattle.std.proofs.Common.{rules}
use Rattle.lines.proofs.Parts.{rest_more}
use Rattle.lines.proofs.put_rest.Goals as goal

pub returns-then-n-gt-VALUES-clause-lays : goal.returns-then-n-gt-VALUES-clause-lays
returns-then-n-gt-VALUES-clause-lays c = search (rest_more, rules)
