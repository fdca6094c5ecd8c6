-- A line that is the same as the form is the form.
use Rattle.std.proofs.Common.{rules}
use Rattle.listing.proofs.Reading.{read-it}
use Rattle.listing.proofs.read_line.Goals as goal

pub returns-then-eq-clause-form : goal.returns-then-eq-clause-form
returns-then-eq-clause-form c = search (read-it, rules)
