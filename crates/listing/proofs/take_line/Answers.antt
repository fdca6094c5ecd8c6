-- A line adds one operation, or none.
use Rattle.std.proofs.Common.{rules}
use Rattle.listing.proofs.Reading.{takes_one}
use Rattle.listing.proofs.take_line.Goals as goal

pub returns : goal.returns
returns c = search (takes_one, rules)
