-- Each line keeps what holds of the words so far.
use Rattle.listing.specs.Promises.{Lists}
use Rattle.listing.proofs.read_list.Given as goal

abbrev pub invariant-loop-index : goal.invariant-loop-index
invariant-loop-index l = Lists l.ops l.initial.words l.words
