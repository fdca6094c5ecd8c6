-- What is counted and the count of the rest make the whole count.
use Rattle.std.proofs.Common.{◌≡◌, ◌≤◌, ◌+◌, length}
use Rattle.scope.specs.Words.{count}
use Rattle.lists.proofs.count_of.Given as goal

abbrev pub invariant-loop-block : goal.invariant-loop-block
invariant-loop-block l = (l.n + count l.v l.rest ≡ count l.v l.s) × (l.n + length l.rest ≤ length l.s)

abbrev pub decreases-loop-block : goal.decreases-loop-block
decreases-loop-block l = length l.rest
