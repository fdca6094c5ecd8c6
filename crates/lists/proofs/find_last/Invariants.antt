-- The search in the rest gives the whole answer, and so does the search below k.
use Rattle.std.proofs.Common.{◌≡◌, ◌≤◌, length}
use Rattle.scope.specs.Words.{latest_of, highest, holds}
use Rattle.lists.proofs.find_last.Given as goal

abbrev pub invariant-loop-before : goal.invariant-loop-before
invariant-loop-before l = (length l.rest ≤ length l.s) × (latest_of l.v l.rest ≡ latest_of l.v l.s)

abbrev pub decreases-loop-before : goal.decreases-loop-before
decreases-loop-before l = length l.rest

abbrev pub invariant-loop-k : goal.invariant-loop-k
invariant-loop-k l = highest l.k (holds l.rest l.v) ≡ latest_of l.v l.s
