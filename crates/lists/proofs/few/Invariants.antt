-- The count of what is passed.
use Rattle.std.proofs.Common.{◌≡◌, ◌≤◌, ◌==◌, count_by, take}
use Rattle.lists.proofs.few.Given as goal

abbrev pub invariant-loop-x : goal.invariant-loop-x
invariant-loop-x l = (l.n ≡ count_by (λ x. x == l.v) (take l.x-index l.s)) × (l.n ≤ l.x-index)
