-- The search from p on gives the whole answer; a turn looks for one position's copy.
use Rattle.std.proofs.Common.{◌≡◌, length}
use Rattle.std.specs.Prelude.{min}
use Rattle.scope.specs.Words.{lowest}
use Rattle.scope.specs.Rules.{needs_copy}
use Rattle.rules.proofs.grow.dup_needed.Given as goal

abbrev pub invariant-loop-p : goal.invariant-loop-p
invariant-loop-p l =
    lowest l.p (min (length l.view.current.now) (length l.view.target.now)) (needs_copy l.view.current.now l.view.target.now l.start.0)
    ≡ lowest l.start.0 (min (length l.view.current.now) (length l.view.target.now)) (needs_copy l.view.current.now l.view.target.now l.start.0)
