-- The search from p on gives the whole answer; a turn looks for one position's source.
use Rattle.std.proofs.Common.{◌≡◌, length}
use Rattle.std.specs.Prelude.{min}
use Rattle.scope.specs.Words.{lowest}
use Rattle.scope.specs.Rules.{can_be_set_right}
use Rattle.rules.proofs.grow.exchange_via_top.Given as goal

abbrev pub invariant-loop-p : goal.invariant-loop-p
invariant-loop-p l =
    lowest l.p (min (length l.view.current.now) (length l.view.target.now)) (can_be_set_right l.view.current.now l.view.target.now l.start.0)
    ≡ lowest l.start.0 (min (length l.view.current.now) (length l.view.target.now))
    (can_be_set_right l.view.current.now l.view.target.now l.start.0)
