-- Shrink, and grow and the finish where shrink is done.
use Rattle.std.proofs.Common.{◌≡◌, rules, refl}
use Rattle.scope.specs.Codes.{code, number_of}
use Rattle.shuffler.proofs.Runs.{shrink-refused, shrink-done, after-refused, after-done}
use Rattle.shuffler.proofs.Picks.{number-some}
use Rattle.shuffler.proofs.greedy.GreedyShuffler.run_to_end.Goals as goal

pub returns-in_err-ticks-clause-told : goal.returns-in_err-ticks-clause-told
returns-in_err-ticks-clause-told c z =
    let is : code c.from_residual.result ≡ number_of c.in_err-ticks.field-0.0 = search rules in
    rw (is, z) (shrink-refused _ _ _ _ _ _ c.in_err-ticks.ensures.held (number-some _))

pub returns-in_err-ticks-2-clause-told : goal.returns-in_err-ticks-2-clause-told
returns-in_err-ticks-2-clause-told c z =
    let a = c.ticks.ensures in
    let is : code c.from_residual-in_err-ticks-2.result ≡ number_of c.in_err-ticks-2.field-0.0 = search rules in
    rw is
    (shrink-done _ _ _ _ _ _ c.in_ok-ticks.ensures.held _ _ _ _ refl
    (after-refused _ _ _ _ _ _ _ (rw (a.target, a.config) at c.in_err-ticks-2.ensures.held) (number-some _)))

pub returns-clause-told : goal.returns-clause-told
returns-clause-told c z =
    let a = c.ticks.ensures in
    let b = c.ticks-2.ensures in
    shrink-done _ _ _ _ _ _ c.in_ok-ticks.ensures.held _ _ _ _ refl
    (after-done _ _ _ _ _ _ _ (rw (a.target, a.config) at c.in_ok-ticks-2.ensures.held) _ _ refl
    (rw (b.target, a.target) at (c.cleanup_unneeded_top.ensures.held c.ticks-2.new.self.complete)))
