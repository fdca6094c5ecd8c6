-- The test on what is looked at is the definition's, so that each turn is one of the definition's loop.
use Rattle.std.proofs.Common.{rules, ◌≡◌, ap, ◌∙◌, arith, refl}
use Rattle.scope.specs.Codes.{code, number_of}
use Rattle.shuffler.proofs.Picks.{number-some, loop-done, loop-limit, loop-refused, loop-again}
use Rattle.shuffler.proofs.greedy.GreedyShuffler.ticks.Goals as goal

pub returns-then-ticks-eq-LIMIT-clause-held : goal.returns-then-ticks-eq-LIMIT-clause-held
returns-then-ticks-eq-LIMIT-clause-held g c =
    let v = c.view.ensures in
    let i = c.loop-ticks.invariant in
    loop-limit _ _ _ _ v.current (v.target ∙ ap (λ r. r.now) i.target) v.spilled v.complete (v.config ∙ i.config) _ _ c.goes.ensures _ _ _ i.within c.loop-ticks-test.true (omega arith)

pub loop-ticks-preserved : goal.loop-ticks-preserved
loop-ticks-preserved g c =
    let v = c.view.ensures in
    let i = c.loop-ticks.invariant in
    record {
      loans = search rules;
      target = c.tick.ensures.target ∙ i.target;
      config = c.tick.ensures.config ∙ i.config;
      few = omega arith;
      within =
          loop-again _ _ _ _ v.current (v.target ∙ ap (λ r. r.now) i.target) v.spilled v.complete (v.config ∙ i.config) _ _ c.goes.ensures _ _ _ i.within _ _ c.loop-ticks-test.true (omega arith)
          (rw (i.target, i.config) at c.in_ok-tick.ensures.held) refl;
    }

pub returns-in_err-tick-clause-held : goal.returns-in_err-tick-clause-held
returns-in_err-tick-clause-held g c =
    let v = c.view.ensures in
    let i = c.loop-ticks.invariant in
    let is : code c.from_residual.result ≡ number_of c.in_err-tick.field-0.0 = search rules in
    rw is
    (loop-refused _ _ _ _ v.current (v.target ∙ ap (λ r. r.now) i.target) v.spilled v.complete (v.config ∙ i.config) _ _ c.goes.ensures _ _ _ i.within _ _ c.loop-ticks-test.true (omega arith)
    (rw (i.target, i.config) at c.in_err-tick.ensures.held) (number-some _))

pub returns-clause-held : goal.returns-clause-held
returns-clause-held g c =
    let v = c.view.ensures in
    let i = c.loop-ticks.invariant in
    loop-done _ _ _ _ v.current (v.target ∙ ap (λ r. r.now) i.target) v.spilled v.complete (v.config ∙ i.config) _ _ c.goes.ensures _ _ _ i.within c.loop-ticks-test.false
