-- A choice that is refused, one that cannot be performed, and one that is performed and counted.
use Rattle.std.proofs.Common.{◌≡◌, rules, refl}
use Rattle.scope.specs.Codes.{code, number_of}
use Rattle.shuffler.proofs.Picks.{number-some, tick-refused, tick-stopped, tick-done}
use Rattle.shuffler.proofs.greedy.GreedyShuffler.tick.Goals as goal

pub returns-in_err-choice-clause-held : goal.returns-in_err-choice-clause-held
returns-in_err-choice-clause-held g c =
    let v = c.view.ensures in
    let is : code c.from_residual.result ≡ number_of c.in_err-choice.field-0.0 = search rules in
    rw is (tick-refused _ _ _ _ v.current v.target v.spilled v.complete v.config _ _ _ c.in_err-choice.ensures)

pub returns-in_err-perform-clause-held : goal.returns-in_err-perform-clause-held
returns-in_err-perform-clause-held g c =
    let v = c.view.ensures in
    let is : code c.from_residual-in_err-perform.result ≡ number_of c.in_err-perform.field-0.0 = search rules in
    rw is
    (tick-stopped _ _ _ _ v.current v.target v.spilled v.complete v.config _ _ _ c.in_ok-choice.ensures _ _ (c.in_err-perform.ensures.held c.args.self.now.complete)
    (number-some _))

pub returns-clause-held : goal.returns-clause-held
returns-clause-held g c =
    let v = c.view.ensures in
    tick-done _ _ _ _ v.current v.target v.spilled v.complete v.config _ _ _ c.in_ok-choice.ensures _ _ (c.in_ok-perform.ensures.held c.args.self.now.complete) _ refl c.update_complete_at_bottom.ensures.counted
