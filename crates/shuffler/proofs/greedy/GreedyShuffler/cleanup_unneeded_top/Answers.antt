-- Each turn pops one of the values that are left.
use Rattle.std.proofs.Common.{◌≡◌, rules, arith, refl}
use Rattle.scope.specs.Codes.{code, number_of}
use Rattle.shuffler.proofs.Runs.{down-done, down-refused, down-again}
use Rattle.shuffler.proofs.Picks.{number-some}
use Rattle.shuffler.proofs.greedy.GreedyShuffler.cleanup_unneeded_top.Goals as goal

pub returns-in_err-pop-clause-held : goal.returns-in_err-pop-clause-held
returns-in_err-pop-clause-held c =
    let is : code c.from_residual.result ≡ number_of c.in_err-pop.field-0.0 = search rules in
    λ n. rw is (down-refused _ _ _ _ (c.loop.invariant.lowers n) _ _ (omega arith) (c.in_err-pop.ensures.held n) (number-some _))

pub loop-preserved : goal.loop-preserved
loop-preserved c = record {
  loans = search rules;
  lowers = λ n. down-again _ _ _ _ (c.loop.invariant.lowers n) _ _ (omega arith) (c.in_ok-pop.ensures.held n) refl _ (omega arith);
}

pub returns-clause-held : goal.returns-clause-held
returns-clause-held c = λ n. down-done _ _ _ _ (c.loop.invariant.lowers n) (omega arith)
