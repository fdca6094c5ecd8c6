-- The search tests what gives the value.
use Rattle.std.proofs.Common.{rules, tests}
use Rattle.scope.specs.Rules as R
use Rattle.lists.proofs.Searching.{lowest_by_find}
use Rattle.questions.proofs.View.giver.Goals as goal

pub returns : goal.returns
unfolding R.giver
returns c =
    let v = c.args.self.now in
    lowest_by_find _ _ _ _ _ _ (R.gives_for v.current.now v.target.now c.args.p.0) c.find.ensures.ran (search rules) (search rules)
    (λ x y q k. search (rules, tests))
