-- The search's answer, or the end.
use Rattle.std.proofs.Common.{◌∙◌, rules, tests, length}
use Rattle.std.specs.Prelude.{min}
use Rattle.scope.specs.Rules.{counting_stops}
use Rattle.lists.proofs.Searching.{lowest_by_find}
use Rattle.rules.proofs.Completed.{counts}
use Rattle.rules.proofs.counting.update_complete_at_bottom.Goals as goal

pub returns : goal.returns
returns c =
    let v = c.args.view.now in
    let end = min (length v.current.now) (length v.target.now) in
    let found =
    lowest_by_find _ _ _ _ v.complete end (counting_stops v.current.now v.target.now) c.find.ensures.ran (search rules) (search rules)
    (λ x y q k. search (rules, tests))
    in
    (rw (c.max.ensures, c.end-end.ensures) at c.unwrap_or.ensures) ∙ counts v.current.now v.target.now v.complete c.find.result found
