-- The search tests which position's value no dup reaches.
use Rattle.std.proofs.Common.{◌≡◌, ◌∙◌, sym, length, None as none, Some as some, Err, rules, tests}
use Rattle.scope.specs.declared.Refusal.TheVariants.{Stuck}
use Rattle.scope.specs.Rules.{out_of_reach}
use Rattle.lists.proofs.Searching.{lowest_by_find}
use Rattle.rules.specs.Promises.{always}
use Rattle.rules.proofs.Fetching.{w-load, w-stuck}
use Rattle.rules.proofs.grow.unspill_needed.Goals as goal

pub returns-in_err-p : goal.returns-in_err-p
returns-in_err-p c =
    let v = c.args.view.now in
    let C = v.current.now in
    let T = v.target.now in
    let k = c.min-reach.result in
    let searched =
    lowest_by_find _ _ _ _ v.complete (length T) (out_of_reach C T k) c.find.ensures.ran (search rules) (search rules)
    (λ x y q k. search (rules, tests))
    in
    let out : c.find.result ≡ none = search rules in
    let gone : c.from_residual.result ≡ Err Stuck = search rules in
    rw gone (w-stuck C T v.spilled.now v.complete v.config.max_dup_depth k (search rules) (sym searched ∙ out) v.config.max_swap_depth)

pub returns : goal.returns
returns c =
    let v = c.args.view.now in
    let C = v.current.now in
    let T = v.target.now in
    let k = c.min-reach.result in
    let searched =
    lowest_by_find _ _ _ _ v.complete (length T) (out_of_reach C T k) c.find.ensures.ran (search rules) (search rules)
    (λ x y q k. search (rules, tests))
    in
    let at : c.find.result ≡ some c.in_ok-p.p = search rules in
    w-load C T v.spilled.now v.complete v.config.max_dup_depth k (search rules) c.in_ok-p.p c.at.result (always c.unspill.result)
    (sym searched ∙ at) (search rules) c.unspill.ensures v.config.max_swap_depth
