-- The search tests which position has a value that is extra.
use Rattle.std.proofs.Common.{◌-◌, ◌≡◌, ◌∙◌, sym, length, None as none, Some as some, rules, tests}
use Rattle.std.specs.Prelude.{max}
use Rattle.scope.specs.Rules.{extra_at}
use Rattle.lists.proofs.Searching.{lowest_by_find}
use Rattle.rules.proofs.Swapping.{d-swap, d-pass, extra-here}
use Rattle.rules.proofs.shrink.swap_and_pop_extra.Goals as goal

pub returns-in_err-p : goal.returns-in_err-p
returns-in_err-p c =
    let v = c.args.view.now in
    let C = v.current.now in
    let T = v.target.now in
    let S = v.config.max_swap_depth in
    let searched =
    lowest_by_find _ _ _ _ (max v.complete (length C - 1 - S)) (length C) (extra_at C T v.complete)
    c.find.ensures.ran (search rules) (search rules) (λ x y q k. search (extra-here, rules, tests))
    in
    let out : c.find.result ≡ none = search rules in
    let gone : c.from_residual.result ≡ none = search rules in
    rw gone (d-pass C T v.complete S (sym searched ∙ out))

pub returns : goal.returns
returns c =
    let v = c.args.view.now in
    let C = v.current.now in
    let T = v.target.now in
    let S = v.config.max_swap_depth in
    let searched =
    lowest_by_find _ _ _ _ (max v.complete (length C - 1 - S)) (length C) (extra_at C T v.complete)
    c.find.ensures.ran (search rules) (search rules) (λ x y q k. search (extra-here, rules, tests))
    in
    let at : c.find.result ≡ some c.in_ok-p.p = search rules in
    d-swap C T v.complete S c.in_ok-p.p c.depth.result (sym searched ∙ at) (search rules)
