-- Each return is one case of (u).
use Rattle.std.proofs.Common.{◌≡◌, Err, rules}
use Rattle.rules.proofs.Fetching.{u-low, u-outside, u-load, u-pass}
use Rattle.rules.proofs.grow.unspill_unavailable_horizon.Goals as goal

pub returns-then-view-limit : goal.returns-then-view-limit
returns-then-view-limit c = search (u-low, rules)

pub returns-then-end-horizon : goal.returns-then-end-horizon
returns-then-end-horizon c = search (u-outside, rules)

pub returns-then-not-is_unavailable : goal.returns-then-not-is_unavailable
returns-then-not-is_unavailable c = search (u-pass, rules)

pub returns-in_err-choice : goal.returns-in_err-choice
returns-in_err-choice c =
    let v = c.args.view.now in
    let gone : c.from_residual.result ≡ Err c.in_err-choice.field-0.0 = search rules in
    rw gone (
    u-load v.current.now v.target.now v.spilled.now v.config.max_swap_depth c.end.result c.is_unavailable.result
    (search rules) (search rules) (search rules) (search rules) c.at.result _ (search rules) (search rules)
    c.in_err-choice.ensures v.complete v.config.max_dup_depth)

pub returns : goal.returns
returns c =
    let v = c.args.view.now in
    u-load v.current.now v.target.now v.spilled.now v.config.max_swap_depth c.end.result c.is_unavailable.result
    (search rules) (search rules) (search rules) (search rules) c.at.result _ (search rules) (search rules)
    c.in_ok-choice.ensures v.complete v.config.max_dup_depth
