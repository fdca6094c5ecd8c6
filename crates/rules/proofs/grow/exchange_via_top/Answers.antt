-- The search from p on gives the whole answer; a turn looks for one position's source.
use Rattle.std.proofs.Common.{◌≡◌, None as none, Some as some, rules}
use Rattle.questions.specs.Promises.{source_for}
use Rattle.rules.proofs.Swapping.{x-swaps, x-again, x-pass}
use Rattle.rules.proofs.grow.exchange_via_top.Goals as goal

pub returns-in-Some : goal.returns-in-Some
returns-in-Some c =
    let v = c.args.view.now in
    let f = c.floor-start.result.0 in
    let source : source_for v.current.now v.target.now f c.loop-p.p ≡ some c.in-Some.q = search rules in
    x-swaps v.current.now v.target.now v.complete v.config.max_swap_depth f (search rules) c.loop-p.p c.in-Some.q source
    c.depth-down.result c.depth-back.result (search rules) c.loop-p.invariant (search rules) (search rules)
    v.spilled.now v.config.max_dup_depth

pub loop-p-preserved : goal.loop-p-preserved
loop-p-preserved c =
    let v = c.args.view.now in
    let f = c.floor-start.result.0 in
    let lacks : source_for v.current.now v.target.now f c.loop-p.p ≡ none = search rules in
    x-again v.current.now v.target.now f c.loop-p.p c.loop-p.invariant (search rules) lacks

pub returns : goal.returns
returns c =
    let v = c.args.view.now in
    let f = c.floor-start.result.0 in
    x-pass v.current.now v.target.now v.complete v.config.max_swap_depth f (search rules) c.loop-p.p c.loop-p.invariant
    (search rules) v.spilled.now v.config.max_dup_depth
