-- The search from p on gives the whole answer; a turn looks for one position's copy.
use Rattle.std.proofs.Common.{◌≡◌, None as none, Some as some, rules}
use Rattle.questions.specs.Promises.{copy_for}
use Rattle.rules.proofs.Fetching.{v-empty, v-dup, v-again, v-pass}
use Rattle.rules.proofs.grow.dup_needed.Goals as goal

pub returns-then-is_empty : goal.returns-then-is_empty
returns-then-is_empty c =
    let v = c.args.view.now in
    v-empty v.current.now v.target.now v.config.max_dup_depth (search rules) v.spilled.now v.complete v.config.max_swap_depth

pub returns-in-Some : goal.returns-in-Some
returns-in-Some c =
    let v = c.args.view.now in
    let b = c.to_position-start.result.0 in
    let copied : copy_for v.current.now v.target.now b c.loop-p.p ≡ some c.in-Some.d = search rules in
    v-dup v.current.now v.target.now v.config.max_dup_depth b (search rules) (search rules) c.loop-p.p c.in-Some.d copied
    c.within.result (search rules) c.loop-p.invariant (search rules) v.spilled.now v.complete v.config.max_swap_depth

pub loop-p-preserved : goal.loop-p-preserved
loop-p-preserved c =
    let v = c.args.view.now in
    let b = c.to_position-start.result.0 in
    let lacks : copy_for v.current.now v.target.now b c.loop-p.p ≡ none = search rules in
    v-again v.current.now v.target.now b c.loop-p.p c.loop-p.invariant (search rules) lacks

pub returns : goal.returns
returns c =
    let v = c.args.view.now in
    let b = c.to_position-start.result.0 in
    v-pass v.current.now v.target.now v.config.max_dup_depth b (search rules) (search rules) c.loop-p.p (search rules)
    c.loop-p.invariant v.spilled.now v.complete v.config.max_swap_depth
