-- The first of the rules that applies.
use Rattle.std.proofs.Common.{rules}
use Rattle.rules.proofs.Chains.{settle-a, settle-b, settle-x, settle-c}
use Rattle.rules.proofs.Fetching.{settled-none, settled-some}
use Rattle.rules.proofs.grow.settle.Goals as goal

pub returns-then-view : goal.returns-then-view
returns-then-view c =
    let v = c.args.view.now in
    settled-none v.current.now v.target.now v.spilled.now v.complete v.config.max_swap_depth v.config.max_dup_depth (search rules)

pub returns-in-Some : goal.returns-in-Some
returns-in-Some c =
    let v = c.args.view.now in
    settled-some v.current.now v.target.now v.spilled.now v.complete v.config.max_swap_depth v.config.max_dup_depth _ (search rules)
    (settle-a v.current.now v.target.now v.spilled.now v.complete v.config.max_swap_depth v.config.max_dup_depth
    _ c.pop_unneeded.ensures _ (search rules))

pub returns-in-Some-swap_to_correct_position : goal.returns-in-Some-swap_to_correct_position
returns-in-Some-swap_to_correct_position c =
    let v = c.args.view.now in
    settled-some v.current.now v.target.now v.spilled.now v.complete v.config.max_swap_depth v.config.max_dup_depth _ (search rules)
    (settle-b v.current.now v.target.now v.spilled.now v.complete v.config.max_swap_depth v.config.max_dup_depth
    _ c.pop_unneeded.ensures (search rules)
    _ c.swap_to_correct_position.ensures _ (search rules))

pub returns-in-Some-exchange_via_top : goal.returns-in-Some-exchange_via_top
returns-in-Some-exchange_via_top c =
    let v = c.args.view.now in
    settled-some v.current.now v.target.now v.spilled.now v.complete v.config.max_swap_depth v.config.max_dup_depth _ (search rules)
    (settle-x v.current.now v.target.now v.spilled.now v.complete v.config.max_swap_depth v.config.max_dup_depth
    _ c.pop_unneeded.ensures (search rules)
    _ c.swap_to_correct_position.ensures (search rules)
    _ c.exchange_via_top.ensures _ (search rules))

pub returns : goal.returns
returns c =
    let v = c.args.view.now in
    settled-some v.current.now v.target.now v.spilled.now v.complete v.config.max_swap_depth v.config.max_dup_depth _ (search rules)
    (settle-c v.current.now v.target.now v.spilled.now v.complete v.config.max_swap_depth v.config.max_dup_depth
    _ c.pop_unneeded.ensures (search rules)
    _ c.swap_to_correct_position.ensures (search rules)
    _ c.exchange_via_top.ensures _ (search rules) c.pop_extra.ensures)
