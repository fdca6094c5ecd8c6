-- The first of the rules that applies, else the store.
use Rattle.std.proofs.Common.{rules}
use Rattle.rules.proofs.Chains.{shrink-a, shrink-b, shrink-c, shrink-d, shrink-e, shrink-f}
use Rattle.rules.proofs.shrink.shrink_choice.Goals as goal

pub returns-in-Some : goal.returns-in-Some
returns-in-Some c =
    let v = c.args.view.now in
    shrink-a v.current.now v.target.now v.complete v.config.max_swap_depth
    _ c.pop_unneeded.ensures _ (search rules)

pub returns-in-Some-swap_to_correct_position : goal.returns-in-Some-swap_to_correct_position
returns-in-Some-swap_to_correct_position c =
    let v = c.args.view.now in
    shrink-b v.current.now v.target.now v.complete v.config.max_swap_depth
    _ c.pop_unneeded.ensures (search rules)
    _ c.swap_to_correct_position.ensures _ (search rules)

pub returns-in-Some-pop_extra : goal.returns-in-Some-pop_extra
returns-in-Some-pop_extra c =
    let v = c.args.view.now in
    shrink-c v.current.now v.target.now v.complete v.config.max_swap_depth
    _ c.pop_unneeded.ensures (search rules)
    _ c.swap_to_correct_position.ensures (search rules)
    _ c.pop_extra.ensures _ (search rules)

pub returns-in-Some-swap_and_pop_extra : goal.returns-in-Some-swap_and_pop_extra
returns-in-Some-swap_and_pop_extra c =
    let v = c.args.view.now in
    shrink-d v.current.now v.target.now v.complete v.config.max_swap_depth
    _ c.pop_unneeded.ensures (search rules)
    _ c.swap_to_correct_position.ensures (search rules)
    _ c.pop_extra.ensures (search rules)
    _ c.swap_and_pop_extra.ensures _ (search rules)

pub returns-in-Some-pop_duplicate : goal.returns-in-Some-pop_duplicate
returns-in-Some-pop_duplicate c =
    let v = c.args.view.now in
    shrink-e v.current.now v.target.now v.complete v.config.max_swap_depth
    _ c.pop_unneeded.ensures (search rules)
    _ c.swap_to_correct_position.ensures (search rules)
    _ c.pop_extra.ensures (search rules)
    _ c.swap_and_pop_extra.ensures (search rules)
    _ c.pop_duplicate.ensures _ (search rules)

pub returns : goal.returns
returns c =
    let v = c.args.view.now in
    shrink-f v.current.now v.target.now v.complete v.config.max_swap_depth
    _ c.pop_unneeded.ensures (search rules)
    _ c.swap_to_correct_position.ensures (search rules)
    _ c.pop_extra.ensures (search rules)
    _ c.swap_and_pop_extra.ensures (search rules)
    _ c.pop_duplicate.ensures (search rules)
