-- What is there first, then a push or a store.
use Rattle.std.proofs.Common.{rules}
use Rattle.rules.specs.Promises.{always}
use Rattle.rules.proofs.Chains.{grow-settled, grow-pushed}
use Rattle.rules.proofs.grow.grow_choice.Goals as goal

pub returns-in-Some : goal.returns-in-Some
returns-in-Some c =
    let v = c.args.view.now in
    grow-settled v.current.now v.target.now v.spilled.now v.complete v.config.max_swap_depth v.config.max_dup_depth _ c.settle.ensures _ (search rules)

pub returns : goal.returns
returns c =
    let v = c.args.view.now in
    grow-pushed v.current.now v.target.now v.spilled.now v.complete v.config.max_swap_depth v.config.max_dup_depth _ c.settle.ensures
    (always c.push_or_store.result) (search rules) c.push_or_store.ensures
