-- Refused before the run, or the run from the start that is laid.
use Rattle.std.proofs.Common.{rules, refl}
use Rattle.shuffler.specs.Promises.{lent_plain}
use Rattle.shuffler.proofs.Entries.{shuffle-refused, shuffle-starts, lays, seen-done}
use Rattle.shuffler.proofs.shuffle_in.Goals as goal

pub returns-in-Err : goal.returns-in-Err
returns-in-Err c = shuffle-refused _ _ _ _ _ c.args.config _ _ _ _ c.refused.ensures c.in-Err.ensures

pub unwrap-requires : goal.unwrap-requires
unwrap-requires c = rw (lays c.args.start.now c.args.spill.now c.args.filled c.args.first c.args.target.now c.args.config c.args.ops.now c.in_default.ensures c.lay.result c.lay.ensures.code) (search rules)

pub returns : goal.returns
returns c =
    let e = c.run.ensures in
    seen-done (lent_plain c.args.start.now c.args.spill.now c.args.filled c.args.first c.args.target.now c.args.config c.args.ops.now) c.args.config refl refl c.in_default.ensures
    (λ ok. refl) _ _
    (rw (shuffle-starts c.args.start.now c.args.spill.now c.args.filled c.args.first c.args.target.now c.args.config c.args.ops.now c.in_default.ensures c.lay.new.self c.lay.ensures.stack) refl)
    _ e.told e.slots e.ops _ _ _ (search rules) (search rules) (search rules)
