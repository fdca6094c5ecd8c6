-- Refused before the run, or the run from the state.
use Rattle.std.proofs.Common.{rules, refl}
use Rattle.shuffler.specs.Promises.{lent_state}
use Rattle.shuffler.proofs.Entries.{state-refused, state-kept, seen-done, state-after, stands}
use Rattle.shuffler.proofs.run.Goals as goal

pub returns-in-Err-clause-ops_after : goal.returns-in-Err-clause-ops_after
returns-in-Err-clause-ops_after c =
    rw c.with-answer.ensures (state-refused _ _ _ c.args.config _ _ _ _ c.refused.ensures c.new.ensures.stack (rw c.from.ensures at c.in-Err.ensures))

pub returns-in-Err-clause-state_value : goal.returns-in-Err-clause-state_value
returns-in-Err-clause-state_value c = state-kept _ _ _ c.args.config c.args.ops.now c.in-Err.refusal (rw c.from.ensures at c.in-Err.ensures)

pub returns-clause-ops_after : goal.returns-clause-ops_after
returns-clause-ops_after c =
    let e = c.run-ended.ensures in
    rw c.with-answer-2.ensures
    (seen-done (lent_state c.args.state c.args.spill.now c.args.target.now c.args.config c.args.ops.now) c.args.config refl refl (rw c.from.ensures at c.in_default.ensures)
    (λ ok. stands c.args.state.stack (search rules) ok.start) _ _ refl _ e.told e.slots e.ops _ _ _ refl (search rules) (search rules))

pub returns-clause-state_value : goal.returns-clause-state_value
returns-clause-state_value c =
    let e = c.run-ended.ensures in
    state-after (lent_state c.args.state c.args.spill.now c.args.target.now c.args.config c.args.ops.now) c.args.config refl refl (rw c.from.ensures at c.in_default.ensures)
    (λ ok. stands c.args.state.stack (search rules) ok.start) _ _ refl c.run-ended.result e.told e.loans.first
