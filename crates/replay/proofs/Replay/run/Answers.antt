-- What is left to replay gives the verdict of the whole; a turn replays one record.
use borrow.Author.Rules.{rules}
use Rattle.std.proofs.Common.{◌≡◌, Ok, Err, ◌∙◌, sym, refl}
use Rattle.replay.specs.declared.Fault.TheVariants.{Unlike}
use Rattle.replay.proofs.Laws.{begins, due-even, ends, refused, done, next-record, no-record}
use Rattle.replay.proofs.Replay.run.Goals as goal

pub loop-index-init : goal.loop-index-init
loop-index-init c =
    let at = c.requires in
    (search rules, begins _ _ _ _ _ at.start at.slots at.fresh at.free c.if-ops-ne0.false (search rules) refl)

pub returns-in_err-op-clause-due : goal.returns-in_err-op-clause-due
returns-in_err-op-clause-due c =
    let now = rw (next-record c.args.ops.now c.loop-index.index _ c.loop-index-test.true c.read_at.ensures) at c.loop-index.invariant.1 in
    let t = c.in_err-op.ensures in
    let r : c.from_residual-in_err-op.result ≡ Err c.in_err-op.field-0.0 = search rules in
    rw r (refused _ _ _ _ now _ t.same _ t.code t.filled t.spill ∙ sym (due-even _ c.if-ops-ne0.false))

pub loop-index-preserved : goal.loop-index-preserved
loop-index-preserved c =
    let now = rw (next-record c.args.ops.now c.loop-index.index _ c.loop-index-test.true c.read_at.ensures) at c.loop-index.invariant.1 in
    let t = c.in_ok-op.ensures in
    (search rules, done _ _ _ _ now _ t.same _ t.code t.op t.stack t.filled t.spill _ refl refl refl refl refl refl (search rules))

pub returns-then-not-equal-clause-due : goal.returns-then-not-equal-clause-due
returns-then-not-equal-clause-due c =
    let none = no-record _ _ c.if-ops-ne0.false c.loop-index-test.false in
    let equal = rw c.fifo.ensures.values at c.equal.ensures in
    ends _ _ _ c.loop-index.invariant.1 none (Err Unlike) _ equal (search rules) ∙ sym (due-even _ c.if-ops-ne0.false)

pub returns-clause-due : goal.returns-clause-due
returns-clause-due c =
    let none = no-record _ _ c.if-ops-ne0.false c.loop-index-test.false in
    let equal = rw c.fifo.ensures.values at c.equal.ensures in
    ends _ _ _ c.loop-index.invariant.1 none (Ok tt) _ equal (search rules) ∙ sym (due-even _ c.if-ops-ne0.false)
