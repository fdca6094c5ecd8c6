-- The checker's promise, of the words that the shuffle's promise says are there.
use Rattle.theorems.proofs.After.{confirms}
use Rattle.theorems.proofs.shuffle_and_check.Goals as goal

pub returns-clause-spill_after : goal.returns-clause-spill_after
returns-clause-spill_after c =
    let lent = c.args in
    (confirms lent.start.now lent.spill.now lent.target.now lent.ops.now lent.filled lent.first lent.config _ _ _ _ _ _
    c.shuffle-answer.ensures c.records.ensures c.check-verdict.ensures).1

pub returns-clause-ops_after : goal.returns-clause-ops_after
returns-clause-ops_after c =
    let lent = c.args in
    (confirms lent.start.now lent.spill.now lent.target.now lent.ops.now lent.filled lent.first lent.config _ _ _ _ _ _
    c.shuffle-answer.ensures c.records.ensures c.check-verdict.ensures).0
