-- A slot was filled, or none.
use borrow.Author.Tests.{lt-ltb, le-ltb}
use Rattle.std.proofs.Common.{length}
use Rattle.printing.proofs.Laying.{then}
use Rattle.walks.proofs.put_filled.Goals as goal
use Rattle.walks.proofs.put_filled.Goals.{then-before-slots, else-before-slots}

pub returns-clause-lays : goal.returns-clause-lays
returns-clause-lays c =
    let before = c.args.before in
    let slots = c.args.slots.now in
    elim c.if-before-slots.branch [
      | then-before-slots w ↦ rw (lt-ltb before (length slots) w.if-before-slots.true) (then (then w.put.ensures.lays w.put_slots.ensures.lays) (rw w.text-is at c.put-2.ensures.lays))
      | else-before-slots w ↦ rw (le-ltb before (length slots) w.if-before-slots.false) (rw w.text-is at c.put-2.ensures.lays)
    ]
