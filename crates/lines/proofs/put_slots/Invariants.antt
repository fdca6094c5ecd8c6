-- What is laid, with the slots that are left, is the whole.
use Rattle.std.proofs.Common.{◌≡◌, ◌≤◌, length, drop}
use Rattle.lines.specs.Promises.{each_slot}
use Rattle.lines.proofs.Laying.{Going}
use Rattle.lines.proofs.put_slots.Given as goal

abbrev pub invariant-loop-i : goal.invariant-loop-i
invariant-loop-i l = record {
  same : l.text.out.ghost_name ≡ l.initial.text.out.ghost_name;
  inside : l.i ≤ length l.slots;
  going : Going l.initial.text.out.now l.initial.text.len (each_slot l.first l.initial.i (drop l.initial.i l.slots)) (each_slot l.first l.i (drop l.i l.slots)) l.text.out.now l.text.len;
}
