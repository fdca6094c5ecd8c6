-- What is laid, with the slots that are left, is the whole.
use Rattle.std.proofs.Common.{rules, arith}
use Rattle.lines.proofs.Parts.{slots-on, slots_end}
use Rattle.lines.proofs.put_slots.Goals as goal

pub loop-i-preserved : goal.loop-i-preserved
loop-i-preserved c = record {
  same = search rules;
  inside = omega arith;
  going = search (slots-on, rules);
}

pub returns-clause-lays : goal.returns-clause-lays
returns-clause-lays c = search (slots_end, rules)
