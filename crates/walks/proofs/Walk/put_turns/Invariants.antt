-- One turn more is some text more.
use Rattle.std.proofs.Common.{◌≡◌}
use Rattle.lines.specs.Promises.{Wrote}
use Rattle.walks.proofs.Walk.put_turns.Given as goal

abbrev pub invariant-loop-index : goal.invariant-loop-index
invariant-loop-index l = record {
  same : l.text.out.ghost_name ≡ l.initial.text.out.ghost_name;
  wrote : Wrote l.initial.text.out.now l.initial.text.len l.text.out.now l.text.len;
}
