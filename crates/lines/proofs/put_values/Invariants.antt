-- What is laid, with the values that are left, is the whole.
use Rattle.std.proofs.Common.{◌≡◌, drop}
use Rattle.lines.specs.Promises.{each}
use Rattle.lines.proofs.Laying.{Going}
use Rattle.lines.proofs.put_values.Given as goal

abbrev pub invariant-loop-value : goal.invariant-loop-value
invariant-loop-value l = record {
  same : l.text.out.ghost_name ≡ l.initial.text.out.ghost_name;
  going : Going l.initial.text.out.now l.initial.text.len (each l.shown) (each (drop l.value-index l.shown)) l.text.out.now l.text.len;
}
