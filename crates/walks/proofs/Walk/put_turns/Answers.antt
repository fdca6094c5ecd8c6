-- One turn more is some text more.
use Rattle.std.proofs.Common.{rules}
use Rattle.lines.proofs.Laying.{nothing, and_then, some-laid}
use Rattle.walks.proofs.Walk.put_turns.Goals as goal

pub loop-index-init : goal.loop-index-init
loop-index-init c = record { same = search rules; wrote = nothing _ _ }

pub loop-index-preserved : goal.loop-index-preserved
loop-index-preserved c = record {
  same = search rules;
  wrote = and_then c.loop-index.invariant.wrote (some-laid c.put_one.ensures.shown);
}
