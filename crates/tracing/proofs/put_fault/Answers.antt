-- One text after the other.
use Rattle.std.proofs.Common.{◌∙◌}
use Rattle.printing.proofs.Laying.{then}
use Rattle.lines.proofs.Laying.{some-laid}
use Rattle.tracing.proofs.put_fault.Goals as goal

pub returns-in-Err : goal.returns-in-Err
returns-in-Err c = record {
  wrote = some-laid (then c.put_turn.ensures.lays c.put.ensures.lays);
  same = c.put.ensures.same ∙ c.put_turn.ensures.same;
}
