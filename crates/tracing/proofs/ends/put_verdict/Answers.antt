-- One text after the other.
use Rattle.printing.proofs.Laying.{then}
use Rattle.lines.proofs.Laying.{some-laid, and_then}
use Rattle.tracing.proofs.ends.put_verdict.Goals as goal

pub returns-clause-wrote : goal.returns-clause-wrote
returns-clause-wrote c = and_then (some-laid (then (then (then (then c.label.ensures.lays c.label-2.ensures.lays) c.label-3.ensures.lays) c.label-4.ensures.lays) c.put.ensures.lays)) c.put_refusal.ensures.wrote
