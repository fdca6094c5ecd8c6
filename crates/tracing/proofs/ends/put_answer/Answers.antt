-- One text after the other.
use Rattle.lines.proofs.Laying.{and_then}
use Rattle.tracing.proofs.ends.put_answer.Goals as goal

pub returns-clause-wrote : goal.returns-clause-wrote
returns-clause-wrote c = and_then c.put_answer_line.ensures.wrote c.put_refusal.ensures.wrote
