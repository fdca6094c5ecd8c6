-- One text after the other.
use Rattle.lines.proofs.Laying.{and_then}
use Rattle.tracing.proofs.show_run.Goals as goal

pub returns-clause-wrote : goal.returns-clause-wrote
returns-clause-wrote c = and_then (and_then c.put_job.ensures.wrote c.put_operations.ensures.wrote) c.put_answer.ensures.wrote
