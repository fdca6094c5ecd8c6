-- One text after the other.
use Rattle.lines.proofs.Laying.{some-laid, and_then}
use Rattle.tracing.proofs.ends.put_job.Goals as goal

pub returns-clause-wrote : goal.returns-clause-wrote
returns-clause-wrote c = and_then (and_then (and_then c.put_limits.ensures.wrote (some-laid c.put_list.ensures.lays)) c.put_spilled.ensures.wrote) (some-laid c.put_list-2.ensures.lays)
