-- One text after the other.
use Rattle.lines.proofs.Laying.{and_then}
use Rattle.walks.proofs.put_walk.Goals as goal

pub returns-clause-wrote : goal.returns-clause-wrote
returns-clause-wrote c = and_then c.put_start.ensures.wrote c.put_turns.ensures.wrote
