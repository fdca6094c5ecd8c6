-- The code, its name and its meaning, one after the other.
use Rattle.printing.proofs.Laying.{then}
use Rattle.lines.proofs.Laying.{some-laid, and_then}
use Rattle.tracing.proofs.ends.put_refusal.Goals as goal

pub returns-in-Err-clause-wrote : goal.returns-in-Err-clause-wrote
returns-in-Err-clause-wrote c =
    let name = and_then (some-laid (then c.label.ensures.lays c.put.ensures.lays)) c.put_meaning.ensures.wrote in
    and_then name (some-laid c.put-in-Err.ensures.lays)
