-- What is laid, with the values that are left, is the whole.
use Rattle.std.proofs.Common.{rules}
use Rattle.lines.proofs.Parts.{values-on, values-end}
use Rattle.lines.proofs.put_values.Goals as goal

pub loop-value-preserved : goal.loop-value-preserved
loop-value-preserved c = record { same = search rules; going = search (values-on, rules) }

pub returns-clause-lays : goal.returns-clause-lays
returns-clause-lays c = search (values-end, rules)
