-- What is lent is the job's, and what the slots are afterwards is no one's.
use Rattle.std.proofs.Common.{rules, arith}
use Rattle.driving.proofs.Driven.{same-part}
use Rattle.driving.proofs.run_job.Goals as goal

pub returns : goal.returns
returns c = record { slots = c.shuffle.new.spill; few = omega (arith, c.shuffle.auto, c.copy_from_slice.ensures.len); seen = search (same-part, rules) }
