-- What the driver's work leaves.
use Rattle.std.specs.Prelude.{ℕ, min, ◌≡◌, ◌≤◌, List, length, take}
use Rattle.scope.specs.Codes.{code, MAX-WORD}
use Rattle.scope.specs.JobFile.{driver_prints}
use Rattle.printing.specs.Promises.{placed}
use Rattle.scope.specs.Once.{shuffle_due}
use Rattle.job.specs.declared.Job.{Job}
use Rattle.job.specs.declared.JobWords.{JobWords}
use Rattle.shuffler.specs.declared.Answer as shuffler
use Rattle.shuffler.specs.Promises.{seen_in, lent_plain}
use Rattle.answer.specs.declared.Answer.{Answer}
use Rattle.answer.specs.Promises.{Writing, as_written}

-- the numbers that the lines say of a shuffle's answer
abbrev pub numbers : shuffler.Answer → Answer
numbers a = record { code = code a.outcome; shrink_ticks = a.shrink_ticks; grow_ticks = a.grow_ticks; slots = min MAX-WORD a.slots }

-- A run of a job, lent the low 2,048 words of the spill list's array as slots. What the slots are after it nobody sees.
pub record Runs (j : Job) (w : JobWords) (words : List ℕ) (a : shuffler.Answer) (left : List ℕ) : Type 0 where
  pub slots : List ℕ
  pub few : length slots ≤ 2048
  pub seen : seen_in a slots left
      ≡ shuffle_due (lent_plain (take j.starts w.start) (take 2048 w.spilled) j.spills j.first (take j.targets w.target) j.config words)

-- scope's lines for the bytes, at the low end of the buffer, if they fit; else nothing is written
abbrev pub prints : List ℕ → List ℕ → Writing
prints bytes lent = as_written (placed (driver_prints bytes) 0 lent)
