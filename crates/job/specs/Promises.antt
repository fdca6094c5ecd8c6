-- What reading a job answers: which field and which buffer is which of scope's.
use Rattle.std.specs.Prelude.{ℕ, ◌≤◌, List, length, get_or, Result, Ok, Err}
use Rattle.std.specs.Prelude.{Option, None as none, Some as some}
use Rattle.scope.specs.declared.Refusal.{Refusal}
use Rattle.scope.specs.Codes.{DONE, JOB, number_of}
use Rattle.scope.specs.Machine.{over}
use Rattle.scope.specs.JobFile.{JobFile}
use Rattle.job.specs.declared.Job.{Job}
use Rattle.job.specs.declared.JobWords.{JobWords}

-- the code, the length of each list, the numbers, and every word of the three buffers
pub record Read : Type 0 where
  pub code : ℕ
  pub starts : ℕ
  pub spills : ℕ
  pub targets : ℕ
  pub first : ℕ
  pub S : ℕ
  pub D : ℕ
  pub start : List ℕ
  pub spilled : List ℕ
  pub target : List ℕ

-- a job's lists at the low ends of the three buffers; no job: 13, zeros, the buffers as lent
abbrev pub read_into : Option JobFile → List ℕ → List ℕ → List ℕ → Read
read_into none x y z = record { code = JOB; starts = 0; spills = 0; targets = 0; first = 0; S = 0; D = 0; start = x; spilled = y; target = z }
read_into (some f) x y z = record {
  code = DONE;
  starts = length f.start;
  spills = length f.spilled;
  targets = length f.target;
  first = f.first;
  S = f.S;
  D = f.D;
  start = over f.start x;
  spilled = over f.spilled y;
  target = over f.target z;
}

-- an answer, with the arrays as they are then; a refusal has zeros
abbrev pub read_of : Result Job Refusal → JobWords → Read
read_of (Ok r) w = record {
  code = DONE;
  starts = r.starts;
  spills = r.spills;
  targets = r.targets;
  first = r.first;
  S = r.config.max_swap_depth;
  D = r.config.max_dup_depth;
  start = w.start;
  spilled = w.spilled;
  target = w.target;
}
read_of (Err r) w = record {
  code = number_of r;
  starts = 0;
  spills = 0;
  targets = 0;
  first = 0;
  S = 0;
  D = 0;
  start = w.start;
  spilled = w.spilled;
  target = w.target;
}

-- every byte is one: so it is of any slice of them
abbrev pub AllBytes : List ℕ → Type 0
AllBytes bs = (i : ℕ) → get_or bs i 0 ≤ 255
