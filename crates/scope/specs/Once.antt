-- Document 01, "What a reader may rely on": a promise determines the outcome. A promise has the form "what is seen of the outcome is
-- what is due for what was lent"; every field of the answer and every lent word is seen, of a stack its height and its values.
use Rattle.std.specs.Prelude.{ℕ, ◌-◌, ◌*◌, ◌≡◌, List, length, take}
use Rattle.scope.specs.Words.{Stack, stack_of}
use Rattle.scope.specs.Machine.{record_words, capacity, over, over_from, words_of}
use Rattle.scope.specs.Rules.{Job}
use Rattle.scope.specs.Shuffle.{Start, Result, shuffle}
use Rattle.scope.specs.Replay.{Verdict, replay}

abbrev pub Promise : {Lent Out Seen : Type 0} → (Out → Seen) → (Lent → Seen) → Lent → Out → Type 0
Promise seen due lent out = seen out ≡ due lent

-- Two outcomes that keep the promise are the same in all that is seen.
abbrev pub Once : {Lent Out Seen : Type 0} → (Out → Seen) → (Lent → Seen) → Type 0
Once {Lent} {Out} {Seen} seen due = (lent : Lent) (a b : Out) → Promise seen due lent a → Promise seen due lent b → seen a ≡ seen b

-- ---- What is lent to a shuffle or to the checker: the job's numbers, the start as stated, each buffer with every word

pub record Lent : Type 0 where
  pub S : ℕ
  pub D : ℕ
  pub target : List ℕ
  pub stack : Stack
  pub first : ℕ
  pub filled : ℕ
  pub spill : List ℕ
  pub written : ℕ
  pub words : List ℕ

abbrev pub job_lent : Lent → Job
job_lent e =
    record { S = e.S; D = e.D; T = e.target; first = e.first; slots = length e.spill; room = capacity (length e.words) - e.written }

abbrev pub start_lent : Lent → Start
start_lent e = record { stack = e.stack; filled = e.filled; spilled = take e.filled e.spill }

-- ---- What is seen of a shuffle's outcome

pub record Seen : Type 0 where
  pub code : ℕ
  pub shrink_ticks : ℕ
  pub grow_ticks : ℕ
  pub ops : ℕ
  pub slots : ℕ
  pub stack : Stack
  pub spill : List ℕ
  pub words : List ℕ

-- The operations follow those that were written before; what lies beyond the counts is as it was lent.
abbrev pub seen_of : Result → Lent → Seen
seen_of r e = record {
  code = r.code;
  shrink_ticks = r.shrink_ticks;
  grow_ticks = r.grow_ticks;
  ops = length r.ops;
  slots = length r.spilled;
  stack = stack_of r.stack;
  spill = over r.spilled e.spill;
  words = over_from (record_words * e.written) (words_of r.ops) e.words;
}

unfoldable pub shuffle_due : Lent → Seen
shuffle_due e = seen_of (shuffle (job_lent e) (start_lent e)) e

-- ---- and of the checker's

pub record SeenVerdict : Type 0 where
  pub code : ℕ
  pub index : ℕ
  pub gas : ℕ
  pub filled : ℕ
  pub spill : List ℕ

abbrev pub seen_verdict : Verdict → Lent → SeenVerdict
seen_verdict v e =
    record { code = v.code; index = v.index; gas = v.gas; filled = length v.spilled; spill = over v.spilled e.spill }

unfoldable pub check_due : Lent → SeenVerdict
check_due e = seen_verdict (replay (job_lent e) (start_lent e) e.words) e
