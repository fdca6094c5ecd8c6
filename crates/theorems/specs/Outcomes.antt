-- What comes out of a shuffle and out of the checker, as the statements speak of it, and the verdict that is due after a shuffle.
use Rattle.std.specs.Prelude.{ℕ, ◌*◌, ◌≡◌, List, [], ◌∷◌, length, take, drop, replicate, if◌then◌else◌}
use Rattle.scope.specs.declared.Op.{Op}
use Rattle.scope.specs.declared.Op.TheVariants.{Store, Load}
use Rattle.scope.specs.Codes.{code, DONE, UNLIKE}
use Rattle.scope.specs.Words.{if_zero, same_list, stack_of}
use Rattle.scope.specs.Machine.{record_words, words_of, over, over_from, gas_sum}
use Rattle.scope.specs.Evm.{Instr, Does, Codes}
use Rattle.scope.specs.Shuffle.{code_of, shuffle}
use Rattle.scope.specs.Replay.{verdict}
use Rattle.scope.specs.Once.{Promise, Lent, job_lent, start_lent, Seen, shuffle_due, SeenVerdict, seen_verdict, check_due}
use Rattle.stack.specs.declared.EvmStack.{EvmStack}
use Rattle.stack.specs.Promises.{stack_in}
use Rattle.shuffler.specs.declared.Answer.{Answer}
use Rattle.replay.specs.declared.Verdict.{Verdict}
use Rattle.replay.specs.Faults.{code_of as verdict_code}

-- ---- A shuffle: what its answer tells, and every word of the two buffers after it

-- What an answer tells: C's has these fields; the Rust one's outcome tells the code.
pub record Told : Type 0 where
  pub code : ℕ
  pub shrink_ticks : ℕ
  pub grow_ticks : ℕ
  pub ops : ℕ
  pub slots : ℕ
  pub stack : EvmStack

abbrev pub told_by : Answer → Told
told_by r = record {
  code = code r.outcome;
  shrink_ticks = r.shrink_ticks;
  grow_ticks = r.grow_ticks;
  ops = r.ops;
  slots = r.slots;
  stack = r.stack;
}

pub record Shuffled : Type 0 where
  pub answer : Told
  pub spill : List ℕ
  pub words : List ℕ

abbrev pub shows : Shuffled → Seen
shows o = record {
  code = o.answer.code;
  shrink_ticks = o.answer.shrink_ticks;
  grow_ticks = o.answer.grow_ticks;
  ops = o.answer.ops;
  slots = o.answer.slots;
  stack = stack_in o.answer.stack;
  spill = o.spill;
  words = o.words;
}

-- The promise of `shuffle`, of `run`, of the entry and of `njallavet_shuffle`: they differ in what is lent, and in nothing else. Each `seen_in`
-- is this view, of the Rust answer by `told_by`, of C's field by field.
abbrev pub Shuffles : Lent → Shuffled → Type 0
Shuffles e o = Promise shows shuffle_due e o

-- ---- The checker: what its verdict tells, and every word of the spill buffer after it

-- What a verdict tells: C's has these fields; the Rust one's outcome tells the code.
pub record Found : Type 0 where
  pub code : ℕ
  pub index : ℕ
  pub gas : ℕ
  pub filled : ℕ

abbrev pub answered : ℕ → ℕ → ℕ → ℕ → Found
answered c i g n = record { code = c; index = i; gas = g; filled = n }

abbrev pub found_by : Verdict → Found
found_by v = answered (verdict_code v.outcome) v.index v.gas v.filled

pub record Checked : Type 0 where
  pub verdict : Found
  pub spill : List ℕ

abbrev pub finds : Checked → SeenVerdict
finds v = record { code = v.verdict.code; index = v.verdict.index; gas = v.verdict.gas; filled = v.verdict.filled; spill = v.spill }

-- The promise of `check` and of `njallavet_check`; each `seen` is this view.
abbrev pub Checks : Lent → Checked → Type 0
Checks e v = Promise finds check_due e v

-- ---- A shuffle, and then the checker

-- What the checker is lent after a shuffle: the same job, the slots as the shuffle left them, the words that it wrote and no others.
abbrev pub lent_after : Lent → Shuffled → Lent
lent_after e o = record {
  S = e.S;
  D = e.D;
  target = e.target;
  stack = e.stack;
  first = e.first;
  filled = e.filled;
  spill = o.spill;
  written = 0;
  words = take (record_words * o.answer.ops) (drop (record_words * e.written) o.words);
}

-- The verdict on what a shuffle wrote: no fault in any operation, so all are counted; 0 where the shuffle ended in the target, 41 where it
-- was refused on the way. Codes 1 to 5 are the same for both.
unfoldable pub confirm_due : Lent → SeenVerdict
confirm_due e =
    let r = shuffle (job_lent e) (start_lent e) in
    let k = code_of (job_lent e) (start_lent e) in
    let whole = verdict (if same_list r.stack e.target then DONE else UNLIKE) (length r.ops) (gas_sum r.ops) r.spilled in
    seen_verdict (if_zero k whole (verdict k 0 0 [])) e

-- ---- What a shuffle has written

-- the operations os, whose words follow those written before the call, and the slots, filled from the first on; every other word is as lent
pub record Wrote (e : Lent) (o : Shuffled) (os : List Op) (slots : List ℕ) : Type 0 where
  pub ops : o.answer.ops ≡ length os
  pub words : o.words ≡ over_from (record_words * e.written) (words_of os) e.words
  pub filled : o.answer.slots ≡ length slots
  pub spill : o.spill ≡ over slots e.spill

-- an operation that leaves l' of l: the instruction of the EVM that it is written as does that and does not halt, or it is none of the stack's own
pub data OnEvm : Op → List ℕ → List ℕ → Type 0 where
  instruction : {o : Op} {l l' : List ℕ} (i : Instr) → Codes o i → Does i l l' → OnEvm o l l'
  stores : {l l' : List ℕ} (id : ℕ) → OnEvm (Store id) l l'
  loads : {l l' : List ℕ} (id : ℕ) → OnEvm (Load id) l l'

-- ---- Jobs of the runs worked by hand, with room for eight operations and two slots

abbrev pub lends : ℕ → ℕ → List ℕ → List ℕ → Lent
lends swaps dups start target = record {
  S = swaps;
  D = dups;
  target = target;
  stack = stack_of start;
  first = 0;
  filled = 0;
  spill = replicate 2 0;
  written = 0;
  words = replicate 16 0;
}

abbrev pub case_b : Lent
case_b = lends 16 15 (7 ∷ []) []

abbrev pub case_e : Lent
case_e = lends 16 15 (1 ∷ []) (1 ∷ 1 ∷ [])

abbrev pub case_f : Lent
case_f = lends 16 15 (3 ∷ 1 ∷ 2 ∷ []) (3 ∷ 2 ∷ 1 ∷ [])

abbrev pub case_k : Lent
case_k = lends 1 0 (1 ∷ 2 ∷ 3 ∷ []) (3 ∷ 2 ∷ 1 ∷ [])

-- a list of no operations, put to the checker for the target of A and B: right from A's start, not from B's
abbrev pub none_from : List ℕ → Lent
none_from start = record { S = 16; D = 15; target = []; stack = stack_of start; first = 0; filled = 0; spill = []; written = 0; words = [] }
