-- Document 01, "The driver": a job's bytes, and the lines that answer it.
use Rattle.std.specs.Prelude.{ℕ, zero, suc, ◌+◌, ◌*◌, ◌/◌, ◌%◌, ◌≤◌, Bool, ◌&&◌, List, [], ◌∷◌, ◌++◌, length, get_or, eqb, leb, if◌then◌else◌}
use Rattle.std.specs.Prelude.{Option, None as none, Some as some}
use Rattle.scope.specs.declared.Op.{Op}
use Rattle.scope.specs.Codes.{JOB, MAX-WORD}
use Rattle.scope.specs.Machine.{gas_sum}
use Rattle.scope.specs.Rules.{Job}
use Rattle.scope.specs.Shuffle.{start_of, Result, result, started, shuffle}
use Rattle.scope.specs.Stack.{decimal, printed, stack_op}

-- What a job file says: the three lists, the first slot, the two limits.
pub record JobFile : Type 0 where
  pub start : List ℕ
  pub spilled : List ℕ
  pub target : List ℕ
  pub first : ℕ
  pub S : ℕ
  pub D : ℕ

-- ---- The bytes of a job

-- a word's four bytes, the lowest first
abbrev pub word_bytes : ℕ → List ℕ
word_bytes v = (v % 256) ∷ (v / 256 % 256) ∷ (v / 65536 % 256) ∷ (v / 16777216 % 256) ∷ []

unfoldable pub bytes_of : List ℕ → List ℕ
bytes_of [] = []
bytes_of (v ∷ vs) = word_bytes v ++ bytes_of vs

-- the nine words in front take 36 bytes; each list starts where the one before it ends
abbrev pub head_bytes : ℕ
head_bytes = 36

abbrev pub spilled_at : ℕ → ℕ
spilled_at starts = head_bytes + 4 * starts

abbrev pub target_at : ℕ → ℕ → ℕ
target_at starts spills = spilled_at starts + 4 * spills

abbrev pub end_at : ℕ → ℕ → ℕ → ℕ
end_at starts spills targets = target_at starts spills + 4 * targets

unfoldable pub job_bytes : JobFile → List ℕ
job_bytes f =
    let a = length f.start in
    let b = length f.spilled in
    let c = length f.target in
    bytes_of (a ∷ head_bytes ∷ b ∷ spilled_at a ∷ c ∷ target_at a b ∷ f.first ∷ f.S ∷ f.D ∷ f.start ++ f.spilled ++ f.target)

-- every word of a list fits 32 bits
pub data AllWords : List ℕ → Type 0 where
  no_words : AllWords []
  one_more : (v : ℕ) (vs : List ℕ) → v ≤ MAX-WORD → AllWords vs → AllWords (v ∷ vs)

-- the limits of a job: 255 for S and D, 16,420 bytes for the whole
pub record Fits (f : JobFile) : Type 0 where
  pub swaps : f.S ≤ 255
  pub dups : f.D ≤ 255
  pub slot : f.first ≤ MAX-WORD
  pub start : AllWords f.start
  pub spilled : AllWords f.spilled
  pub target : AllWords f.target
  pub size : end_at (length f.start) (length f.spilled) (length f.target) ≤ 16420

-- ---- Reading it

-- the word at a byte offset, and so many words from there
abbrev pub word_at : List ℕ → ℕ → ℕ
word_at bs i = get_or bs i 0 + 256 * get_or bs (i + 1) 0 + 65536 * get_or bs (i + 2) 0 + 16777216 * get_or bs (i + 3) 0

unfoldable pub words_at : List ℕ → ℕ → ℕ → List ℕ
words_at bs i zero = []
words_at bs i (suc k) = let rest = words_at bs (i + 4) k in word_at bs i ∷ rest

-- the bytes are a job: the head is there, the whole is not too long, each offset is the running one, the length is exactly right, the limits are bytes
unfoldable pub is_job : List ℕ → Bool
is_job bs =
    let a = word_at bs 0 in
    let b = word_at bs 8 in
    let c = word_at bs 16 in
    leb head_bytes (length bs) && leb (length bs) 16420 && eqb (word_at bs 4) head_bytes && eqb (word_at bs 12) (spilled_at a)
    && eqb (word_at bs 20) (target_at a b) && eqb (length bs) (end_at a b c) && leb (word_at bs 28) 255 && leb (word_at bs 32) 255

unfoldable pub read_job : List ℕ → JobFile
read_job bs =
    let a = word_at bs 0 in
    let b = word_at bs 8 in
    let c = word_at bs 16 in
    record {
      start = words_at bs head_bytes a;
      spilled = words_at bs (spilled_at a) b;
      target = words_at bs (target_at a b) c;
      first = word_at bs 24;
      S = word_at bs 28;
      D = word_at bs 32;
    }

unfoldable pub parsed : List ℕ → Option JobFile
parsed bs = if is_job bs then some (read_job bs) else none

-- ---- Answering it

-- the room that the driver lends
abbrev pub driver_slots : ℕ
driver_slots = 2048

abbrev pub driver_room : ℕ
driver_room = 4096

abbrev pub job_of : JobFile → Job
job_of f = record { S = f.S; D = f.D; T = f.target; first = f.first; slots = driver_slots; room = driver_room }

-- no job: code 13, and nothing else
abbrev pub result_of : Option JobFile → Result
result_of none = result JOB 0 0 (started [] [])
result_of (some f) = shuffle (job_of f) (start_of f.start f.spilled)

-- one operation to a line
unfoldable pub op_lines : List Op → List ℕ
op_lines [] = []
op_lines (o ∷ os) = printed (stack_op o) ++ (10 ∷ []) ++ op_lines os

-- "answer ", " shrink ", " grow ", " ops ", " slots ", " gas ", each with its number, and then the operations
unfoldable pub answer_lines : Result → List ℕ
answer_lines r =
    (97 ∷ 110 ∷ 115 ∷ 119 ∷ 101 ∷ 114 ∷ 32 ∷ []) ++ decimal r.code
    ++ (32 ∷ 115 ∷ 104 ∷ 114 ∷ 105 ∷ 110 ∷ 107 ∷ 32 ∷ []) ++ decimal r.shrink_ticks
    ++ (32 ∷ 103 ∷ 114 ∷ 111 ∷ 119 ∷ 32 ∷ []) ++ decimal r.grow_ticks
    ++ (32 ∷ 111 ∷ 112 ∷ 115 ∷ 32 ∷ []) ++ decimal (length r.ops)
    ++ (32 ∷ 115 ∷ 108 ∷ 111 ∷ 116 ∷ 115 ∷ 32 ∷ []) ++ decimal (length r.spilled)
    ++ (32 ∷ 103 ∷ 97 ∷ 115 ∷ 32 ∷ []) ++ decimal (gas_sum r.ops) ++ (10 ∷ []) ++ op_lines r.ops

-- the driver: the bytes that it prints for the bytes that it reads
unfoldable pub driver_prints : List ℕ → List ℕ
driver_prints bs = answer_lines (result_of (parsed bs))
