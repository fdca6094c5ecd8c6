-- Document 01, "Runs worked by hand": cases A to L as one table, and a second table of short jobs that tell apart what A to L do not
-- see; then a list for each verdict of the checker. proofs/Cases states that the definitions give each row.
use Rattle.std.specs.Prelude.{ℕ, List, [], ◌∷◌, replicate}
use Rattle.scope.specs.declared.Op.{Op}
use Rattle.scope.specs.declared.Op.TheVariants.{Swap, Dup, Pop, Store, Load}
use Rattle.scope.specs.Machine.{words_of}
use Rattle.scope.specs.Rules.{Job}
use Rattle.scope.specs.Shuffle.{Start, start_of, Result, shuffle}
use Rattle.scope.specs.Replay.{Verdict, verdict, replay}

pub data Letter : Type 0 where
  A : Letter
  B : Letter
  C : Letter
  D : Letter
  E : Letter
  F : Letter
  G : Letter
  H : Letter
  I : Letter
  J : Letter
  K : Letter
  L : Letter

-- what comes of a job: the shuffle's result, and the checker's verdict on the operations that it wrote
pub record Outcome : Type 0 where
  pub shuffled : Result
  pub checked : Verdict

pub record Row : Type 0 where
  pub letter : Letter
  pub job : Job
  pub start : Start
  pub expected : Outcome

-- a job with the room that the driver lends
abbrev pub lends : ℕ → ℕ → List ℕ → ℕ → Job
lends s d target first = record { S = s; D = d; T = target; first = first; slots = 2048; room = 4096 }

-- code, ticks of shrink, ticks of grow, operations, spill list, end stack; the verdict's code, index, gas; its slots are the result's
abbrev pub gives : ℕ → ℕ → ℕ → List Op → List ℕ → List ℕ → ℕ → ℕ → ℕ → Outcome
gives code a b ops spilled stack vcode index gas = record {
  shuffled = record { code = code; shrink_ticks = a; grow_ticks = b; ops = ops; spilled = spilled; stack = stack };
  checked = verdict vcode index gas spilled;
}

abbrev pub row : Letter → Job → Start → Outcome → Row
row x j b o = record { letter = x; job = j; start = b; expected = o }

abbrev pub outcome : Job → Start → Outcome
outcome j b = record { shuffled = shuffle j b; checked = replay j b (words_of (shuffle j b).ops) }

abbrev pub table : List Row
table =
    row A (lends 16 15 [] 0) (start_of [] []) (gives 0 0 0 [] [] [] 0 0 0)
    ∷ row B (lends 16 15 [] 0) (start_of (7 ∷ []) []) (gives 0 0 0 (Pop ∷ []) [] [] 0 1 3)
    ∷ row C (lends 16 15 (7 ∷ []) 0) (start_of [] []) (gives 6 0 1 [] [] [] 41 0 0)
    ∷ row D (lends 16 15 (7 ∷ []) 40) (start_of [] (7 ∷ 7 ∷ [])) (gives 0 0 1 (Load 41 ∷ []) (7 ∷ 7 ∷ []) (7 ∷ []) 0 1 6)
    ∷ row E (lends 16 15 (1 ∷ 1 ∷ []) 0) (start_of (1 ∷ []) []) (gives 0 0 1 (Dup 0 ∷ []) [] (1 ∷ 1 ∷ []) 0 1 3)
    ∷ row F (lends 16 15 (3 ∷ 2 ∷ 1 ∷ []) 0) (start_of (3 ∷ 1 ∷ 2 ∷ []) [])
    (gives 0 0 2 (Swap 1 ∷ Swap 2 ∷ Swap 1 ∷ []) [] (3 ∷ 2 ∷ 1 ∷ []) 0 3 9)
    ∷ row G (lends 16 15 (7 ∷ 8 ∷ []) 5) (start_of (7 ∷ 9 ∷ []) (8 ∷ []))
    (gives 0 0 2 (Load 5 ∷ Swap 2 ∷ Pop ∷ []) (8 ∷ []) (7 ∷ 8 ∷ []) 0 3 12)
    ∷ row H (lends 3 2 (3 ∷ 2 ∷ 2 ∷ []) 0) (start_of (3 ∷ 2 ∷ 9 ∷ []) [])
    (gives 0 0 2 (Dup 1 ∷ Swap 3 ∷ Pop ∷ []) [] (3 ∷ 2 ∷ 2 ∷ []) 0 3 9)
    ∷ row I (lends 3 1 (3 ∷ 2 ∷ 2 ∷ []) 0) (start_of (3 ∷ 2 ∷ 9 ∷ []) []) (gives 8 0 1 [] [] (3 ∷ 2 ∷ 9 ∷ []) 41 0 0)
    ∷ row J (lends 3 0 (3 ∷ 2 ∷ 2 ∷ []) 0) (start_of (3 ∷ 2 ∷ 9 ∷ []) []) (gives 6 0 1 [] [] (3 ∷ 2 ∷ 9 ∷ []) 41 0 0)
    ∷ row K (lends 1 0 (3 ∷ 2 ∷ 1 ∷ []) 0) (start_of (1 ∷ 2 ∷ 3 ∷ []) [])
    (gives 0 1 5 (Store 0 ∷ Store 1 ∷ Load 0 ∷ Swap 1 ∷ Load 1 ∷ Swap 1 ∷ []) (1 ∷ 2 ∷ []) (3 ∷ 2 ∷ 1 ∷ []) 0 6 30)
    ∷ row L (lends 2 1 (2 ∷ 6 ∷ 1 ∷ 6 ∷ []) 0) (start_of (2 ∷ 9 ∷ 1 ∷ 5 ∷ []) (6 ∷ []))
    (gives 0 1 6 (Swap 1 ∷ Pop ∷ Store 1 ∷ Load 0 ∷ Swap 2 ∷ Pop ∷ Dup 1 ∷ Load 1 ∷ []) (6 ∷ 2 ∷ []) (2 ∷ 6 ∷ 1 ∷ 6 ∷ []) 0 8 33)
    ∷ []

-- ---- The second table: what each job is there to show

pub data Shows : Type 0 where
  swap-before-pop-of-extra : Shows
  pop-of-extra-before-search : Shows
  search-before-second-copy : Shows
  two-copies-suffice : Shows
  grow-pops-unneeded : Shows
  grow-pops-extra : Shows
  exchange-before-pop-of-extra : Shows
  stored-copies-and-horizon : Shows
  dup-before-load : Shows
  first-operation-stands : Shows
  slot-before-record : Shows
  value-before-record : Shows

pub record Telling : Type 0 where
  pub shows : Shows
  pub job : Job
  pub start : Start
  pub expected : Outcome

-- a job with so many slots and so many operations
abbrev pub within : ℕ → ℕ → Job → Job
within slots room j = record { S = j.S; D = j.D; T = j.T; first = j.first; slots = slots; room = room }

abbrev pub telling : Shows → Job → Start → Outcome → Telling
telling x j b o = record { shows = x; job = j; start = b; expected = o }

abbrev pub tellings : List Telling
tellings =
    telling swap-before-pop-of-extra (lends 1 0 (1 ∷ 2 ∷ []) 0) (start_of (1 ∷ 2 ∷ 1 ∷ []) [])
    (gives 0 2 1 (Swap 1 ∷ Swap 1 ∷ Pop ∷ Swap 1 ∷ []) [] (1 ∷ 2 ∷ []) 0 4 12)
    ∷ telling pop-of-extra-before-search (lends 1 0 (1 ∷ []) 0) (start_of (1 ∷ 1 ∷ 2 ∷ []) [])
    (gives 0 1 1 (Pop ∷ Swap 1 ∷ Pop ∷ []) [] (1 ∷ []) 0 3 9)
    ∷ telling search-before-second-copy (lends 1 0 (1 ∷ 1 ∷ []) 0) (start_of (1 ∷ 2 ∷ 1 ∷ 2 ∷ []) [])
    (gives 0 2 3 (Swap 1 ∷ Pop ∷ Pop ∷ Swap 1 ∷ Pop ∷ Dup 0 ∷ []) [] (1 ∷ 1 ∷ []) 0 6 18)
    ∷ telling two-copies-suffice (lends 1 0 (1 ∷ 1 ∷ []) 0) (start_of (1 ∷ 1 ∷ 2 ∷ []) [])
    (gives 0 1 3 (Pop ∷ Swap 1 ∷ Pop ∷ Dup 0 ∷ []) [] (1 ∷ 1 ∷ []) 0 4 12)
    ∷ telling grow-pops-unneeded (lends 2 0 (3 ∷ 2 ∷ []) 0) (start_of (1 ∷ 2 ∷ 3 ∷ []) [])
    (gives 0 0 2 (Pop ∷ Swap 1 ∷ []) [] (3 ∷ 2 ∷ []) 0 2 6)
    ∷ telling grow-pops-extra (lends 1 0 (1 ∷ 2 ∷ []) 0) (start_of (1 ∷ 1 ∷ []) (2 ∷ []))
    (gives 0 0 3 (Pop ∷ Load 0 ∷ Swap 1 ∷ []) (2 ∷ []) (1 ∷ 2 ∷ []) 0 3 12)
    ∷ telling exchange-before-pop-of-extra (lends 3 0 (1 ∷ 3 ∷ 2 ∷ []) 0) (start_of (1 ∷ 1 ∷ 2 ∷ 3 ∷ []) [])
    (gives 0 0 2 (Swap 2 ∷ Swap 3 ∷ Swap 2 ∷ Pop ∷ []) [] (1 ∷ 3 ∷ 2 ∷ []) 0 4 12)
    ∷ telling stored-copies-and-horizon (lends 1 1 (1 ∷ 2 ∷ 2 ∷ []) 0) (start_of (1 ∷ []) (2 ∷ []))
    (gives 0 0 4 (Load 0 ∷ Swap 1 ∷ Load 0 ∷ Swap 1 ∷ []) (2 ∷ []) (1 ∷ 2 ∷ 2 ∷ []) 0 4 18)
    ∷ telling dup-before-load (lends 1 0 (1 ∷ 2 ∷ 1 ∷ []) 0) (start_of (1 ∷ 2 ∷ []) [])
    (gives 0 0 5 (Swap 1 ∷ Store 0 ∷ Dup 0 ∷ Load 0 ∷ Swap 1 ∷ []) (2 ∷ []) (1 ∷ 2 ∷ 1 ∷ []) 0 5 21)
    ∷ telling first-operation-stands (within 0 1 (lends 1 0 (1 ∷ []) 0)) (start_of (1 ∷ 2 ∷ 2 ∷ []) [])
    (gives 11 1 0 (Swap 1 ∷ []) [] (2 ∷ 1 ∷ 2 ∷ []) 41 1 3)
    ∷ telling slot-before-record (within 0 0 (lends 1 0 (1 ∷ 3 ∷ []) 0)) (start_of (1 ∷ 2 ∷ []) []) (gives 10 0 1 [] [] (1 ∷ 2 ∷ []) 41 0 0)
    ∷ telling value-before-record (within 0 0 (lends 1 0 (1 ∷ []) 0)) (start_of [] []) (gives 6 0 1 [] [] [] 41 0 0)
    ∷ []

-- ---- "The replay checker": a list for each code from 30 to 41 and for 0

pub record Judgement : Type 0 where
  pub job : Job
  pub start : Start
  pub words : List ℕ
  pub expected : Verdict

-- limits 2/1, target 1, one slot with the number 5
abbrev pub small_job : Job
small_job = within 1 0 (lends 2 1 (1 ∷ []) 5)

abbrev pub judged : List ℕ → List ℕ → Verdict → Judgement
judged values words v = record { job = small_job; start = start_of values []; words = words; expected = v }

abbrev pub judgements : List Judgement
judgements =
    judged (1 ∷ []) (3 ∷ []) (verdict 30 0 0 [])
    ∷ judged (1 ∷ []) (6 ∷ 0 ∷ []) (verdict 31 0 0 [])
    ∷ judged (1 ∷ []) (3 ∷ 1 ∷ []) (verdict 31 0 0 [])
    ∷ judged (1 ∷ []) (1 ∷ 0 ∷ []) (verdict 32 0 0 [])
    ∷ judged (1 ∷ []) (1 ∷ 3 ∷ []) (verdict 32 0 0 [])
    ∷ judged (1 ∷ []) (1 ∷ 1 ∷ []) (verdict 33 0 0 [])
    ∷ judged (1 ∷ []) (2 ∷ 2 ∷ []) (verdict 34 0 0 [])
    ∷ judged (1 ∷ []) (2 ∷ 1 ∷ []) (verdict 35 0 0 [])
    ∷ judged (replicate 1024 1) (2 ∷ 0 ∷ []) (verdict 36 0 0 [])
    ∷ judged (replicate 1024 1) (5 ∷ 5 ∷ []) (verdict 36 0 0 [])
    ∷ judged (1 ∷ []) (3 ∷ 0 ∷ 3 ∷ 0 ∷ []) (verdict 37 1 3 [])
    ∷ judged [] (4 ∷ 6 ∷ []) (verdict 37 0 0 [])
    ∷ judged (1 ∷ []) (4 ∷ 6 ∷ []) (verdict 38 0 0 [])
    ∷ judged (1 ∷ []) (2 ∷ 0 ∷ 4 ∷ 5 ∷ 2 ∷ 0 ∷ 4 ∷ 6 ∷ []) (verdict 39 3 12 (1 ∷ []))
    ∷ judged (1 ∷ []) (5 ∷ 5 ∷ []) (verdict 40 0 0 [])
    ∷ judged (1 ∷ []) (5 ∷ 4 ∷ []) (verdict 40 0 0 [])
    ∷ judged (1 ∷ []) (3 ∷ 0 ∷ []) (verdict 41 1 3 [])
    ∷ judged (1 ∷ []) (2 ∷ 0 ∷ 4 ∷ 5 ∷ 5 ∷ 5 ∷ 3 ∷ 0 ∷ []) (verdict 0 4 18 (1 ∷ []))
    ∷ []
