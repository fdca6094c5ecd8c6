-- Which of the code's values is which of scope's, and what one record of the list comes to.
use Rattle.std.specs.Prelude.{ℕ, ◌+◌, ◌-◌, ◌≡◌, List, [], length, get_or, set, take, ltb, leb, if◌then◌else◌}
use Rattle.std.specs.Prelude.{Option, None as none, Some as some, Result, Ok, Err, IfOk}
use Rattle.scope.specs.declared.Op.{Op}
use Rattle.scope.specs.declared.Op.TheVariants.{Swap, Dup, Pop, Store, Load}
use Rattle.scope.specs.Codes.{ODD}
use Rattle.scope.specs.Words.{stack_of, if_zero}
use Rattle.scope.specs.Rules.{Job}
use Rattle.scope.specs.Machine.{stack_after}
use Rattle.scope.specs.Replay.{verdict, odd_words, op_fault, replay_from}
use Rattle.scope.specs.Once.{Lent, job_lent, SeenVerdict, seen_verdict}
use Rattle.stack.specs.Promises.{values_in}
use Rattle.replay.specs.declared.Fault.{Fault}
use Rattle.replay.specs.declared.Verdict.{Verdict}
use Rattle.replay.specs.declared.Replay.{Replay}
use Rattle.replay.specs.Faults.{code_of}

-- the checker's answer
abbrev pub answered : Result (Unit {0}) Fault → ℕ → ℕ → ℕ → Verdict
answered outcome index gas filled = record { outcome = outcome; index = index; gas = gas; filled = filled }

-- what is seen of the checker's outcome: its answer, and every word of the spill buffer
abbrev pub seen : Verdict → List ℕ → SeenVerdict
seen v spill = record { code = code_of v.outcome; index = v.index; gas = v.gas; filled = v.filled; spill = spill }

-- the same of a replay that has ended
abbrev pub seen_now : Result (Unit {0}) Fault → Replay → SeenVerdict
seen_now outcome r = record { code = code_of outcome; index = r.index; gas = r.gas; filled = r.filled; spill = r.spill.now }

-- what the checker is lent; no operation was written before these
abbrev pub lent_to : List ℕ → List ℕ → ℕ → ℕ → List ℕ → ℕ → ℕ → List ℕ → Lent
lent_to start spill filled first target S D words =
    let stack = stack_of start in
    record { S = S; D = D; target = target; stack = stack; first = first; filled = filled; spill = spill; written = 0; words = words }

-- what a replay is lent, with the start, the target and the words
abbrev pub lent_now : Replay → List ℕ → List ℕ → List ℕ → Lent
lent_now r start target words =
    lent_to start r.spill.now r.filled r.first target r.config.max_swap_depth r.config.max_dup_depth words

-- what is due where codes 1 to 5 have passed
unfoldable pub replay_due : Lent → SeenVerdict
replay_due e =
    let m = take e.filled e.spill in
    seen_verdict (if_zero (odd_words e.words) (replay_from (job_lent e) e.stack.values m 0 0 e.words) (verdict ODD 0 0 m)) e

-- ---- one record

-- the stack of a replay, and its filled slots
abbrev pub values_now : Replay → List ℕ
values_now r = values_in r.stack.now

abbrev pub slots_now : Replay → List ℕ
slots_now r = take r.filled r.spill.now

-- the limits and the slots of a replay; the target and the room for operations are no matter to one record
abbrev pub job_of : Replay → Job
job_of r = record { S = r.config.max_swap_depth; D = r.config.max_dup_depth; T = []; first = r.first; slots = length r.spill.now; room = 0 }

-- the value of a filled slot, by its number
abbrev pub slot_at : ℕ → ℕ → List ℕ → Option ℕ
slot_at first id slots = if ltb id first then none else (if leb (first + length slots) id then none else some (get_or slots (id - first) 0))

-- the count of filled slots and the spill words after a record, on the stack l: a store fills the next slot with the top
abbrev pub filled_after : Result Op Fault → ℕ → ℕ
filled_after (Ok (Store id)) filled = filled + 1
filled_after (Ok (Swap k)) filled = filled
filled_after (Ok (Dup k)) filled = filled
filled_after (Ok Pop) filled = filled
filled_after (Ok (Load id)) filled = filled
filled_after (Err fault) filled = filled

abbrev pub spill_after : Result Op Fault → ℕ → List ℕ → List ℕ → List ℕ
spill_after (Ok (Store id)) filled l spill = set spill filled (get_or l 0 0)
spill_after (Ok (Swap k)) filled l spill = spill
spill_after (Ok (Dup k)) filled l spill = spill
spill_after (Ok Pop) filled l spill = spill
spill_after (Ok (Load id)) filled l spill = spill
spill_after (Err fault) filled l spill = spill

-- a replay over the same stack and slots
pub record SameLoans (old new : Replay) : Type 0 where
  pub stack : new.stack.ghost_name ≡ old.stack.ghost_name
  pub spill : new.spill.ghost_name ≡ old.spill.ghost_name

-- and with the same limits, no further than it was
pub record SameRun (old new : Replay) : Type 0 where
  pub stack : new.stack.ghost_name ≡ old.stack.ghost_name
  pub spill : new.spill.ghost_name ≡ old.spill.ghost_name
  pub first : new.first ≡ old.first
  pub config : new.config ≡ old.config
  pub index : new.index ≡ old.index
  pub gas : new.gas ≡ old.gas

-- What an operation comes to: its fault; or it is played, on the stack and on the slots.
pub record Plays (o : Op) (result : Result Op Fault) (old new : Replay) : Type 0 where
  pub same : SameRun old new
  pub code : code_of result ≡ op_fault (job_of old) (values_now old) (length (slots_now old)) o
  pub op : IfOk result (λ op. op ≡ o)
  pub stack : IfOk result (λ op. values_now new ≡ stack_after old.first o (slots_now old) (values_now old))
  pub filled : new.filled ≡ filled_after result old.filled
  pub spill : new.spill.now ≡ spill_after result old.filled (values_now old) old.spill.now
