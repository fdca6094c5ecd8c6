-- What a loop asks and picks, of what the rules look at.
use Rattle.std.specs.Prelude.{ℕ, ◌≡◌, Bool, true, List, length, Result}
use Rattle.scope.specs.declared.Op.{Op}
use Rattle.scope.specs.declared.Refusal.{Refusal}
use Rattle.scope.specs.Rules.{Job, State, Plan}
use Rattle.questions.specs.declared.View.{View}
use Rattle.rules.specs.declared.Choice.{Choice}
use Rattle.rules.specs.Promises.{job, state, always, planned, Fits}

-- a job and a state that are looked at so, with the first slot's number, the slots, the room, and the operations written
abbrev pub job_of : View → ℕ → ℕ → ℕ → Job
job_of v first slots room = job v.config.max_swap_depth v.config.max_dup_depth v.target.now first slots room

abbrev pub state_of : View → List Op → State
state_of v os = state v.current.now v.complete v.spilled.now os

-- r is what a loop's test says, whatever the slots' numbers, the room and the operations
pub record Goes (v : View) (goes : Job → State → Bool) (r : Bool) : Type 0 where
  pub is : (first slots room : ℕ) (os : List Op) → r ≡ goes (job_of v first slots room) (state_of v os)

-- r is what a loop's plan says; where the loop goes on, it can be performed
pub record Picks (v : View) (goes : Job → State → Bool) (plan : Job → State → Plan) (r : Result Choice Refusal) : Type 0 where
  pub is : (first slots room : ℕ) (os : List Op) → planned first (length v.spilled.now) (always r) ≡ plan (job_of v first slots room) (state_of v os)
  pub fit : (first slots room : ℕ) (os : List Op) → goes (job_of v first slots room) (state_of v os) ≡ true
      → Fits (length v.current.now) (length v.spilled.now) (always r)
