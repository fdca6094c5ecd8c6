-- What a tick, a loop, the finish and a run leave held. Each says: whatever state was held before, the one that the definition gives is held after.
use Rattle.std.specs.Prelude.{ℕ, ◌-◌, ◌≡◌, Bool, true, List, length, replicate}
use Rattle.scope.specs.Words.{if_zero}
use Rattle.scope.specs.Rules.{Job, State, Plan}
use Rattle.scope.specs.Shuffle.{Ended, ended, carry_out, recount, loop, perform, shrink, grow, finish, Result, result}
use Rattle.scope.specs.declared.Op.TheVariants.{Pop}
use Rattle.scope.specs.Once.{Lent, job_lent}
use Rattle.operations.specs.declared.ScheduleConfig.{ScheduleConfig}
use Rattle.shuffler.specs.Held.{Holding, Held, Ran}

-- what was lent has this target and these limits
pub record About (T : List ℕ) (config : ScheduleConfig) (e : Lent) : Type 0 where
  pub target : e.target ≡ T
  pub swaps : e.S ≡ config.max_swap_depth
  pub dups : e.D ≡ config.max_dup_depth

-- ---- a tick where the loop goes on: a plan carried out, and counting where it was done

unfoldable pub turned : Plan → Job → State → ℕ → Ended
turned plan j s k = if_zero (carry_out j s k plan).code (ended 0 k (recount j (carry_out j s k plan).state)) (carry_out j s k plan)

pub record Ticks (T : List ℕ) (config : ScheduleConfig) (goes : Job → State → Bool) (plan : Job → State → Plan) (x : Holding) (r : ℕ) (y : Holding) : Type 0 where
  pub ticks : (e : Lent) (s : State) (k : ℕ) → About T config e → Held e x s → goes (job_lent e) s ≡ true
      → Ran e r y (turned (plan (job_lent e) s) (job_lent e) s k)

-- ---- a loop

pub record EndsAt (e : Lent) (r ticks : ℕ) (y : Holding) (d : Ended) : Type 0 where
  pub ran : Ran e r y d
  pub passed : ticks ≡ d.ticks

abbrev pub looped : (Job → State → Bool) → (Job → State → Plan) → Job → State → Ended
looped goes plan j s = loop j (goes j) (plan j) 100000 0 s

pub record Loops (T : List ℕ) (config : ScheduleConfig) (goes : Job → State → Bool) (plan : Job → State → Plan) (x : Holding) (r ticks : ℕ) (y : Holding) : Type 0 where
  pub loops : (e : Lent) (s : State) → About T config e → Held e x s → EndsAt e r ticks y (looped goes plan (job_lent e) s)

-- within a loop: a state is held from which the loop goes on to the same end
pub record Here (goes : Job → State → Bool) (plan : Job → State → Plan) (e : Lent) (s₀ : State) (x : Holding) (k : ℕ) : Type 0 where
  pub state : State
  pub held : Held e x state
  pub same : loop (job_lent e) (goes (job_lent e)) (plan (job_lent e)) (100000 - k) k state ≡ looped goes plan (job_lent e) s₀

pub record Within (T : List ℕ) (config : ScheduleConfig) (goes : Job → State → Bool) (plan : Job → State → Plan) (x₀ x : Holding) (k : ℕ) : Type 0 where
  pub within : (e : Lent) (s₀ : State) → About T config e → Held e x₀ s₀ → Here goes plan e s₀ x k

-- ---- the finish: popping down to a height

abbrev pub down : ℕ → Job → State → Ended
down goal j s = perform j s 0 (replicate (length s.C - goal) Pop)

pub record Downs (goal : ℕ) (x : Holding) (r : ℕ) (y : Holding) : Type 0 where
  pub downs : (e : Lent) (s : State) → Held e x s → Ran e r y (down goal (job_lent e) s)

-- within it: a state is held from which popping to that height comes to the same, and so many values stand above it
pub record Lower (goal : ℕ) (e : Lent) (s₀ : State) (x : Holding) (above : ℕ) : Type 0 where
  pub state : State
  pub held : Held e x state
  pub left : length state.C - goal ≡ above
  pub same : down goal (job_lent e) state ≡ down goal (job_lent e) s₀

pub record Lowers (goal : ℕ) (x₀ x : Holding) (above : ℕ) : Type 0 where
  pub lowers : (e : Lent) (s₀ : State) → Held e x₀ s₀ → Lower goal e s₀ x above

-- ---- the run

pub record Told (e : Lent) (r a b : ℕ) (y : Holding) (R : Result) : Type 0 where
  pub code : r ≡ R.code
  pub shrink_ticks : a ≡ R.shrink_ticks
  pub grow_ticks : b ≡ R.grow_ticks
  pub c : ℕ
  pub held : Held e y (record { C = R.stack; c = c; spilled = R.spilled; ops = R.ops })

pub record Tells (T : List ℕ) (config : ScheduleConfig) (x : Holding) (r a b : ℕ) (y : Holding) (work : Job → State → Result) : Type 0 where
  pub tells : (e : Lent) (s : State) → About T config e → Held e x s → Told e r a b y (work (job_lent e) s)

-- what follows shrink, which took k ticks
unfoldable pub rest : ℕ → Job → State → Result
rest k j s =
    if_zero (grow j s).code (result (finish j (grow j s).state).code k (grow j s).ticks (finish j (grow j s).state).state)
    (result (grow j s).code k (grow j s).ticks (grow j s).state)

-- what follows the first counting
unfoldable pub from_shrink : Job → State → Result
from_shrink j s = if_zero (shrink j s).code (rest (shrink j s).ticks j (shrink j s).state) (result (shrink j s).code (shrink j s).ticks 0 (shrink j s).state)
