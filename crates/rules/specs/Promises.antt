-- What a choice means: the plan that it stands for, and that it can be performed. What each rule's function promises of its choice.
use Rattle.std.specs.Prelude.{ℕ, ◌+◌, ◌<◌, ◌≤◌, List, [], ◌∷◌, ◌++◌, ◌≡◌, length, eqb, ltb, if◌then◌else◌}
use Rattle.std.specs.Prelude.{Option, None as none, Some as some, Result, Ok, Err}
use Rattle.scope.specs.declared.Op.{Op}
use Rattle.scope.specs.declared.Op.TheVariants.{Swap, Dup, Pop, Store, Load}
use Rattle.scope.specs.declared.Refusal.{Refusal}
use Rattle.scope.specs.Codes.{number_of}
use Rattle.scope.specs.Rules.{Job, State, Plan, write, refuse, pass, ◌▹◌, load}
use Rattle.scope.specs.Rules.{counted, rule_a, rule_b, rule_c, rule_x, rule_u, rule_v, rule_w, store_unless_push}
use Rattle.questions.specs.declared.View.{View}
use Rattle.rules.specs.declared.Choice.{Choice}
use Rattle.rules.specs.declared.Choice.TheVariants.{Pop as PopTop, Swap as SwapTop, SwapPop}
use Rattle.rules.specs.declared.Choice.TheVariants.{Swaps, Store as StoreTop, Load as LoadSlot, Dup as DupDepth}

-- what a rule answers: a choice, or none where it does not apply, or a refusal
abbrev pub Answer : Type 0
Answer = Result (Option Choice) Refusal

-- the answer of what always applies
abbrev pub always : Result Choice Refusal → Answer
always (Ok x) = Ok (some x)
always (Err r) = Err r

-- a swap at depth 0 writes nothing
abbrev pub swap_of : ℕ → List Op
swap_of k = if eqb k 0 then [] else Swap k ∷ []

-- the plan of a choice, with the first slot's number and the number of filled slots
abbrev pub plan_of : ℕ → ℕ → Choice → Plan
plan_of first m PopTop = write (Pop ∷ [])
plan_of first m (SwapTop k) = write (swap_of k ++ [])
plan_of first m (SwapPop k) = write (swap_of k ++ (Pop ∷ []))
plan_of first m (Swaps q p) = write (swap_of q ++ swap_of p)
plan_of first m StoreTop = write (Store (first + m) ∷ [])
plan_of first m (LoadSlot i) = write (Load (first + i) ∷ [])
plan_of first m (DupDepth k) = write (Dup k ∷ [])

-- the plan of an answer
abbrev pub planned : ℕ → ℕ → Answer → Plan
planned first m (Ok none) = pass
planned first m (Ok (some x)) = plan_of first m x
planned first m (Err r) = refuse (number_of r)

-- A choice can be performed on a stack of height n with m filled slots: its depths are inside, its slot is filled.
abbrev pub Fit : ℕ → ℕ → Choice → Type 0
Fit n m PopTop = 0 < n
Fit n m (SwapTop k) = k < n
Fit n m (SwapPop k) = k < n
Fit n m (Swaps q p) = (q < n) × (p < n)
Fit n m StoreTop = 0 < n
Fit n m (LoadSlot i) = i < m
Fit n m (DupDepth k) = k < n

-- The same of an answer. A refusal is one of a run's.
abbrev pub Fits : ℕ → ℕ → Answer → Type 0
Fits n m (Ok none) = 0 ≤ n
Fits n m (Ok (some x)) = Fit n m x
Fits n m (Err r) = 5 < number_of r

-- a job and a state from their parts
abbrev pub job : ℕ → ℕ → List ℕ → ℕ → ℕ → ℕ → Job
job S D T first slots room = record { S = S; D = D; T = T; first = first; slots = slots; room = room }

abbrev pub state : List ℕ → ℕ → List ℕ → List Op → State
state C c L os = record { C = C; c = c; spilled = L; ops = os }

-- r is what a plan says, whatever the slots' numbers and the room; on a stack of at least h values it can be performed
pub record Chosen (h : ℕ) (C T L : List ℕ) (c S D : ℕ) (plan : Job → State → Plan) (r : Answer) : Type 0 where
  pub is : (first slots room : ℕ) (os : List Op) → planned first (length L) r ≡ plan (job S D T first slots room) (state C c L os)
  pub fit : h ≤ length C → Fits (length C) (length L) r

-- the same of what a view shows, at any spill list and limits, and at its own
abbrev pub Picks : ℕ → View → List ℕ → ℕ → ℕ → (Job → State → Plan) → Answer → Type 0
Picks h v L S D plan r = Chosen h v.current.now v.target.now L v.complete S D plan r

abbrev pub Picked : ℕ → View → (Job → State → Plan) → Answer → Type 0
Picked h v plan r = Picks h v v.spilled.now v.config.max_swap_depth v.config.max_dup_depth plan r

-- a rule, and the next where it passes
infixr 20 ◌then◌
abbrev pub ◌then◌ : (Job → State → Plan) → (Job → State → Plan) → Job → State → Plan
(p then q) j s = p j s ▹ q j s

-- what a tick of grow does with the values that are there, and then with the push test's answer
abbrev pub settling : Job → State → Plan
settling j s = rule_a j s ▹ rule_b j s ▹ rule_x j s ▹ rule_c j s

abbrev pub settled : Job → State → Plan
settled j s = if ltb s.c (length s.C) then settling j s else pass

abbrev pub getting : Job → State → Plan
getting j s = rule_u j s ▹ rule_v j s ▹ rule_w j s

abbrev pub pushing : Job → State → Plan
pushing j s = store_unless_push j s ▹ getting j s

-- the load of a value, as a plan
abbrev pub loading : ℕ → Job → State → Plan
loading v j s = load j s v

-- counting looks at the stack, the target and the count
abbrev pub counted_in : List ℕ → List ℕ → ℕ → ℕ
counted_in C T c = counted (job 0 0 T 0 0 0) (state C c [] [])
