-- The promise of every public call determines its outcome: what is seen of two outcomes that keep it is equal, and what is seen leaves nothing out.
--
-- Most calls promise one equation of what they answer; then `determined` says it. Where the equation is of a code, the code tells the answer,
-- which is shown here first. The others promise several clauses, or a relation of their crate's Promises; for each of these forms it is shown
-- here. docs/PROMISES.md has the table, call by call.
use Prim.Native.Nat.{ℕ, zero, suc}
use mathlib.Core.Path.{◌≡◌, refl, sym, ap, ◌∙◌}
use mathlib.Core.List.{List, []}
use lib.ListN.{length}
use Rattle.std.proofs.Common.{Option, None as none, Some as some, Result, Ok, Err, IfOk, is_ok, true≢false, if◌then◌else◌}
use lib.Dec.{eqb}
use native.Mathlib.Omega.{arith}
use Rattle.scope.specs.Codes.{number_of, code}
use Rattle.scope.specs.declared.Op.{Op}
use Rattle.scope.specs.declared.Refusal.{Refusal}
use Rattle.scope.specs.declared.Refusal.TheVariants as R
use Rattle.scope.specs.declared.Step.{Step}
use Rattle.scope.specs.declared.Step.TheVariants.{Wrote, Refused}
use Rattle.scope.specs.Rules.{Job, State, Plan}
use Rattle.scope.specs.Stack.{Left, Popped}
use Rattle.scope.specs.Tracked.{step, step_code, step_op, Stepped, Spilled, Cloned}
use Rattle.stack.specs.declared.EvmStack.{EvmStack}
use Rattle.stack.specs.Promises.{stack_in, laid, Fresh}
use Rattle.tracked.specs.declared.TrackedStack.{TrackedStack}
use Rattle.tracked.specs.Promises.{tracked_of, Moves}
use Rattle.tracked_state.specs.declared.TrackedState.{TrackedState}
use Rattle.tracked_state.specs.Promises.{tracked_of as state_of, array_of, StepsTo}
use Rattle.replay.specs.declared.Fault.{Fault}
use Rattle.replay.specs.declared.Fault.TheVariants as F
use Rattle.replay.specs.Faults.{number_of as fault_number, code_of as verdict_code}
use Rattle.rules.specs.Promises.{Answer as Chose, planned, Chosen}

-- ---- The views of an enum: two answers that look the same are the same, since the answer can be told from its view

module _ {Answer Seen : Type 0} (view : Answer → Seen) (told : Seen → Answer) (tells : (r : Answer) → told (view r) ≡ r) where
  pub loses-nothing : (a b : Answer) → view a ≡ view b → a ≡ b
  loses-nothing a b e = sym (tells a) ∙ ap told e ∙ tells b

-- the refusal with a code; one of them where a number is no code
abbrev refusal_of : ℕ → Refusal
refusal_of n =
    if eqb n 1 then R.Limit
    else if eqb n 2 then R.Start
    else if eqb n 3 then R.Target
    else if eqb n 4 then R.Filled
    else if eqb n 5 then R.Slots
    else if eqb n 6 then R.Missing
    else if eqb n 7 then R.Full
    else if eqb n 8 then R.Stuck
    else if eqb n 9 then R.Ticks
    else if eqb n 10 then R.Spill
    else if eqb n 11 then R.Ops
    else if eqb n 12 then R.Inside
    else if eqb n 13 then R.Job
    else if eqb n 20 then R.Empty
    else if eqb n 21 then R.Outside
    else if eqb n 22 then R.Unfilled
    else R.SwapOfZero

refusal-told : (r : Refusal) → refusal_of (number_of r) ≡ r
refusal-told R.Limit = refl
refusal-told R.Start = refl
refusal-told R.Target = refl
refusal-told R.Filled = refl
refusal-told R.Slots = refl
refusal-told R.Missing = refl
refusal-told R.Full = refl
refusal-told R.Stuck = refl
refusal-told R.Ticks = refl
refusal-told R.Spill = refl
refusal-told R.Ops = refl
refusal-told R.Inside = refl
refusal-told R.Job = refl
refusal-told R.Empty = refl
refusal-told R.Outside = refl
refusal-told R.Unfilled = refl
refusal-told R.SwapOfZero = refl

-- a refusal, by its code
pub refusal-same : (a b : Refusal) → number_of a ≡ number_of b → a ≡ b
refusal-same = loses-nothing number_of refusal_of refusal-told

-- an answer that is nothing or a refusal, by its code
pub code-same : (a b : Result Unit Refusal) → code a ≡ code b → a ≡ b
code-same = loses-nothing code told tells
  where
    told : ℕ → Result Unit Refusal
    told zero = Ok tt
    told (suc n) = Err (refusal_of (suc n))

    tells : (r : Result Unit Refusal) → told (code r) ≡ r
    tells (Ok tt) = refl
    tells (Err R.Limit) = refl
    tells (Err R.Start) = refl
    tells (Err R.Target) = refl
    tells (Err R.Filled) = refl
    tells (Err R.Slots) = refl
    tells (Err R.Missing) = refl
    tells (Err R.Full) = refl
    tells (Err R.Stuck) = refl
    tells (Err R.Ticks) = refl
    tells (Err R.Spill) = refl
    tells (Err R.Ops) = refl
    tells (Err R.Inside) = refl
    tells (Err R.Job) = refl
    tells (Err R.Empty) = refl
    tells (Err R.Outside) = refl
    tells (Err R.Unfilled) = refl
    tells (Err R.SwapOfZero) = refl

-- the fault with a code; a refusal of the job where it is none of the list's
abbrev fault_of : ℕ → Fault
fault_of n =
    if eqb n 30 then F.Odd
    else if eqb n 31 then F.Unknown
    else if eqb n 32 then F.SwapFar
    else if eqb n 33 then F.SwapBelow
    else if eqb n 34 then F.DupFar
    else if eqb n 35 then F.DupBelow
    else if eqb n 36 then F.TooHigh
    else if eqb n 37 then F.NoneLeft
    else if eqb n 38 then F.OtherSlot
    else if eqb n 39 then F.NoSlot
    else if eqb n 40 then F.NotFilled
    else if eqb n 41 then F.Unlike
    else F.Job (refusal_of n)

fault-told : (f : Fault) → fault_of (fault_number f) ≡ f
fault-told (F.Job R.Limit) = refl
fault-told (F.Job R.Start) = refl
fault-told (F.Job R.Target) = refl
fault-told (F.Job R.Filled) = refl
fault-told (F.Job R.Slots) = refl
fault-told (F.Job R.Missing) = refl
fault-told (F.Job R.Full) = refl
fault-told (F.Job R.Stuck) = refl
fault-told (F.Job R.Ticks) = refl
fault-told (F.Job R.Spill) = refl
fault-told (F.Job R.Ops) = refl
fault-told (F.Job R.Inside) = refl
fault-told (F.Job R.Job) = refl
fault-told (F.Job R.Empty) = refl
fault-told (F.Job R.Outside) = refl
fault-told (F.Job R.Unfilled) = refl
fault-told (F.Job R.SwapOfZero) = refl
fault-told F.Odd = refl
fault-told F.Unknown = refl
fault-told F.SwapFar = refl
fault-told F.SwapBelow = refl
fault-told F.DupFar = refl
fault-told F.DupBelow = refl
fault-told F.TooHigh = refl
fault-told F.NoneLeft = refl
fault-told F.OtherSlot = refl
fault-told F.NoSlot = refl
fault-told F.NotFilled = refl
fault-told F.Unlike = refl

no-fault-is-none : (f : Fault) → fault_number f ≡ 0 → ⊥
no-fault-is-none (F.Job R.Limit) e = omega (arith, e)
no-fault-is-none (F.Job R.Start) e = omega (arith, e)
no-fault-is-none (F.Job R.Target) e = omega (arith, e)
no-fault-is-none (F.Job R.Filled) e = omega (arith, e)
no-fault-is-none (F.Job R.Slots) e = omega (arith, e)
no-fault-is-none (F.Job R.Missing) e = omega (arith, e)
no-fault-is-none (F.Job R.Full) e = omega (arith, e)
no-fault-is-none (F.Job R.Stuck) e = omega (arith, e)
no-fault-is-none (F.Job R.Ticks) e = omega (arith, e)
no-fault-is-none (F.Job R.Spill) e = omega (arith, e)
no-fault-is-none (F.Job R.Ops) e = omega (arith, e)
no-fault-is-none (F.Job R.Inside) e = omega (arith, e)
no-fault-is-none (F.Job R.Job) e = omega (arith, e)
no-fault-is-none (F.Job R.Empty) e = omega (arith, e)
no-fault-is-none (F.Job R.Outside) e = omega (arith, e)
no-fault-is-none (F.Job R.Unfilled) e = omega (arith, e)
no-fault-is-none (F.Job R.SwapOfZero) e = omega (arith, e)
no-fault-is-none F.Odd e = omega (arith, e)
no-fault-is-none F.Unknown e = omega (arith, e)
no-fault-is-none F.SwapFar e = omega (arith, e)
no-fault-is-none F.SwapBelow e = omega (arith, e)
no-fault-is-none F.DupFar e = omega (arith, e)
no-fault-is-none F.DupBelow e = omega (arith, e)
no-fault-is-none F.TooHigh e = omega (arith, e)
no-fault-is-none F.NoneLeft e = omega (arith, e)
no-fault-is-none F.OtherSlot e = omega (arith, e)
no-fault-is-none F.NoSlot e = omega (arith, e)
no-fault-is-none F.NotFilled e = omega (arith, e)
no-fault-is-none F.Unlike e = omega (arith, e)

-- a fault, by its code
pub fault-same : (a b : Fault) → fault_number a ≡ fault_number b → a ≡ b
fault-same = loses-nothing fault_number fault_of fault-told

-- the checker's outcome, by its code
pub verdict-same : (a b : Result Unit Fault) → verdict_code a ≡ verdict_code b → a ≡ b
verdict-same (Ok a) (Ok b) e = refl
verdict-same (Ok a) (Err g) e = absurd (no-fault-is-none g (sym e))
verdict-same (Err f) (Ok b) e = absurd (no-fault-is-none f e)
verdict-same (Err f) (Err g) e = ap (λ x. Err x) (fault-same f g e)

-- a step, by its code and its operation together
pub step_same : (a b : Step) → ◌≡◌ {A = ℕ × Option Op} (step_code a, step_op a) (step_code b, step_op b) → a ≡ b
step_same = loses-nothing (λ (r : Step). (step_code r, step_op r)) told tells
  where
    told : ℕ × Option Op → Step
    told (r, none) = Refused (refusal_of r)
    told (r, some o) = Wrote o

    tells : (r : Step) → told (step_code r, step_op r) ≡ r
    tells (Wrote o) = refl
    tells (Refused r) = ap Refused (refusal-told r)

-- what a step's answer is made of, by the step
pub tried-same : (a b : Result Op Refusal) → step a ≡ step b → a ≡ b
tried-same = loses-nothing step told tells
  where
    told : Step → Result Op Refusal
    told (Wrote o) = Ok o
    told (Refused r) = Err r

    tells : (r : Result Op Refusal) → told (step r) ≡ r
    tells (Ok o) = refl
    tells (Err r) = refl

-- ---- The forms of a promise. What is seen is scope's answer, in which stacks stand by height and values, and then every word of the array.

both : {A B : Type 0} {x x' : A} {y y' : B} → x ≡ x' → y ≡ y' → ◌≡◌ {A = A × B} (x, y) (x', y')
both p q = rw (p, q)

-- the answer of a `try_` method, by its code and its operation
pub tried-once : (a b : Result Op Refusal) → code a ≡ code b → step_op (step a) ≡ step_op (step b) → a ≡ b
tried-once a b p q = tried-same a b (step_same (step a) (step b) (both (told a ∙ p ∙ sym (told b)) q))
  where
    told : (r : Result Op Refusal) → step_code (step r) ≡ code r
    told (Ok o) = refl
    told (Err r) = refl

-- a stack's call that may change it, by its clauses: code, stack, words
pub leaves-once : (left : Left) (before : List ℕ) (a b : Result Unit Refusal) (s t : EvmStack)
    → code a ≡ left.code → stack_in s ≡ left.stack → s.stack_raw ≡ laid left.stack.values before
    → code b ≡ left.code → stack_in t ≡ left.stack → t.stack_raw ≡ laid left.stack.values before
    → (a ≡ b) × (stack_in s ≡ stack_in t) × (s.stack_raw ≡ t.stack_raw)
leaves-once left before a b s t c k w d l x = (code-same a b (c ∙ sym d), k ∙ sym l, w ∙ sym x)

-- one that takes the top off: value, stack, words
pub takes-once : (popped : Popped) (before : List ℕ) (a b : Option ℕ) (s t : EvmStack)
    → a ≡ popped.value → stack_in s ≡ popped.stack → s.stack_raw ≡ before
    → b ≡ popped.value → stack_in t ≡ popped.stack → t.stack_raw ≡ before
    → (a ≡ b) × (stack_in s ≡ stack_in t) × (s.stack_raw ≡ t.stack_raw)
takes-once popped before a b s t v k w u l x = (v ∙ sym u, k ∙ sym l, w ∙ sym x)

-- a step of a tracked stack: answer, numbers, operation words, array
pub steps-once : (to : Stepped) (a b : Step) (old s t : TrackedStack) → Moves to a old s → Moves to b old t
    → (a ≡ b) × (tracked_of s ≡ tracked_of t) × (s.ops.now ≡ t.ops.now) × (s.stack.now.stack_raw ≡ t.stack.now.stack_raw)
steps-once to a b old s t p q =
    (step_same a b (both (p.code ∙ sym q.code) (p.op ∙ sym q.op)), p.state ∙ sym q.state, p.words ∙ sym q.words, p.array ∙ sym q.array)

-- the same with the spill words
pub spills-once : (to : Spilled) (a b : Step) (old s t : TrackedStack)
    → Moves to.step a old s → s.spill.now ≡ to.spill → Moves to.step b old t → t.spill.now ≡ to.spill
    → ((a ≡ b) × (tracked_of s ≡ tracked_of t) × (s.ops.now ≡ t.ops.now) × (s.stack.now.stack_raw ≡ t.stack.now.stack_raw)) × (s.spill.now ≡ t.spill.now)
spills-once to a b old s t p k q l = (steps-once to.step a b old s t p q, k ∙ sym l)

-- the same of a state, which has no loans
pub states-once : (to : Stepped) (a b : Step) (before s t : TrackedState) (ops words : List ℕ) → StepsTo to a before s ops → StepsTo to b before t words
    → (a ≡ b) × (state_of s ≡ state_of t) × (ops ≡ words) × (array_of s ≡ array_of t)
states-once to a b before s t ops words p q =
    (step_same a b (both (p.code ∙ sym q.code) (p.op ∙ sym q.op)), p.state ∙ sym q.state, p.words ∙ sym q.words, p.array ∙ sym q.array)

-- whether something is made, or why not
abbrev outcome : {A : Type 0} → Result A Refusal → Result Unit Refusal
outcome (Ok s) = Ok tt
outcome (Err r) = Err r

outcome-code : {A : Type 0} (r : Result A Refusal) → code (outcome r) ≡ code r
outcome-code (Ok s) = refl
outcome-code (Err r) = refl

-- something that is made, by its code and by two views of it
module _ {A F G : Type 0} (f : A → F) (g : A → G) where
  abbrev pub made_by : Result A Refusal → Result (F × G) Refusal
  made_by (Ok s) = Ok (f s, g s)
  made_by (Err r) = Err r

  pub makes-once : (n : ℕ) (d : F) (e : G) (a b : Result A Refusal)
      → code a ≡ n → IfOk a (λ s. f s ≡ d) → IfOk a (λ s. g s ≡ e)
      → code b ≡ n → IfOk b (λ s. f s ≡ d) → IfOk b (λ s. g s ≡ e)
      → made_by a ≡ made_by b
  makes-once n d e a b c p q c' p' q' = go a b same p q p' q'
    where
      same : outcome a ≡ outcome b
      same = code-same (outcome a) (outcome b) (outcome-code a ∙ c ∙ sym c' ∙ sym (outcome-code b))

      go : (a b : Result A Refusal) → outcome a ≡ outcome b → IfOk a (λ s. f s ≡ d) → IfOk a (λ s. g s ≡ e) → IfOk b (λ s. f s ≡ d) → IfOk b (λ s. g s ≡ e)
          → made_by a ≡ made_by b
      go (Ok s) (Ok t) k p q p' q' = ap (λ x. Ok x) (both (p ∙ sym p') (q ∙ sym q'))
      go (Ok s) (Err r) k p q p' q' = absurd (true≢false (ap is_ok k))
      go (Err r) (Ok t) k p q p' q' = absurd (true≢false (sym (ap is_ok k)))
      go (Err r) (Err t) k p q p' q' = ap (λ x. Err x) (err r t k)
        where
          err : (r t : Refusal) → ◌≡◌ {A = Result Unit Refusal} (Err r) (Err t) → r ≡ t
          err r t k = refusal-same r t (ap code k)

-- a state that is copied, with the spill words that it gets
pub clones-once : (to : Cloned) (array : List ℕ) (a b : Result TrackedState Refusal) (spill words : List ℕ)
    → code a ≡ to.made.code → IfOk a (λ s. state_of s ≡ to.made.state) → IfOk a (λ s. array_of s ≡ array) → spill ≡ to.spill
    → code b ≡ to.made.code → IfOk b (λ s. state_of s ≡ to.made.state) → IfOk b (λ s. array_of s ≡ array) → words ≡ to.spill
    → (made_by state_of array_of a ≡ made_by state_of array_of b) × (spill ≡ words)
clones-once to array a b spill words c p q k d u v l = (makes-once state_of array_of to.made.code to.made.state array a b c p q d u v, k ∙ sym l)

-- a new stack
pub fresh-once : (a b : EvmStack) → Fresh a → Fresh b → (stack_in a ≡ stack_in b) × (a.stack_raw ≡ b.stack_raw)
fresh-once a b p q = (p.stack ∙ sym q.stack, p.words ∙ sym q.words)

-- `shrink_choice` and `grow_choice`: of the choice, the plan that it stands for. Which of two names a plan has is left open (docs/DECISIONS.md).
pub chosen-once : (h : ℕ) (C T L : List ℕ) (c S D : ℕ) (plan : Job → State → Plan) (a b : Chose)
    → Chosen h C T L c S D plan a → Chosen h C T L c S D plan b → (first : ℕ) → planned first (length L) a ≡ planned first (length L) b
chosen-once h C T L c S D plan a b p q first = p.is first 0 0 [] ∙ sym (q.is first 0 0 [])
