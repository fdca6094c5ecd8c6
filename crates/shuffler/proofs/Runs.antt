-- Each return of a tick, of a loop, of the finish and of a run: what is left to do from what is held gives the whole.
use Prim.Native.Nat.{ℕ, zero, suc, ◌+◌, ◌-◌, ◌<◌, ◌≤◌}
use native.Mathlib.Omega.{arith}
use mathlib.Core.Path.{◌≡◌, refl, sym, ap, ◌∙◌}
use mathlib.Core.Bool.{Bool, true, false}
use mathlib.Core.List.{List, [], ◌∷◌, ◌++◌}
use lib.ListN.{length, replicate, length-drop}
use Rattle.scope.specs.declared.Op.{Op}
use Rattle.scope.specs.declared.Op.TheVariants.{Pop}
use Rattle.scope.specs.Words.{if_zero, Stack}
use Rattle.scope.specs.Rules.{Job, State, Plan, counted, shrink_plan, grow_plan}
use Rattle.scope.specs.Tracked.{Tracked}
use Rattle.scope.specs.Shuffle.{Ended, ended, no_record, carry_out, recount, shrinks, grows, shrink, grow, perform, finish, result, run_from}
use Rattle.scope.specs.Once.{Lent, job_lent}
use Rattle.scope.proofs.Loops.{if-not, if-zero, loop-done, loop-limit, loop-refused, loop-again, carry-ticks, perform-append}
use Rattle.operations.specs.declared.ScheduleConfig.{ScheduleConfig}
use Rattle.rules.specs.declared.Choice.TheVariants as C
use Rattle.rules.specs.Promises.{counted_in}
use Rattle.shuffler.proofs.Held.{values-are}
use Rattle.shuffler.specs.Performing.{Performs}
use Rattle.shuffler.specs.Held.{Holding, Held, Ran}
use Rattle.shuffler.specs.Runs.{About, turned, Ticks, EndsAt, looped, Loops, Here, Within, down, Downs, Lowers, Tells, rest, from_shrink}

-- the height that the code keeps is the stack's
pub height : (e : Lent) (x : Holding) (s : State) → Held e x s → x.tracked.stack.height ≡ length s.C
height e x s h = ap (λ (l : Stack). l.height) h.stack

-- ---- two pieces of work, one after the other

module _ (e : Lent) (s : State) (k : ℕ) (a b : List Op) (r : ℕ) (y : Holding) (first : Ran e r y (perform (job_lent e) s k a)) where
  pub seq-stop : (r ≡ 0 → ⊥) → Ran e r y (perform (job_lent e) s k (a ++ b))
  seq-stop ne =
      rw (perform-append (job_lent e) s k a b ∙ if-not (perform (job_lent e) s k a).code _ (perform (job_lent e) s k a) (λ z. ne (first.code ∙ z))) first

  pub seq-go : (q : ℕ) (z : Holding) → r ≡ 0 → ((s' : State) → Held e y s' → Ran e q z (perform (job_lent e) s' k b)) → Ran e q z (perform (job_lent e) s k (a ++ b))
  seq-go q z o second =
      let c : (perform (job_lent e) s k a).code ≡ 0 = sym first.code ∙ o in
      rw (perform-append (job_lent e) s k a b, c) (second _ first.held)

-- ---- counting

-- what is held, with another completed count
abbrev pub counts : Holding → ℕ → Holding
counts x c = record { tracked = x.tracked; words = x.words; spill = x.spill; complete = c }

pub count-held : (e : Lent) (x : Holding) (s : State) (c d : ℕ) → Held e x s → c ≡ d → Held e (counts x c) (record { C = s.C; c = d; spilled = s.spilled; ops = s.ops })
count-held e x s c d h is = record {
  stack = h.stack;
  low = h.low;
  complete = is;
  first = h.first;
  numbers = h.numbers;
  filled = h.filled;
  slots = h.slots;
  spill = h.spill;
  written = h.written;
  records = h.records;
  words = h.words;
}

-- counting in code is counting
counted_same : (j : Job) (s : State) (C T : List ℕ) (c : ℕ) → C ≡ s.C → c ≡ s.c → j.T ≡ T → counted_in C T c ≡ counted j s
unfolding counted
counted_same j s C T c e g h = rw (e, g, ← h)

-- what is held is counted
pub counts-held : (T : List ℕ) (x : Holding) (e : Lent) (s : State) → e.target ≡ T → Held e x s → counted_in x.tracked.stack.values T x.complete ≡ counted (job_lent e) s
counts-held T x e s t h = counted_same (job_lent e) s x.tracked.stack.values T x.complete (values-are e x s h) h.complete t

-- ---- a loop, whatever its test and its plan

abbrev pub Meets : List ℕ → ScheduleConfig → (Job → State → Bool) → Holding → Bool → Type 0
Meets T config goes x b = (e : Lent) (s : State) → About T config e → Held e x s → goes (job_lent e) s ≡ b

module _ (T : List ℕ) (config : ScheduleConfig) (goes : Job → State → Bool) (plan : Job → State → Plan) (x₀ x : Holding) (k : ℕ) (w : Within T config goes plan x₀ x k) where
  pub ends-done : Meets T config goes x false → Loops T config goes plan x₀ 0 k x
  ends-done g = record {
    loops = λ e s₀ a h.
        let z = w.within e s₀ a h in
        let j = job_lent e in
        rw (← z.same, loop-done j (goes j) (plan j) k z.state (g e z.state a z.held)) (record { ran = record { code = refl; held = z.held }; passed = refl });
  }

  pub ends-limit : Meets T config goes x true → 100000 ≤ k → Loops T config goes plan x₀ 9 k x
  ends-limit g l = record {
    loops = λ e s₀ a h.
        let z = w.within e s₀ a h in
        let j = job_lent e in
        rw (← z.same, loop-limit j (goes j) (plan j) k z.state (g e z.state a z.held) l) (record { ran = record { code = refl; held = z.held }; passed = refl });
  }

  module _ (r : ℕ) (y : Holding) (g : Meets T config goes x true) (l : k < 100000) (u : Ticks T config goes plan x r y) where
    -- the tick's work, with its end by cases
    abbrev work : Lent → State → Ended
    work e s = carry_out (job_lent e) s (k + 1) (plan (job_lent e) s)

    stopped : (e : Lent) (s : State) (c : ℕ) → (work e s).code ≡ suc c → Ran e r y (turned (plan (job_lent e) s) (job_lent e) s (k + 1)) → Ran e r y (work e s)
    unfolding turned
    stopped e s c z q =
        rw (if-not (work e s).code (ended 0 (k + 1) (recount (job_lent e) (work e s).state)) (work e s) (λ v. let n : ◌≡◌ {A = ℕ} (suc c) 0 = sym z ∙ v in omega arith)) at q

    went : (e : Lent) (s : State) → (work e s).code ≡ 0 → Ran e r y (turned (plan (job_lent e) s) (job_lent e) s (k + 1)) → Ran e r y (ended 0 (k + 1) (recount (job_lent e) (work e s).state))
    unfolding turned
    went e s z q = rw (if-zero (work e s).code (ended 0 (k + 1) (recount (job_lent e) (work e s).state)) (work e s) z) at q

    pub ends-refused : (r ≡ 0 → ⊥) → Loops T config goes plan x₀ r (k + 1) y
    ends-refused ne = record { loops = λ e s₀ a h. at e s₀ a (w.within e s₀ a h) }
      where
        at : (e : Lent) (s₀ : State) → About T config e → Here goes plan e s₀ x k → EndsAt e r (k + 1) y (looped goes plan (job_lent e) s₀)
        at e s₀ a z = go (work e z.state).code refl (u.ticks e z.state (k + 1) a z.held (g e z.state a z.held))
          where
            go : (c : ℕ) → (work e z.state).code ≡ c → Ran e r y (turned (plan (job_lent e) z.state) (job_lent e) z.state (k + 1)) → EndsAt e r (k + 1) y (looped goes plan (job_lent e) s₀)
            go zero v q = absurd (ne (went e z.state v q).code)
            go (suc c) v q =
                let j = job_lent e in
                rw (← z.same, loop-refused j (goes j) (plan j) k z.state (g e z.state a z.held) l c v)
                (record { ran = stopped e z.state c v q; passed = sym (carry-ticks j z.state (k + 1) (plan j z.state)) })

    pub goes_on : r ≡ 0 → Within T config goes plan x₀ y (k + 1)
    goes_on o = record { within = λ e s₀ a h. at e s₀ a (w.within e s₀ a h) }
      where
        at : (e : Lent) (s₀ : State) → About T config e → Here goes plan e s₀ x k → Here goes plan e s₀ y (k + 1)
        at e s₀ a z = go (work e z.state).code refl (u.ticks e z.state (k + 1) a z.held (g e z.state a z.held))
          where
            go : (c : ℕ) → (work e z.state).code ≡ c → Ran e r y (turned (plan (job_lent e) z.state) (job_lent e) z.state (k + 1)) → Here goes plan e s₀ y (k + 1)
            go zero v q =
                let j = job_lent e in
                record {
                  state = recount j (work e z.state).state;
                  held = (went e z.state v q).held;
                  same = sym (loop-again j (goes j) (plan j) k z.state (g e z.state a z.held) l v) ∙ z.same;
                }
            go (suc c) v q = let n : ◌≡◌ {A = ℕ} (suc c) 0 = sym v ∙ sym (stopped e z.state c v q).code ∙ o in absurd (omega arith)

-- ---- popping down

-- one pop in front
down-one : (goal : ℕ) (j : Job) (s : State) → goal < length s.C
    → down goal j s ≡ if_zero (perform j s 0 (Pop ∷ [])).code (perform j (perform j s 0 (Pop ∷ [])).state 0 (replicate (length s.C - 1 - goal) Pop)) (perform j s 0 (Pop ∷ []))
down-one goal j s g =
    let e : length s.C - goal ≡ suc (length s.C - 1 - goal) = omega arith in
    rw e (perform-append j s 0 (Pop ∷ []) (replicate (length s.C - 1 - goal) Pop))

-- and it lowers the stack by one
pop-lowers : (j : Job) (s : State) → (perform j s 0 (Pop ∷ [])).code ≡ 0 → length (perform j s 0 (Pop ∷ [])).state.C ≡ length s.C - 1
unfolding perform
pop-lowers j s q = go (no_record j s) refl
  where
    go : (r : ℕ) → no_record j s ≡ r → length (perform j s 0 (Pop ∷ [])).state.C ≡ length s.C - 1
    go zero e = rw e (length-drop 1 s.C)
    go (suc r) e = let z : ◌≡◌ {A = ℕ} (suc r) 0 = rw e at q in absurd (omega arith)

module _ (goal : ℕ) (x₀ x : Holding) (above : ℕ) (w : Lowers goal x₀ x above) where
  pub down-done : above ≡ 0 → Downs goal x₀ 0 x
  unfolding perform
  down-done l = record {
    downs = λ e s₀ h.
        let z = w.lowers e s₀ h in
        let n : length z.state.C - goal ≡ 0 = z.left ∙ l in
        rw (← z.same, n) (record { code = refl; held = z.held });
  }

  module _ (r : ℕ) (y : Holding) (g : 0 < above) (u : Performs x r y C.Pop) where
    pub down-refused : (r ≡ 0 → ⊥) → Downs goal x₀ r y
    down-refused ne = record {
      downs = λ e s₀ h.
          let z = w.lowers e s₀ h in
          let n = z.left in
          let j = job_lent e in
          let q = u.performs e z.state 0 z.held (omega arith) in
          rw (sym z.same ∙ down-one goal j z.state (omega arith) ∙ if-not (perform j z.state 0 (Pop ∷ [])).code _ (perform j z.state 0 (Pop ∷ [])) (λ v. ne (q.code ∙ v))) q;
    }

    pub down-again : r ≡ 0 → (m : ℕ) → above ≡ m + 1 → Lowers goal x₀ y m
    down-again o m is = record {
      lowers = λ e s₀ h.
          let z = w.lowers e s₀ h in
          let n = z.left in
          let j = job_lent e in
          let q = u.performs e z.state 0 z.held (omega arith) in
          let d = perform j z.state 0 (Pop ∷ []) in
          let low : length d.state.C ≡ length z.state.C - 1 = pop-lowers j z.state (sym q.code ∙ o) in
          let i : length z.state.C - 1 - goal ≡ length d.state.C - goal = ap (λ (m : ℕ). m - goal) (sym low) in
          let same : down goal j z.state ≡ down goal j d.state =
          down-one goal j z.state (omega arith) ∙ if-zero d.code _ d (sym q.code ∙ o) ∙ ap (λ (m : ℕ). perform j d.state 0 (replicate m Pop)) i in
          record { state = d.state; held = q.held; left = omega (arith, i, z.left, is); same = sym same ∙ z.same };
    }

-- ---- the run

module _ (T : List ℕ) (config : ScheduleConfig) (k : ℕ) (x : Holding) (r ticks : ℕ) (y : Holding) (l : Loops T config grows grow_plan x r ticks y) where
  pub after-refused : (r ≡ 0 → ⊥) → Tells T config x r k ticks y (rest k)
  unfolding rest grow
  after-refused ne = record {
    tells = λ e s a h.
        let z = l.loops e s a h in
        let d = looped grows grow_plan (job_lent e) s in
        rw (if-not d.code _ (result d.code k d.ticks d.state) (λ v. ne (z.ran.code ∙ v)))
        (record { code = z.ran.code; shrink_ticks = refl; grow_ticks = z.passed; c = d.state.c; held = z.ran.held });
  }

  pub after-done : (q : ℕ) (y' : Holding) → r ≡ 0 → Downs (length T) y q y' → Tells T config x q k ticks y' (rest k)
  unfolding rest grow finish
  after-done q y' o f = record {
    tells = λ e s a h.
        let z = l.loops e s a h in
        let j = job_lent e in
        let d = looped grows grow_plan j s in
        let p = rw (← a.target) at (f.downs e d.state z.ran.held) in
        rw (if-zero d.code (result (down (length e.target) j d.state).code k d.ticks (down (length e.target) j d.state).state) (result d.code k d.ticks d.state) (sym z.ran.code ∙ o))
        (record { code = p.code; shrink_ticks = refl; grow_ticks = z.passed; c = (down (length e.target) j d.state).state.c; held = p.held });
  }

-- shrink, and the rest where it is done
module _ (T : List ℕ) (config : ScheduleConfig) (x : Holding) (r ticks : ℕ) (y : Holding) (l : Loops T config shrinks shrink_plan x r ticks y) where
  pub shrink-refused : (r ≡ 0 → ⊥) → Tells T config x r ticks 0 y from_shrink
  unfolding from_shrink shrink
  shrink-refused ne = record {
    tells = λ e s a h.
        let z = l.loops e s a h in
        let d = looped shrinks shrink_plan (job_lent e) s in
        rw (if-not d.code _ (result d.code d.ticks 0 d.state) (λ v. ne (z.ran.code ∙ v)))
        (record { code = z.ran.code; shrink_ticks = z.passed; grow_ticks = refl; c = d.state.c; held = z.ran.held });
  }

  pub shrink-done : (q a b : ℕ) (y' : Holding) → r ≡ 0 → Tells T config y q a b y' (rest ticks) → Tells T config x q a b y' from_shrink
  unfolding from_shrink shrink
  shrink-done q a b y' o f = record {
    tells = λ e s t h.
        let j = job_lent e in
        let z = l.loops e s t h in
        let d = looped shrinks shrink_plan j s in
        let p = rw z.passed at (f.tells e d.state t z.ran.held) in
        rw (if-zero d.code (rest d.ticks j d.state) (result d.code d.ticks 0 d.state) (sym z.ran.code ∙ o)) p;
  }

-- the first counting, and what follows it; the completed count after the run is not told
pub run_told : (T : List ℕ) (config : ScheduleConfig) (t : Tracked) (words spill : List ℕ) (c r a b : ℕ) (t' : Tracked) (words' spill' : List ℕ) (c' : ℕ)
    → c ≡ counted_in t.stack.values T 0
    → Tells T config (record { tracked = t; words = words; spill = spill; complete = c }) r a b (record { tracked = t'; words = words'; spill = spill'; complete = c' }) from_shrink
    → Tells T config (record { tracked = t; words = words; spill = spill; complete = 0 }) r a b (record { tracked = t'; words = words'; spill = spill'; complete = 0 }) run_from
unfolding run_from from_shrink rest
run_told T config t words spill c r a b t' words' spill' c' is f = record {
  tells = λ e s about h.
      let j = job_lent e in
      let x : Holding = record { tracked = t; words = words; spill = spill; complete = 0 } in
      let y : Holding = record { tracked = t'; words = words'; spill = spill'; complete = c' } in
      let z = f.tells e (recount j s) about (count-held e x s c (counted j s) h (is ∙ counts-held T x e s about.target h)) in
      let R = run_from j s in
      record {
        code = z.code;
        shrink_ticks = z.shrink_ticks;
        grow_ticks = z.grow_ticks;
        c = 0;
        held = count-held e y (record { C = R.stack; c = z.c; spilled = R.spilled; ops = R.ops }) 0 0 z.held refl;
      };
}
