-- A loop's test of what the rules look at is the definition's; a tick is the choice that they pick, performed, and a count.
use Prim.Native.Nat.{ℕ, ◌+◌, ◌-◌, ◌<◌, ◌≤◌}
use borrow.Author.Tests.{ltb-true}
use native.Mathlib.Omega.{arith}
use mathlib.Core.Path.{◌≡◌, refl, sym, ◌∙◌}
use mathlib.Core.Bool.{Bool, true, false}
use mathlib.Core.List.{List}
use lib.ListN.{length, take}
use Rattle.std.proofs.Common.{Result, Ok, Err, Some as some}
use Rattle.scope.specs.declared.Refusal.{Refusal}
use Rattle.scope.specs.Codes.{number_of, code}
use Rattle.scope.specs.Rules.{Job, State, Plan, refuse, counted, shrink_plan, grow_plan}
use Rattle.scope.specs.Shuffle.{ended, carry_out, recount, shrinks, grows}
use Rattle.scope.specs.Once.{Lent, job_lent}
use Rattle.scope.proofs.Loops.{if-not, if-zero}
use Rattle.operations.specs.declared.ScheduleConfig.{ScheduleConfig}
use Rattle.questions.specs.declared.View.{View}
use Rattle.rules.specs.declared.Choice.{Choice}
use Rattle.rules.specs.Promises.{always, Fit, Picked, Picks as Shown, plan_of, counted_in}
use Rattle.shuffler.specs.Held.{Holding, Held}
use Rattle.shuffler.specs.Runs.{About, turned, Ticks, Loops, Within}
use Rattle.shuffler.specs.Performing.{Performs}
use Rattle.shuffler.specs.Picks.{Goes, Picks}
use Rattle.shuffler.proofs.Held.{stored_is, values-are}
use Rattle.shuffler.proofs.Runs.{counts, count-held, counts-held, Meets, ends-done, ends-limit, ends-refused, goes_on}

-- a refusal has a code, so that an answer with none is one that is done
pub number-some : (r : Refusal) → number_of r ≡ 0 → ⊥
number-some r z = grind arith

pub done-is : (r : Result Unit Refusal) → code r ≡ 0 → r ≡ Ok tt
done-is (Ok tt) z = refl
done-is (Err r) z = absurd (number-some r z)

-- what the rules choose for a tick of each loop is what the loop picks
pub shrink_picks : (v : View) (choice : Choice) → ((L : List ℕ) (D : ℕ) → Shown 1 v L v.config.max_swap_depth D shrink_plan (Ok (some choice))) → Picks v shrinks shrink_plan (Ok choice)
shrink_picks v choice f =
    let x = f v.spilled.now v.config.max_dup_depth in
    record {
      is = x.is;
      fit = λ first slots room os g. x.fit (omega (arith, ltb-true (v.config.max_swap_depth + 1) (length v.current.now - v.complete) g));
    }

pub grow_picks : (v : View) (r : Result Choice Refusal) → Picked 0 v grow_plan (always r) → Picks v grows grow_plan r
grow_picks v r f = record { is = f.is; fit = λ first slots room os g. f.fit (omega arith) }

module _ (T : List ℕ) (config : ScheduleConfig) (v : View) (x : Holding)
    (sees : v.current.now ≡ x.tracked.stack.values) (aims : v.target.now ≡ T) (stored : v.spilled.now ≡ take x.tracked.filled x.spill)
    (counted-so : v.complete ≡ x.complete) (limits : v.config ≡ config) (goes : Job → State → Bool) where
  module _ (e : Lent) (s : State) (a : About T config e) (h : Held e x s) where
    current : v.current.now ≡ s.C
    current = sees ∙ values-are e x s h

    spilled : v.spilled.now ≡ s.spilled
    spilled = stored ∙ stored_is e x s h

  pub meets : (b : Bool) → Goes v goes b → Meets T config goes x b
  meets b g e s a h =
      sym (rw (current e s a h, spilled e s a h, counted-so, h.complete, aims, limits, ← a.target, ← a.swaps, ← a.dups) at (g.is e.first (job_lent e).slots (job_lent e).room s.ops))

  module _ (plan : Job → State → Plan) where
    -- a choice is refused: nothing is done
    pub tick-refused : (r : Refusal) → Picks v goes plan (Err r) → Ticks T config goes plan x (number_of r) x
    unfolding turned
    tick-refused r p = record {
      ticks = λ e s k a h g.
          let n = number_of r in
          let is : refuse n ≡ plan (job_lent e) s =
          rw (current e s a h, spilled e s a h, counted-so, h.complete, aims, limits, ← a.target, ← a.swaps, ← a.dups) at (p.is e.first (job_lent e).slots (job_lent e).room s.ops) in
          let some : 5 < n =
          (rw (current e s a h, spilled e s a h, counted-so, h.complete, aims, limits, ← a.target, ← a.swaps, ← a.dups) at (p.fit e.first (job_lent e).slots (job_lent e).room s.ops)) g in
          rw (← is, if-not n (ended 0 k (recount (job_lent e) s)) (ended n k s) (λ z. omega arith)) (record { code = refl; held = h });
    }

    module _ (choice : Choice) (p : Picks v goes plan (Ok choice)) where
      module _ (e : Lent) (s : State) (a : About T config e) (h : Held e x s) where
        -- what was picked is the plan
        picked : plan_of e.first (length s.spilled) choice ≡ plan (job_lent e) s
        picked =
            rw (current e s a h, spilled e s a h, counted-so, h.complete, aims, limits, ← a.target, ← a.swaps, ← a.dups) at (p.is e.first (job_lent e).slots (job_lent e).room s.ops)

        -- and it can be performed
        fits : goes (job_lent e) s ≡ true → Fit (length s.C) (length s.spilled) choice
        fits g =
            (rw (current e s a h, spilled e s a h, counted-so, h.complete, aims, limits, ← a.target, ← a.swaps, ← a.dups) at (p.fit e.first (job_lent e).slots (job_lent e).room s.ops)) g

      module _ (r : ℕ) (y : Holding) (f : Performs x r y choice) where
        pub tick-stopped : (r ≡ 0 → ⊥) → Ticks T config goes plan x r y
        unfolding turned
        tick-stopped ne = record {
          ticks = λ e s k a h g.
              let z = f.performs e s k h (fits e s a h g) in
              let d = carry_out (job_lent e) s k (plan_of e.first (length s.spilled) choice) in
              rw (← picked e s a h, if-not d.code (ended 0 k (recount (job_lent e) d.state)) d (λ w. ne (z.code ∙ w))) z;
        }

        pub tick-done : (c : ℕ) → r ≡ 0 → c ≡ counted_in y.tracked.stack.values T y.complete → Ticks T config goes plan x 0 (counts y c)
        unfolding turned
        tick-done c o is = record {
          ticks = λ e s k a h g.
              let z = f.performs e s k h (fits e s a h g) in
              let j = job_lent e in
              let d = carry_out j s k (plan_of e.first (length s.spilled) choice) in
              rw (← picked e s a h, if-zero d.code (ended 0 k (recount j d.state)) d (sym z.code ∙ o))
              (record { code = refl; held = count-held e y d.state c (counted j d.state) z.held (is ∙ counts-held T y e d.state a.target z.held) });
        }

  -- ---- the loop, by its test on what is looked at

  module _ (b : Bool) (asked : Goes v goes b) (plan : Job → State → Plan) (x₀ : Holding) (k : ℕ) (w : Within T config goes plan x₀ x k) where
    pub loop-done : b ≡ false → Loops T config goes plan x₀ 0 k x
    loop-done o = ends-done T config goes plan x₀ x k w (rw o at (meets b asked))

    pub loop-limit : b ≡ true → 100000 ≤ k → Loops T config goes plan x₀ 9 k x
    loop-limit o l = ends-limit T config goes plan x₀ x k w (rw o at (meets b asked)) l

    module _ (r : ℕ) (y : Holding) (o : b ≡ true) (l : k < 100000) (u : Ticks T config goes plan x r y) where
      pub loop-refused : (r ≡ 0 → ⊥) → Loops T config goes plan x₀ r (k + 1) y
      loop-refused ne = ends-refused T config goes plan x₀ x k w r y (rw o at (meets b asked)) l u ne

      pub loop-again : r ≡ 0 → Within T config goes plan x₀ y (k + 1)
      loop-again z = goes_on T config goes plan x₀ x k w r y (rw o at (meets b asked)) l u z
