-- Performing a choice: each tracked call is one operation of the plan, and two operations are one after the other.
use Rattle.std.specs.Prelude.{if◌then◌else◌}
use Prim.Native.Nat.{ℕ, zero, suc, ◌+◌, ◌<◌}
use native.Mathlib.Omega.{arith}
use mathlib.Core.Path.{◌≡◌, refl, sym, ◌∙◌}
use mathlib.Core.Bool.{Bool, true, false}
use Rattle.std.proofs.Common.{None as none, Some as some}
use Rattle.std.proofs.lemmas.Option.{none-some as none-ne-some, same_Some as some-injective}
use mathlib.Core.List.{List, [], ◌∷◌, append-nil}
use borrow.Author.Tests.{eq-eqb, ne_eqb, le-ltb}
use lib.ListN.{length, length-set}
use lib.Dec.{eqb, ltb}
use Rattle.scope.specs.declared.Op.TheVariants.{Swap, Pop}
use Rattle.scope.specs.Words.{if_zero}
use Rattle.scope.specs.Rules.{Job, State}
use Rattle.scope.specs.Shuffle.{Ended, ended, after as after_op, perform, no_record}
use Rattle.scope.specs.Tracked.{Stepped, pop_step, swap_step, dup_step, load_step, spill_step, numbered}
use Rattle.scope.specs.Once.{Lent, job_lent}
use Rattle.rules.specs.declared.Choice.TheVariants as C
use Rattle.rules.specs.Promises.{swap_of}
use Rattle.tracked.specs.declared.TrackedStack.{TrackedStack}
use Rattle.tracked.specs.Promises.{tracked_of}
use Rattle.shuffler.specs.Held.{Holding, holding, Held, stepped, Ran}
use Rattle.shuffler.specs.Performing.{Performs}
use Rattle.shuffler.proofs.Held.{pop-ran, swap-ran, dup-ran, load-ran, store-ran}
use Rattle.shuffler.proofs.Runs.{height, seq-stop, seq-go}

-- a slot that has a number
slot_is : (first i id : ℕ) → some id ≡ numbered first (some i) → id ≡ first + i
slot_is first i id e = go (ltb 4294967295 (first + i)) refl
  where
    go : (b : Bool) → ltb 4294967295 (first + i) ≡ b → id ≡ first + i
    go true q = absurd (none-ne-some id (sym (rw q at e)))
    go false q = some-injective id (first + i) (rw q at e)

-- ---- one tracked call, which answers a code and leaves a tracked stack

module _ (old : TrackedStack) (r : ℕ) (new : TrackedStack) where
  -- each part of what it answers and leaves is the definition's
  seen : (to : Stepped) (spill : List ℕ) → r ≡ to.code → tracked_of new ≡ to.state → new.ops.now ≡ to.words → new.spill.now ≡ spill
      → (c : ℕ) (e : Lent) (d : Ended) → Ran e to.code (stepped (holding c old) to spill) d → Ran e r (holding c new) d
  seen to spill is state words stays c e d q = rw (is, state, words, stays) q

  pub pop_performs : r ≡ (pop_step (tracked_of old) old.ops.now).code → tracked_of new ≡ (pop_step (tracked_of old) old.ops.now).state
      → new.ops.now ≡ (pop_step (tracked_of old) old.ops.now).words → new.spill.now ≡ old.spill.now → (c : ℕ) → Performs (holding c old) r (holding c new) C.Pop
  pop_performs is state words stays c = record {
    performs = λ e s k h f. seen (pop_step (tracked_of old) old.ops.now) old.spill.now is state words stays c e _ (pop-ran e (holding c old) s h k f);
  }

  pub swap_performs : (d : ℕ) → (d ≡ 0 → ⊥) → r ≡ (swap_step d (tracked_of old) old.ops.now).code → tracked_of new ≡ (swap_step d (tracked_of old) old.ops.now).state
      → new.ops.now ≡ (swap_step d (tracked_of old) old.ops.now).words → new.spill.now ≡ old.spill.now → (c : ℕ) → Performs (holding c old) r (holding c new) (C.Swap d)
  swap_performs d ne is state words stays c = record {
    performs = λ e s k h f.
        rw (ne_eqb d 0 ne) (seen (swap_step d (tracked_of old) old.ops.now) old.spill.now is state words stays c e _ (swap-ran e (holding c old) s h k d (omega arith) f));
  }

  pub dup_performs : (d : ℕ) → r ≡ (dup_step d (tracked_of old) old.ops.now).code → tracked_of new ≡ (dup_step d (tracked_of old) old.ops.now).state
      → new.ops.now ≡ (dup_step d (tracked_of old) old.ops.now).words → new.spill.now ≡ old.spill.now → (c : ℕ) → Performs (holding c old) r (holding c new) (C.Dup d)
  dup_performs d is state words stays c = record {
    performs = λ e s k h f. seen (dup_step d (tracked_of old) old.ops.now) old.spill.now is state words stays c e _ (dup-ran e (holding c old) s h k d f);
  }

  pub load_performs : (i id : ℕ) → some id ≡ numbered old.first (some i)
      → r ≡ (load_step id (tracked_of old) old.ops.now old.spill.now).code → tracked_of new ≡ (load_step id (tracked_of old) old.ops.now old.spill.now).state
      → new.ops.now ≡ (load_step id (tracked_of old) old.ops.now old.spill.now).words → new.spill.now ≡ old.spill.now
      → (c : ℕ) → Performs (holding c old) r (holding c new) (C.Load i)
  load_performs i id n is state words stays c = record {
    performs = λ e s k h f.
        let z = slot_is old.first i id n in
        seen (load_step (old.first + i) (tracked_of old) old.ops.now old.spill.now) old.spill.now (rw z at is) (rw z at state) (rw z at words) stays c e _ (load-ran e (holding c old) s h k i f);
  }

  pub store_performs : r ≡ (spill_step (tracked_of old) old.ops.now old.spill.now).step.code → tracked_of new ≡ (spill_step (tracked_of old) old.ops.now old.spill.now).step.state
      → new.ops.now ≡ (spill_step (tracked_of old) old.ops.now old.spill.now).step.words → new.spill.now ≡ (spill_step (tracked_of old) old.ops.now old.spill.now).spill
      → (c : ℕ) → Performs (holding c old) r (holding c new) C.Store
  store_performs is state words stays c = record {
    performs = λ e s k h f.
        let to = spill_step (tracked_of old) old.ops.now old.spill.now in
        seen to.step to.spill is state words stays c e _ (store-ran e (holding c old) s h k f);
  }

-- ---- what needs no call

-- a swap at depth 0
pub swap_nothing : (x : Holding) (d : ℕ) → d ≡ 0 → Performs x 0 x (C.Swap d)
unfolding perform
swap_nothing x d z = record { performs = λ e s k h f. rw (eq-eqb d 0 z) (record { code = refl; held = h }) }

-- a slot of the list has a number
pub load_nothing : (old : TrackedStack) (r i : ℕ) → none ≡ numbered old.first (some i) → (c : ℕ) → Performs (holding c old) r (holding c old) (C.Load i)
load_nothing old r i n c = record {
  performs = λ e s k h f.
      let q = le-ltb 4294967295 (old.first + i) (omega (arith, h.first, h.numbers, h.slots)) in
      absurd (none-ne-some (old.first + i) (rw q at n));
}

-- ---- two operations

-- a swap leaves the height
swap-height : (j : Job) (s : State) (k d : ℕ) → length (perform j s k (swap_of d)).state.C ≡ length s.C
unfolding perform
swap-height j s k d = go (eqb d 0)
  where
    at : (r q : ℕ) → length (if_zero r (ended 0 k (after_op j s (Swap d))) (ended q k s)).state.C ≡ length s.C
    at zero q = simp length-set
    at (suc r) q = refl

    go : (b : Bool) → length (perform j s k (if b then [] else Swap d ∷ [])).state.C ≡ length s.C
    go true = refl
    go false = at (no_record j s) (no_record j s)

module _ (x : Holding) (r : ℕ) (y : Holding) (d : ℕ) (first : Performs x r y (C.Swap d)) where
  swapping : (e : Lent) (s : State) (k : ℕ) → Held e x s → d < length s.C → Ran e r y (perform (job_lent e) s k (swap_of d))
  swapping e s k h f = rw (← append-nil (swap_of d)) (first.performs e s k h f)

  pub swap_pop_stops : (r ≡ 0 → ⊥) → Performs x r y (C.SwapPop d)
  swap_pop_stops ne = record { performs = λ e s k h f. seq-stop e s k (swap_of d) (Pop ∷ []) r y (swapping e s k h f) ne }

  pub swaps_stops : (to : ℕ) → (r ≡ 0 → ⊥) → Performs x r y (C.Swaps d to)
  swaps_stops to ne = record { performs = λ e s k h f. seq-stop e s k (swap_of d) (swap_of to) r y (swapping e s k h f.0) ne }

  -- the height after the swap is the one before it, whatever state is held then
  same-height : (e : Lent) (s : State) (k : ℕ) → Held e x s → d < length s.C → (s' : State) → Held e y s' → length s'.C ≡ length s.C
  same-height e s k h f s' h' = sym (height e y s' h') ∙ height e y _ (swapping e s k h f).held ∙ swap-height (job_lent e) s k d

  pub swap_pop_goes : (q : ℕ) (z : Holding) → r ≡ 0 → Performs y q z C.Pop → Performs x q z (C.SwapPop d)
  swap_pop_goes q z o second = record {
    performs = λ e s k h f.
        seq-go e s k (swap_of d) (Pop ∷ []) r y (swapping e s k h f) q z o (λ s' h'. second.performs e s' k h' (omega (arith, same-height e s k h f s' h')));
  }

  pub swaps_goes : (to q : ℕ) (z : Holding) → r ≡ 0 → Performs y q z (C.Swap to) → Performs x q z (C.Swaps d to)
  swaps_goes to q z o second = record {
    performs = λ e s k h f.
        seq-go e s k (swap_of d) (swap_of to) r y (swapping e s k h f.0) q z o
        (λ s' h'. rw (← append-nil (swap_of to)) (second.performs e s' k h' (omega (arith, same-height e s k h f.0 s' h', f.1))));
  }
