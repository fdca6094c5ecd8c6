-- One turn of a loop, one operation of a list: what is left to do still gives the whole answer.
use Prim.Native.Nat.{ℕ, zero, suc, ◌+◌, ◌-◌, ◌≤◌, ◌<◌}
use native.Mathlib.Omega.{arith}
use native.Mathlib.Numerals.{add-one}
use mathlib.Core.Path.{◌≡◌, refl}
use mathlib.Core.Bool.{Bool, true, false}
use mathlib.Core.List.{List, [], ◌∷◌, ◌++◌}
use Rattle.scope.specs.declared.Op.{Op}
use Rattle.scope.specs.Words.{if_zero}
use Rattle.scope.specs.Rules.{Job, State, Plan, write, refuse, pass}
use Rattle.scope.specs.Shuffle.{refusal, after, ended, perform, carry_out, recount, loop}

-- one turn of a loop with at most 100,000 ticks, k of which have passed
module _ (j : Job) (goes : State → Bool) (plan : State → Plan) (k : ℕ) (s : State) where
  done : (left : ℕ) → goes s ≡ false → loop j goes plan left k s ≡ ended 0 k s
  unfolding loop
  done zero e = rw e
  done (suc left) e = rw e

  pub loop-done : goes s ≡ false → loop j goes plan (100000 - k) k s ≡ ended 0 k s
  loop-done e = done (100000 - k) e

  pub loop-limit : goes s ≡ true → 100000 ≤ k → loop j goes plan (100000 - k) k s ≡ ended 9 k s
  unfolding loop
  loop-limit e h = let z : 100000 - k ≡ 0 = omega arith in rw (z, e)

  pub loop-refused : goes s ≡ true → k < 100000 → (r : ℕ) → (carry_out j s (k + 1) (plan s)).code ≡ suc r
      → loop j goes plan (100000 - k) k s ≡ carry_out j s (k + 1) (plan s)
  unfolding loop
  loop-refused e h r f =
      let z : 100000 - k ≡ suc (100000 - (k + 1)) = omega arith in
      let g : (carry_out j s (suc k) (plan s)).code ≡ suc r = rw (add-one k) at f in
      rw (z, e, g, add-one k)

  pub loop-again : goes s ≡ true → k < 100000 → (carry_out j s (k + 1) (plan s)).code ≡ 0
      → loop j goes plan (100000 - k) k s ≡ loop j goes plan (100000 - (k + 1)) (k + 1) (recount j (carry_out j s (k + 1) (plan s)).state)
  unfolding loop
  loop-again e h f =
      let z : 100000 - k ≡ suc (100000 - (k + 1)) = omega arith in
      let g : (carry_out j s (suc k) (plan s)).code ≡ 0 = rw (add-one k) at f in
      rw (z, e, g, add-one k)

-- performing operations
module _ (j : Job) (s : State) (k : ℕ) (o : Op) (os : List Op) where
  pub perform-next : refusal j s o ≡ 0 → perform j s k (o ∷ os) ≡ perform j (after j s o) k os
  unfolding perform
  perform-next e = rw e

  pub perform-stop : (r : ℕ) → refusal j s o ≡ suc r → perform j s k (o ∷ os) ≡ ended (suc r) k s
  unfolding perform
  perform-stop r e = rw e

-- what a first part leaves, the second goes on with
pub perform-append : (j : Job) (s : State) (k : ℕ) (a b : List Op)
    → perform j s k (a ++ b) ≡ if_zero (perform j s k a).code (perform j (perform j s k a).state k b) (perform j s k a)
unfolding perform
perform-append j s k [] b = refl
perform-append j s k (o ∷ a) b = go (refusal j s o) refl (perform-append j (after j s o) k a b)
  where
    go : (r : ℕ) → refusal j s o ≡ r
        → perform j (after j s o) k (a ++ b) ≡ if_zero (perform j (after j s o) k a).code (perform j (perform j (after j s o) k a).state k b) (perform j (after j s o) k a)
        → perform j s k ((o ∷ a) ++ b) ≡ if_zero (perform j s k (o ∷ a)).code (perform j (perform j s k (o ∷ a)).state k b) (perform j s k (o ∷ a))
    go zero e ih = rw (e, perform) ih
    go (suc r) e ih = rw (e, perform)

pub if-not : {A : Type 0} (x : ℕ) (a b : A) → (x ≡ 0 → ⊥) → if_zero x a b ≡ b
if-not zero a b ne = absurd (ne refl)
if-not (suc x) a b ne = refl

pub if-zero : {A : Type 0} (x : ℕ) (a b : A) → x ≡ 0 → if_zero x a b ≡ a
if-zero x a b e = rw e

pub perform-ticks : (j : Job) (s : State) (k : ℕ) (os : List Op) → (perform j s k os).ticks ≡ k
unfolding perform
perform-ticks j s k [] = refl
perform-ticks j s k (o ∷ os) = go (refusal j s o) refl (perform-ticks j (after j s o) k os)
  where
    go : (r : ℕ) → refusal j s o ≡ r → (perform j (after j s o) k os).ticks ≡ k → (perform j s k (o ∷ os)).ticks ≡ k
    go zero e ih = rw (e, perform) ih
    go (suc r) e ih = rw (e, perform)

pub carry-ticks : (j : Job) (s : State) (k : ℕ) (p : Plan) → (carry_out j s k p).ticks ≡ k
carry-ticks j s k (write os) = perform-ticks j s k os
carry-ticks j s k (refuse r) = refl
carry-ticks j s k pass = refl
