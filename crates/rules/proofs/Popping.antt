-- (a), (c), (e): the test decides whether the top is popped. (f): what is left is the store.
use Rattle.std.proofs.Common.{ℕ, ◌≤◌, ◌≡◌, Bool, true, false, List, length, get_or, Option, Ok, Some as some, refl, arith}
use mathlib.Core.Bool.{not, ◌||◌}
use lib.Dec.{eqb, leb}
use Rattle.std.specs.Bool.{then_some}
use Rattle.scope.specs.Words.{◌∈◌, count, ◌from◌}
use Rattle.scope.specs.Rules.{Job, State, pop_if, extra, rule_a, rule_c, rule_e, rule_f, store}
use Rattle.rules.specs.declared.Choice.{Choice}
use Rattle.rules.specs.declared.Choice.TheVariants.{Pop, Store}
use Rattle.rules.specs.Promises.{Chosen, Fits, planned, job, state}

popped : (b : Bool) (first m : ℕ) (j : Job) (s : State) → planned first m (Ok (then_some b Pop)) ≡ pop_if j s b
popped true first m j s = refl
popped false first m j s = refl

fits : (b : Bool) (n m : ℕ) → 1 ≤ n → Fits n m (Ok (then_some b Pop))
fits true n m h = h
fits false n m h = omega arith

module _ (C T : List ℕ) (c v : ℕ) (b : Bool) (r : Option Choice) (top : v ≡ get_or C 0 0) (is : r ≡ then_some b Pop) where
  pub a-pop : b ≡ (eqb c (length T) || not (v ∈ (T from c))) → (L : List ℕ) (S D : ℕ) → Chosen 1 C T L c S D rule_a (Ok r)
  unfolding rule_a
  a-pop e L S D =
      record {
        is = λ first slots room os. rw (is, ← top, ← e) (popped b first (length L) (job S D T first slots room) (state C c L os));
        fit = λ n. rw is (fits b (length C) (length L) n);
      }

  pub c-pop : b ≡ extra C T c v → (L : List ℕ) (S D : ℕ) → Chosen 1 C T L c S D rule_c (Ok r)
  unfolding rule_c
  c-pop e L S D =
      record {
        is = λ first slots room os. rw (is, ← top, ← e) (popped b first (length L) (job S D T first slots room) (state C c L os));
        fit = λ n. rw is (fits b (length C) (length L) n);
      }

  pub e-pop : b ≡ leb 2 (count v (C from c)) → (L : List ℕ) (S D : ℕ) → Chosen 1 C T L c S D rule_e (Ok r)
  unfolding rule_e
  e-pop e L S D =
      record {
        is = λ first slots room os. rw (is, ← top, ← e) (popped b first (length L) (job S D T first slots room) (state C c L os));
        fit = λ n. rw is (fits b (length C) (length L) n);
      }

pub f-store : (C T L : List ℕ) (c S D : ℕ) → Chosen 1 C T L c S D rule_f (Ok (some Store))
unfolding rule_f store
f-store C T L c S D = record { is = λ first slots room os. refl; fit = λ n. n }
