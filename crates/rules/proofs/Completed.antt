-- Counting.
use Rattle.std.proofs.Common.{ℕ, ◌≡◌, List, length, Option, None as none, Some as some, refl}
use Rattle.std.specs.Prelude.{min, max, unwrap_or}
use Rattle.scope.specs.Words.{lowest}
use Rattle.scope.specs.Rules.{Job, State, counting_stops, counted}
use Rattle.rules.specs.Promises.{counted_in}

-- the search's answer, or the end
pub counts : (C T : List ℕ) (c : ℕ) (r : Option ℕ) → r ≡ lowest c (min (length C) (length T)) (counting_stops C T)
    → unwrap_or r (max c (min (length C) (length T))) ≡ counted_in C T c
unfolding counted
counts C T c none e = rw (← e) refl
counts C T c (some p) e = rw (← e) refl

-- counting looks at nothing else of a job and a state
pub counted-in : (j : Job) (s : State) → counted_in s.C j.T s.c ≡ counted j s
unfolding counted
counted-in j s = refl
