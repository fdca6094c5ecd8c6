-- What performing a choice does.
use Rattle.std.specs.Prelude.{ℕ, length}
use Rattle.scope.specs.Rules.{State}
use Rattle.scope.specs.Shuffle.{carry_out}
use Rattle.scope.specs.Once.{Lent, job_lent}
use Rattle.rules.specs.declared.Choice.{Choice}
use Rattle.rules.specs.Promises.{plan_of, Fit}
use Rattle.shuffler.specs.Held.{Holding, Held, Ran}

-- Whatever state was held, if the choice can be performed on it, what its plan comes to is held after.
pub record Performs (x : Holding) (r : ℕ) (y : Holding) (choice : Choice) : Type 0 where
  pub performs : (e : Lent) (s : State) (k : ℕ) → Held e x s → Fit (length s.C) (length s.spilled) choice
      → Ran e r y (carry_out (job_lent e) s k (plan_of e.first (length s.spilled) choice))
