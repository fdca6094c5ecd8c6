-- The swap of the plan, and the pop after it where the swap was done.
use Rattle.std.proofs.Common.{refl}
use Rattle.shuffler.proofs.Performing.{swap_pop_goes}
use Rattle.shuffler.proofs.perform.swap_pop.Goals as goal

pub returns-clause-held : goal.returns-clause-held
returns-clause-held c = λ n. swap_pop_goes _ _ _ _ (c.in_ok-swap.ensures.held n) _ _ refl (c.pop.ensures.held n)
