-- The first swap of the plan, and the second after it where the first was done.
use Rattle.std.proofs.Common.{refl}
use Rattle.shuffler.proofs.Performing.{swaps_goes}
use Rattle.shuffler.proofs.perform.swaps.Goals as goal

pub returns-clause-held : goal.returns-clause-held
returns-clause-held c = λ n. swaps_goes _ _ _ _ (c.in_ok-swap.ensures.held n) _ _ _ refl (c.swap-2.ensures.held n)
