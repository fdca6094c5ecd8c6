-- The latest slot, or none.
use Rattle.std.proofs.Common.{◌≡◌, None as none, Some as some, Err, rules}
use Rattle.scope.specs.declared.Refusal.TheVariants.{Missing}
use Rattle.rules.proofs.Fetching.{load_found, load-none}
use Rattle.rules.proofs.grow.unspill.Goals as goal

pub returns-in_err-slot : goal.returns-in_err-slot
returns-in_err-slot c =
    let lacks : c.find_last.result ≡ none = search rules in
    let gone : c.from_residual.result ≡ Err Missing = search rules in
    rw gone (load-none _ _ (search rules))

pub returns : goal.returns
returns c = let has : c.find_last.result ≡ some c.in_ok-slot.slot = search rules in load_found _ _ c.in_ok-slot.slot (search rules)
