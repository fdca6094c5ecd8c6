-- Std's search, said in scope's words.
use Rattle.std.proofs.Common.{nat_eq, rules, tests}
use Rattle.std.proofs.lemmas.Iterator.{YieldsList-from_slice}
use Rattle.std.proofs.lemmas.Iterator.Search.{position_from_yields_List}
use Rattle.lists.proofs.Finding.{first_position}
use Rattle.lists.proofs.find_first.Goals as goal

pub returns : goal.returns
returns c =
    let v = c.args.v in
    let s = c.args.s.now in
    first_position _ v s
    (position_from_yields_List (λ x. nat_eq x v) _ _ _ c.position.ensures.ran (YieldsList-from_slice s cc) (λ x b q k. search (rules, tests)))
