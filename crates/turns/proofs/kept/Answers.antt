-- Std's search, said in scope's words.
use Rattle.std.proofs.Common.{◌≡◌, ℕ, List, Option, None as none, Some as some, arith, rules, tests, refl}
use Rattle.std.specs.Option.{unwrap_or}
use Rattle.scope.specs.Words.{lowest}
use Rattle.scope.specs.Rules.{differs}
use Rattle.lists.proofs.Searching.{lowest_by_find}
use Rattle.turns.specs.Promises.{or_all, within, kept}
use Rattle.turns.proofs.kept.Goals as goal

-- the first position, or all of them
or-all : (n end : ℕ) (r : Option ℕ) → n ≡ unwrap_or r end → n ≡ or_all end r
or-all n end none e = e
or-all n end (some p) e = e

kept-is : (C T : List ℕ) (before n end : ℕ) (r : Option ℕ) → end ≡ within C T before → r ≡ lowest 0 end (differs C T) → n ≡ unwrap_or r end → n ≡ kept C T before
unfolding kept
kept-is C T before n end r e f u = rw (← e, ← f) (or-all n end r u)

pub returns : goal.returns
unfolding differs
returns c =
    let C = c.args.view.now.current.now in
    let T = c.args.view.now.target.now in
    let f = lowest_by_find _ _ _ c.find.result 0 c.min-end.result (differs C T) c.find.ensures.ran refl refl (λ x y q k. (search rules, search (rules, tests))) in
    kept-is C T c.args.view.now.complete c.unwrap_or.result c.min-end.result c.find.result (omega arith) f c.unwrap_or.ensures
