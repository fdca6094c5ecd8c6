-- A promise that is one equation determines what is seen of an outcome.
use mathlib.Core.Path.{◌≡◌, sym, ◌∙◌}
use Rattle.scope.specs.Once.{Promise, Once}

pub determined : {Lent Out Seen : Type 0} (seen : Out → Seen) (due : Lent → Seen) → Once seen due
determined seen due lent a b p q = p ∙ sym q

-- A promise that says it field by field, or says more, need only imply the equation.
pub determined-by : {Lent Out Seen : Type 0} (Keeps : Lent → Out → Type 0) (seen : Out → Seen) (due : Lent → Seen)
    → ((lent : Lent) (out : Out) → Keeps lent out → Promise seen due lent out)
    → (lent : Lent) (a b : Out) → Keeps lent a → Keeps lent b → seen a ≡ seen b
determined-by Keeps seen due implies lent a b p q = determined seen due lent a b (implies lent a p) (implies lent b q)
