-- How a choice's promise goes through a chain of rules.
use Rattle.std.proofs.Common.{ℕ, ◌≡◌, List, length, Option, None as none, Some as some, Ok, refl, sym, ap, subst, ◌∙◌, arith}
use Rattle.scope.specs.Rules.{Job, State, Plan, ◌▹◌}
use Rattle.rules.specs.declared.Choice.{Choice}
use Rattle.rules.specs.declared.Choice.TheVariants.{Pop, Swap, SwapPop, Swaps, Store, Load, Dup}
use Rattle.rules.specs.Promises.{Chosen, Answer, plan_of, job, state, ◌then◌}

-- what a choice writes, a later rule does not change
applied : (first m : ℕ) (x : Choice) (q : Plan) → (plan_of first m x ▹ q) ≡ plan_of first m x
applied first m Pop q = refl
applied first m (Swap d) q = refl
applied first m (SwapPop d) q = refl
applied first m (Swaps k p) q = refl
applied first m Store q = refl
applied first m (Load i) q = refl
applied first m (Dup d) q = refl

-- ---- a chain: the first rule applies, or it passes and the rest of the chain decides

module _ {h : ℕ} {C T L : List ℕ} {c S D : ℕ} where
  here : {p : Job → State → Plan} (q : Job → State → Plan) {a : Answer} (x : Choice)
      → Chosen h C T L c S D p a → a ≡ Ok (some x) → Chosen h C T L c S D (p then q) (Ok (some x))
  here {p} q {a} x is e =
      let y : Chosen h C T L c S D p (Ok (some x)) = subst (λ r. Chosen h C T L c S D p r) e is in
      record {
        is = λ first slots room os.
            sym (applied first (length L) x (q (job S D T first slots room) (state C c L os)))
            ∙ ap (λ (w : Plan). w ▹ q (job S D T first slots room) (state C c L os)) (y.is first slots room os);
        fit = y.fit;
      }

  next : {p q : Job → State → Plan} {a r : Answer}
      → Chosen h C T L c S D p a → a ≡ Ok none → Chosen h C T L c S D q r → Chosen h C T L c S D (p then q) r
  next {p} {q} {a} {r} is e z =
      let y : Chosen h C T L c S D p (Ok none) = subst (λ r. Chosen h C T L c S D p r) e is in
      record {
        is = λ first slots room os.
            z.is first slots room os
            ∙ ap (λ (w : Plan). w ▹ q (job S D T first slots room) (state C c L os)) (y.is first slots room os);
        fit = z.fit;
      }

  -- the same of a rule that never refuses
  pub some-here : {p : Job → State → Plan} (q : Job → State → Plan) {a : Option Choice} (x : Choice)
      → Chosen h C T L c S D p (Ok a) → a ≡ some x → Chosen h C T L c S D (p then q) (Ok (some x))
  some-here q x is e = here q x is (ap (λ (o : Option Choice). Ok o) e)

  pub some-next : {p q : Job → State → Plan} {a : Option Choice} {r : Answer}
      → Chosen h C T L c S D p (Ok a) → a ≡ none → Chosen h C T L c S D q r → Chosen h C T L c S D (p then q) r
  some-next is e z = next is (ap (λ (o : Option Choice). Ok o) e) z

  -- a choice that can be performed at any height can at least at h
  pub raise : {p : Job → State → Plan} {a : Answer} → Chosen 0 C T L c S D p a → Chosen h C T L c S D p a
  raise x = record { is = x.is; fit = λ _. x.fit (omega arith) }
