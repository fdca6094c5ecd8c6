-- The order of the rules: each return of a chain, from the rules before it that do not apply.
use Rattle.std.proofs.Common.{ℕ, ◌≡◌, List, Option, None as none, Some as some, Ok}
use Rattle.scope.specs.Rules.{rule_a, rule_b, rule_c, rule_d, rule_e, rule_f, rule_x, shrink_plan, grow_plan}
use Rattle.rules.specs.declared.Choice.{Choice}
use Rattle.rules.specs.declared.Choice.TheVariants.{Store}
use Rattle.rules.specs.Promises.{Chosen, Answer, ◌then◌, settling, settled, pushing}
use Rattle.rules.proofs.Stages.{some-here, some-next, raise}
use Rattle.rules.proofs.Popping.{f-store}
use Rattle.rules.proofs.Fetching.{as-grown}

-- ---- shrink

module _ (C T : List ℕ) (c S : ℕ) (a : Option Choice) (ra : (L : List ℕ) (S D : ℕ) → Chosen 1 C T L c S D rule_a (Ok a)) where
  pub shrink-a : (x : Choice) → a ≡ some x → (L : List ℕ) (D : ℕ) → Chosen 1 C T L c S D shrink_plan (Ok (some x))
  unfolding shrink_plan
  shrink-a x e L D = some-here (rule_b then rule_c then rule_d then rule_e then rule_f) x (ra L S D) e

  module _ (na : a ≡ none) (b : Option Choice) (rb : (L : List ℕ) (D : ℕ) → Chosen 0 C T L c S D rule_b (Ok b)) where
    pub shrink-b : (x : Choice) → b ≡ some x → (L : List ℕ) (D : ℕ) → Chosen 1 C T L c S D shrink_plan (Ok (some x))
    unfolding shrink_plan
    shrink-b x e L D = some-next (ra L S D) na (some-here (rule_c then rule_d then rule_e then rule_f) x (raise (rb L D)) e)

    module _ (nb : b ≡ none) (k : Option Choice) (rk : (L : List ℕ) (S D : ℕ) → Chosen 1 C T L c S D rule_c (Ok k)) where
      pub shrink-c : (x : Choice) → k ≡ some x → (L : List ℕ) (D : ℕ) → Chosen 1 C T L c S D shrink_plan (Ok (some x))
      unfolding shrink_plan
      shrink-c x e L D =
          some-next (ra L S D) na (some-next (raise (rb L D)) nb (some-here (rule_d then rule_e then rule_f) x (rk L S D) e))

      module _ (nk : k ≡ none) (d : Option Choice) (rd : (L : List ℕ) (D : ℕ) → Chosen 0 C T L c S D rule_d (Ok d)) where
        pub shrink-d : (x : Choice) → d ≡ some x → (L : List ℕ) (D : ℕ) → Chosen 1 C T L c S D shrink_plan (Ok (some x))
        unfolding shrink_plan
        shrink-d x e L D =
            some-next (ra L S D) na (some-next (raise (rb L D)) nb (some-next (rk L S D) nk
            (some-here (rule_e then rule_f) x (raise (rd L D)) e)))

        module _ (nd : d ≡ none) (m : Option Choice) (rm : (L : List ℕ) (S D : ℕ) → Chosen 1 C T L c S D rule_e (Ok m)) where
          pub shrink-e : (x : Choice) → m ≡ some x → (L : List ℕ) (D : ℕ) → Chosen 1 C T L c S D shrink_plan (Ok (some x))
          unfolding shrink_plan
          shrink-e x e L D =
              some-next (ra L S D) na (some-next (raise (rb L D)) nb (some-next (rk L S D) nk
              (some-next (raise (rd L D)) nd (some-here rule_f x (rm L S D) e))))

          pub shrink-f : m ≡ none → (L : List ℕ) (D : ℕ) → Chosen 1 C T L c S D shrink_plan (Ok (some Store))
          unfolding shrink_plan
          shrink-f e L D =
              some-next (ra L S D) na (some-next (raise (rb L D)) nb (some-next (rk L S D) nk
              (some-next (raise (rd L D)) nd (some-next (rm L S D) e (f-store C T L c S D)))))

-- ---- grow, with the values that are there

module _ (C T L : List ℕ) (c S D : ℕ) (a : Option Choice) (ra : (L : List ℕ) (S D : ℕ) → Chosen 1 C T L c S D rule_a (Ok a)) where
  pub settle-a : (x : Choice) → a ≡ some x → Chosen 1 C T L c S D settling (Ok (some x))
  settle-a x e = some-here (rule_b then rule_x then rule_c) x (ra L S D) e

  module _ (na : a ≡ none) (b : Option Choice) (rb : (L : List ℕ) (D : ℕ) → Chosen 0 C T L c S D rule_b (Ok b)) where
    pub settle-b : (x : Choice) → b ≡ some x → Chosen 1 C T L c S D settling (Ok (some x))
    settle-b x e = some-next (ra L S D) na (some-here (rule_x then rule_c) x (raise (rb L D)) e)

    module _ (nb : b ≡ none) (k : Option Choice) (rk : Chosen 0 C T L c S D rule_x (Ok k)) where
      pub settle-x : (x : Choice) → k ≡ some x → Chosen 1 C T L c S D settling (Ok (some x))
      settle-x x e = some-next (ra L S D) na (some-next (raise (rb L D)) nb (some-here rule_c x (raise rk) e))

      pub settle-c : (r : Option Choice) → k ≡ none → ((L : List ℕ) (S D : ℕ) → Chosen 1 C T L c S D rule_c (Ok r))
          → Chosen 1 C T L c S D settling (Ok r)
      settle-c r e rc = some-next (ra L S D) na (some-next (raise (rb L D)) nb (some-next (raise rk) e (rc L S D)))

-- ---- grow: what is there, then a push or a store

module _ (C T L : List ℕ) (c S D : ℕ) (s : Option Choice) (rs : Chosen 0 C T L c S D settled (Ok s)) where
  pub grow-settled : (x : Choice) → s ≡ some x → Chosen 0 C T L c S D grow_plan (Ok (some x))
  grow-settled x e = as-grown C T L c S D (Ok (some x)) (some-here pushing x rs e)

  pub grow-pushed : (r : Answer) → s ≡ none → Chosen 0 C T L c S D pushing r → Chosen 0 C T L c S D grow_plan r
  grow-pushed r e z = as-grown C T L c S D r (some-next rs e z)
