-- Wrong shufflers and wrong checkers: each would break its promise on one of the runs worked by hand, whose outcome is computed.
use Prim.Native.Nat.{ℕ, ◌≤◌}
use native.Mathlib.Omega.{arith}
use mathlib.Core.Path.{◌≡◌, refl, sym, ap, ◌∙◌}
use mathlib.Core.Logic.{◌≢◌}
use mathlib.Core.List.{List, [], ◌∷◌}
use lib.ListN.{get_or, take}
use Rattle.scope.specs.Words.{◌∈◌, count, same_list, seek, lowest, highest, holds, first_of, latest_of}
use Rattle.scope.specs.Machine.{words_of}
use Rattle.scope.specs.Rules.{differs, wants_top, extra, extra_at, gives_for, giver, can_be_set_right, needs_copy, out_of_reach, counting_stops, safe_to_bury, load, store, counted, rule_a, rule_b, rule_c, rule_d, rule_e, rule_f, shrink_plan, rule_x, may_push, store_unless_push, rule_u, rule_v, rule_w, grow_plan}
use Rattle.scope.specs.Shuffle.{perform, loop, shrink, grow, finish, run_from, shuffle}
use Rattle.scope.specs.Replay.{replay_from, replay}
use Rattle.scope.specs.Once.{Lent, Seen, shuffle_due, SeenVerdict, check_due}
use Rattle.theorems.specs.Outcomes.{Shuffled, Shuffles, Checked, Checks, case_b, case_e, case_f, case_k, none_from}

-- ---- what is due in the cases, as far as it is needed

record Known : Type 0 where
  code : ℕ
  shrink_ticks : ℕ
  grow_ticks : ℕ
  ops : ℕ
  words : List ℕ

abbrev known : Lent → Known
known e = record {
  code = (shuffle_due e).code;
  shrink_ticks = (shuffle_due e).shrink_ticks;
  grow_ticks = (shuffle_due e).grow_ticks;
  ops = (shuffle_due e).ops;
  words = take 2 (shuffle_due e).words;
}

case-b : known case_b ≡ record { code = 0; shrink_ticks = 0; grow_ticks = 0; ops = 1; words = 3 ∷ 0 ∷ [] }
unfolding ◌∈◌ count same_list seek lowest highest holds first_of latest_of words_of differs wants_top extra extra_at gives_for giver can_be_set_right needs_copy out_of_reach counting_stops safe_to_bury load store counted rule_a rule_b rule_c rule_d rule_e rule_f shrink_plan rule_x may_push store_unless_push rule_u rule_v rule_w grow_plan perform loop shrink grow finish run_from shuffle shuffle_due
case-b = refl

case-e : known case_e ≡ record { code = 0; shrink_ticks = 0; grow_ticks = 1; ops = 1; words = 2 ∷ 0 ∷ [] }
unfolding ◌∈◌ count same_list seek lowest highest holds first_of latest_of words_of differs wants_top extra extra_at gives_for giver can_be_set_right needs_copy out_of_reach counting_stops safe_to_bury load store counted rule_a rule_b rule_c rule_d rule_e rule_f shrink_plan rule_x may_push store_unless_push rule_u rule_v rule_w grow_plan perform loop shrink grow finish run_from shuffle shuffle_due
case-e = refl

case-f : known case_f ≡ record { code = 0; shrink_ticks = 0; grow_ticks = 2; ops = 3; words = 1 ∷ 1 ∷ [] }
unfolding ◌∈◌ count same_list seek lowest highest holds first_of latest_of words_of differs wants_top extra extra_at gives_for giver can_be_set_right needs_copy out_of_reach counting_stops safe_to_bury load store counted rule_a rule_b rule_c rule_d rule_e rule_f shrink_plan rule_x may_push store_unless_push rule_u rule_v rule_w grow_plan perform loop shrink grow finish run_from shuffle shuffle_due
case-f = refl

case-k : known case_k ≡ record { code = 0; shrink_ticks = 1; grow_ticks = 5; ops = 6; words = 4 ∷ 0 ∷ [] }
unfolding ◌∈◌ count same_list seek lowest highest holds first_of latest_of words_of differs wants_top extra extra_at gives_for giver can_be_set_right needs_copy out_of_reach counting_stops safe_to_bury load store counted rule_a rule_b rule_c rule_d rule_e rule_f shrink_plan rule_x may_push store_unless_push rule_u rule_v rule_w grow_plan perform loop shrink grow finish run_from shuffle shuffle_due
case-k = refl

-- the checker on a list of no operations
check-a : (check_due (none_from [])).code ≡ 0
unfolding same_list replay_from replay check_due
check-a = refl

check-b : (check_due (none_from (7 ∷ []))).code ≡ 41
unfolding same_list replay_from replay check_due
check-b = refl

-- ---- a shuffler that keeps the promise

module _ (f : Lent → Shuffled) (keeps : (e : Lent) → Shuffles e (f e)) where
  code_in : (e : Lent) → (f e).answer.code ≡ (known e).code
  code_in e = ap (λ (x : Seen). x.code) (keeps e)

  ops-in : (e : Lent) → (f e).answer.ops ≡ (known e).ops
  ops-in e = ap (λ (x : Seen). x.ops) (keeps e)

  words-in : (e : Lent) → take 2 (f e).words ≡ (known e).words
  words-in e = ap (λ (x : Seen). take 2 x.words) (keeps e)

  -- does not refuse always (B)
  pub not-refusing-always : ((e : Lent) → (f e).answer.code ≢ 0) → ⊥
  not-refusing-always wrong = wrong case_b (code_in case_b ∙ ap (λ (x : Known). x.code) case-b)

  -- does not give one list always (B against E): not even the first record is always the same
  pub not-one-list-always : (words : List ℕ) → ((e : Lent) → take 2 (f e).words ≡ words) → ⊥
  not-one-list-always words wrong =
      let b = sym (wrong case_b) ∙ words-in case_b ∙ ap (λ (x : Known). x.words) case-b in
      let e = sym (wrong case_e) ∙ words-in case_e ∙ ap (λ (x : Known). x.words) case-e in
      omega (arith, ap (λ (l : List ℕ). get_or l 0 0) (sym b ∙ e))

  -- does not leave the words as they were lent (E)
  pub not-writing-nothing : ((e : Lent) → (f e).words ≡ e.words) → ⊥
  not-writing-nothing wrong =
      let e = sym (ap (take 2) (wrong case_e)) ∙ words-in case_e ∙ ap (λ (x : Known). x.words) case-e in
      omega (arith, ap (λ (l : List ℕ). get_or l 0 0) e)

  -- does not do one step and then claim success (F)
  pub not-one-step-and-success : ((e : Lent) → ((f e).answer.code ≡ 0) × ((f e).answer.ops ≤ 1)) → ⊥
  not-one-step-and-success wrong = omega (arith, (wrong case_f).1, ops-in case_f ∙ ap (λ (x : Known). x.ops) case-f)

  -- does not report ticks that it has invented (K): there are 1 and 5
  pub not-inventing-ticks : ((f case_k).answer.shrink_ticks ≡ 1) × ((f case_k).answer.grow_ticks ≡ 5)
  not-inventing-ticks = (
    ap (λ (x : Seen). x.shrink_ticks) (keeps case_k) ∙ ap (λ (x : Known). x.shrink_ticks) case-k,
    ap (λ (x : Seen). x.grow_ticks) (keeps case_k) ∙ ap (λ (x : Known). x.grow_ticks) case-k,
  )

-- ---- a checker that keeps the promise

module _ (g : Lent → Checked) (keeps : (e : Lent) → Checks e (g e)) where
  -- does not accept all (B, with no operation)
  pub not-accepting-all : ((e : Lent) → (g e).verdict.code ≡ 0) → ⊥
  not-accepting-all wrong =
      let e = none_from (7 ∷ []) in
      omega (arith, sym (wrong e) ∙ ap (λ (x : SeenVerdict). x.code) (keeps e) ∙ check-b)

  -- does not refuse all (A)
  pub not-refusing-all : ((e : Lent) → (g e).verdict.code ≢ 0) → ⊥
  not-refusing-all wrong = wrong (none_from []) (ap (λ (x : SeenVerdict). x.code) (keeps (none_from [])) ∙ check-a)
