-- Each row of the three tables is what the definitions compute.
use mathlib.Core.Path.{◌≡◌, refl}
use mathlib.Core.List.{map}
use Rattle.scope.specs.Words.{◌∈◌, count, same_list, seek, lowest, highest, holds, first_of, latest_of}
use Rattle.scope.specs.Machine.{words_of}
use Rattle.scope.specs.Rules.{differs, wants_top, extra, extra_at, gives_for, giver, can_be_set_right, needs_copy, out_of_reach, counting_stops, safe_to_bury, load, store, counted, rule_a, rule_b, rule_c, rule_d, rule_e, rule_f, shrink_plan, rule_x, may_push, store_unless_push, rule_u, rule_v, rule_w, grow_plan}
use Rattle.scope.specs.Shuffle.{perform, loop, shrink, grow, finish, run_from, shuffle}
use Rattle.scope.specs.Replay.{replay_from, replay}
use Rattle.scope.specs.Cases.{Row, Telling, Judgement, outcome, table, tellings, judgements}

-- Cases A to L: result, verdict and gas of every row, in one statement.
pub cases-hold : map (λ (r : Row). outcome r.job r.start) table ≡ map (λ (r : Row). r.expected) table
unfolding ◌∈◌ count same_list seek lowest highest holds first_of latest_of words_of differs wants_top extra extra_at gives_for giver can_be_set_right needs_copy out_of_reach counting_stops safe_to_bury load store counted rule_a rule_b rule_c rule_d rule_e rule_f shrink_plan rule_x may_push store_unless_push rule_u rule_v rule_w grow_plan perform loop shrink grow finish run_from shuffle replay_from replay
cases-hold = refl

-- and the jobs that tell the rules' orders and limits apart
pub tellings-hold : map (λ (r : Telling). outcome r.job r.start) tellings ≡ map (λ (r : Telling). r.expected) tellings
unfolding ◌∈◌ count same_list seek lowest highest holds first_of latest_of words_of differs wants_top extra extra_at gives_for giver can_be_set_right needs_copy out_of_reach counting_stops safe_to_bury load store counted rule_a rule_b rule_c rule_d rule_e rule_f shrink_plan rule_x may_push store_unless_push rule_u rule_v rule_w grow_plan perform loop shrink grow finish run_from shuffle replay_from replay
tellings-hold = refl

-- and a list for each verdict of the checker
pub judgements-hold : map (λ (r : Judgement). replay r.job r.start r.words) judgements ≡ map (λ (r : Judgement). r.expected) judgements
unfolding ◌∈◌ same_list replay_from replay
judgements-hold = refl
