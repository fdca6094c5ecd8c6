-- What the questions' answers say, in scope's words.
use Rattle.std.specs.Prelude.{ℕ, Bool, true, false, not, ◌&&◌, ◌||◌, List, [], length, eqb, if◌then◌else◌}
use Rattle.std.specs.Prelude.{Option, None as none, Result, Ok, Err}
use Rattle.scope.specs.declared.Refusal.{Refusal}
use Rattle.scope.specs.declared.Refusal.TheVariants.{Inside}
use Rattle.scope.specs.Words.{first_of, ◌∈◌, ◌at◌, ◌from◌}
use Rattle.scope.specs.Rules.{Asked, yes, no, outside, differs, giver, needs_copy, out_of_reach, may_push}
use Rattle.questions.specs.declared.View.{View}

-- the push test's answers
abbrev pub said : Asked → Result Bool Refusal
said yes = Ok true
said no = Ok false
said outside = Err Inside

-- the push test looks at the stack, the target, the spill list and the swap limit, and at nothing else of a job and a state
abbrev pub may_push_in : List ℕ → List ℕ → List ℕ → ℕ → Asked
may_push_in C T L S =
    may_push (record { S = S; D = 0; T = T; first = 0; slots = 0; room = 0 }) (record { C = C; c = 0; spilled = L; ops = [] })

-- the same of what a view shows, as an answer
abbrev pub push_test : View → Result Bool Refusal
push_test v = said (may_push_in v.current.now v.target.now v.spilled.now v.config.max_swap_depth)

-- (a): the target is complete, or has no use for a value from the completed positions up
abbrev pub unneeded : List ℕ → ℕ → ℕ → Bool
unneeded T c v = eqb c (length T) || not (v ∈ (T from c))

-- (u): the value at a position is wrong, and the right one is not among the top k
abbrev pub unavailable : List ℕ → List ℕ → ℕ → ℕ → Bool
unavailable C T k p = differs C T p && out_of_reach C T k p

-- where (x) finds the value for a position that is wrong
abbrev pub source_for : List ℕ → List ℕ → ℕ → ℕ → Option ℕ
source_for C T f p = if differs C T p then giver C T f p else none

-- where (v) finds the value for a position that needs another copy
abbrev pub copy_for : List ℕ → List ℕ → ℕ → ℕ → Option ℕ
copy_for C T b p = if needs_copy C T b p then first_of (T at p) C else none
