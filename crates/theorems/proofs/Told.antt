-- What the code's own clauses say is what the statements speak of: of the Rust answer and verdict by `told_by` and `found_by`. The exports'
-- proofs say it of C's.
use Rattle.std.proofs.Common.{ℕ, ◌≡◌, List}
use Rattle.scope.specs.Once.{Lent, shuffle_due, check_due}
use Rattle.shuffler.specs.declared.Answer.{Answer}
use Rattle.shuffler.specs.Promises.{seen_in}
use Rattle.replay.specs.declared.Verdict.{Verdict}
use Rattle.replay.specs.Promises.{seen}
use Rattle.theorems.specs.Outcomes.{told_by, Shuffles, found_by, Checks}

-- the promise of `shuffle`, of `run` and of the entry
pub shuffle-told : (e : Lent) (r : Answer) (spill words : List ℕ) → seen_in r spill words ≡ shuffle_due e
    → Shuffles e (record { answer = told_by r; spill = spill; words = words })
shuffle-told e r spill words p = p

-- the promise of `check`
pub check-found : (e : Lent) (v : Verdict) (spill : List ℕ) → seen v spill ≡ check_due e
    → Checks e (record { verdict = found_by v; spill = spill })
check-found e v spill p = p
