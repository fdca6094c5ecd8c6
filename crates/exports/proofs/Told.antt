-- What is seen of C's answer and verdict is what is seen of the Rust ones, whose outcome tells the same code; so the statements of the
-- theorems hold of what C gets.
use Rattle.std.proofs.Common.{ℕ, ◌≡◌, refl, List, Result}
use Rattle.scope.specs.declared.Refusal.{Refusal}
use Rattle.scope.specs.Codes.{code}
use Rattle.shuffler.specs.declared.Answer.{Answer as Rust}
use Rattle.shuffler.specs.Promises as told
use Rattle.replay.specs.declared.Fault.{Fault}
use Rattle.replay.specs.Faults.{code_of}
use Rattle.replay.specs.Promises as found
use Rattle.exports.specs.declared.Answer.{Answer}
use Rattle.exports.specs.declared.Verdict.{Verdict}
use Rattle.exports.specs.Promises.{seen_in, seen}

-- the Rust answer with an outcome, and all else as C has it
abbrev pub rust_answer : Answer → Result (Unit {0}) Refusal → Rust
rust_answer r outcome =
    record { outcome = outcome; shrink_ticks = r.shrink_ticks; grow_ticks = r.grow_ticks; ops = r.ops; slots = r.slots; stack = r.stack }

pub answer-told : (r : Answer) (outcome : Result (Unit {0}) Refusal) → r.code ≡ code outcome → (spill words : List ℕ)
    → seen_in r spill words ≡ told.seen_in (rust_answer r outcome) spill words
answer-told r outcome e spill words = rw e refl

pub verdict-told : (v : Verdict) (outcome : Result (Unit {0}) Fault) → v.code ≡ code_of outcome → (spill : List ℕ)
    → seen v spill ≡ found.seen (record { outcome = outcome; index = v.index; gas = v.gas; filled = v.filled }) spill
verdict-told v outcome e spill = rw e refl
