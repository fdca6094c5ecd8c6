-- Storing the words that are left into the buffer as it is gives the whole.
use Prim.Native.Nat.{◌+◌, ◌-◌, ◌*◌, ◌≤◌}
use mathlib.Core.Path.{◌≡◌}
use lib.ListN.{length}
use lib.Seq.{sets}
use Rattle.scope.specs.JobFile.{words_at}
use Rattle.job.proofs.read_words.Given as goal

abbrev pub invariant-loop-i : goal.invariant-loop-i
invariant-loop-i l =
    (l.i ≤ l.count) × (length l.words ≡ length l.initial.words)
    × (sets l.words l.i (words_at l.bytes (l.at + 4 * l.i) (l.count - l.i))
    ≡ sets l.initial.words 0 (words_at l.bytes l.at l.count))
