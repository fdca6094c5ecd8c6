-- What is counted, with what is left, is the whole.
use Rattle.std.proofs.Common.{◌≡◌, ◌≤◌, ◌+◌, ◌*◌, length}
use Rattle.reader.specs.Promises.{left}
use Rattle.answer.specs.Promises.{ops_in, measured}
use Rattle.answer.proofs.Words.{said_all, counted}
use Rattle.answer.proofs.measure.Given as goal

abbrev pub invariant-loop-item : goal.invariant-loop-item
invariant-loop-item l =
    (counted l.len l.gas (said_all (left l.item-iterator)) ≡ measured (ops_in l.words))
    × (l.len + 54 * length (left l.item-iterator) ≤ 54 * length l.words) × (l.gas + 6 * length (left l.item-iterator) ≤ 6 * length l.words)
