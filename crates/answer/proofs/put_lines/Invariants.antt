-- What is left, laid after what is there, gives the whole.
use Rattle.std.proofs.Common.{◌≡◌, List, Some}
use Rattle.scope.specs.declared.Op.{Op}
use Rattle.scope.specs.JobFile.{op_lines}
use Rattle.reader.specs.Promises.{left}
use Rattle.answer.specs.Promises.{ops_in}
use Rattle.answer.proofs.Words.{Still}
use Rattle.answer.proofs.put_lines.Given as goal

abbrev pub invariant-loop-item : goal.invariant-loop-item
invariant-loop-item l =
    ((os : List Op) → ops_in l.words ≡ Some os
    → Still l.initial.text.out.now l.initial.text.len (op_lines os) l.text.out.now l.text.len (left l.item-iterator))
    × (l.text.out.ghost_name ≡ l.initial.text.out.ghost_name)
