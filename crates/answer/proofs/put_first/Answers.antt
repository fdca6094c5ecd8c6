-- One label after the other.
use Rattle.std.proofs.Common.{rules, codes}
use Rattle.printing.proofs.Laying.{then}
use Rattle.answer.proofs.Pieces.{label_after}
use Rattle.answer.proofs.put_first.Goals as goal

pub returns-clause-lays : goal.returns-clause-lays
returns-clause-lays c =
    let two = label_after (codes " shrink ") c.into-2.result c.label.ensures.lays c.label-2.ensures.lays in
    let run = label_after (codes " grow ") c.into-3.result two c.label-3.ensures.lays in
    let four = label_after (codes " ops ") c.args.ops run c.label-4.ensures.lays in
    let five = label_after (codes " slots ") c.into-4.result four c.label-5.ensures.lays in
    let sums = label_after (codes " gas ") c.args.gas five c.label-6.ensures.lays in
    let line = then sums c.put.ensures.lays in
    search (line, rules)
