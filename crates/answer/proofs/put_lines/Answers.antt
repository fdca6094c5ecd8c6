-- Line by line.
use Rattle.std.proofs.Common.{rules, refl, ◌∙◌, sym}
use Rattle.answer.proofs.Words.{lines-start, lines-end, no-line, one-line}
use Rattle.answer.proofs.put_lines.Goals as goal

pub loop-item-init : goal.loop-item-init
loop-item-init c = (λ os e. let s = lines-start c.args.words.now c.args.text.now.out.now c.args.text.now.len os e in search (s, rules), refl)

pub loop-item-preserved-in-Some-read_op : goal.loop-item-preserved-in-Some-read_op
loop-item-preserved-in-Some-read_op c = (
  λ os e. one-line (c.loop-item.invariant.0 os e) _ _ c.in-Some.ensures.steps.0 c.in-Some-read_op.op _ _ _ _ _
      (sym c.in-Some-read_op.is ∙ c.read_op.ensures) c.into.ensures c.operation.ensures.lays c.put.ensures.lays,
  search rules,
)

pub loop-item-preserved : goal.loop-item-preserved
loop-item-preserved c = (λ os e. no-line (c.loop-item.invariant.0 os e) _ _ c.in-Some.ensures.steps.0 (search rules), c.loop-item.invariant.1)

pub returns-clause-lays : goal.returns-clause-lays
returns-clause-lays c os e = lines-end (c.loop-item.invariant.0 os e) c.in-None.ensures.steps.0.0
