-- Record by record.
use Rattle.std.proofs.Common.{rules, arith, ap, sym, ◌∙◌, length}
use Rattle.answer.specs.Promises.{measured}
use Rattle.answer.proofs.Words.{odd_words, even-counted, length-records, counted-end, counted-none, counted-more, little}
use Rattle.answer.proofs.measure.Goals as goal

pub returns-then-words-ne0-clause-all : goal.returns-then-words-ne0-clause-all
returns-then-words-ne0-clause-all c = ap measured (odd_words c.args.words.now c.if-words-ne0.true)

pub loop-item-init : goal.loop-item-init
loop-item-init c =
    let n = length-records c.args.words.now in
    let e = even-counted c.args.words.now c.if-words-ne0.false in
    search (e, n, rules)

pub returns-in_err-op-clause-all : goal.returns-in_err-op-clause-all
returns-in_err-op-clause-all c =
    c.from_residual.ensures
    ∙ counted-none _ _ _ _ c.loop-item.invariant.0 _ _ c.in-Some.ensures.steps.0 (sym c.in_err-op.was ∙ c.read_op.ensures)

pub loop-item-preserved : goal.loop-item-preserved
loop-item-preserved c =
    let n = ap length c.in-Some.ensures.steps.0 in
    (search (counted-more, rules), omega (arith, n, c.printed_len.ensures.1), omega (arith, n, c.gas-gas.ensures, little c.in_ok-op.op))

pub returns-clause-all : goal.returns-clause-all
returns-clause-all c = counted-end _ _ _ _ c.loop-item.invariant.0 c.in-None.ensures.steps.0.0
