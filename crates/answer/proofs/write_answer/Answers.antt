-- The words say operations, the lines are measured, and the two parts of the text are laid one after the other.
use Rattle.std.proofs.Common.{ℕ, rules, arith, sym, ◌∙◌}
use Rattle.std.proofs.lemmas.List.{length-replicate}
use Rattle.answer.proofs.Pieces.{too_many, no-operations, does-not-fit, was-answered}
use Rattle.answer.proofs.write_answer.Goals as goal

pub returns-then-words-gt8192 : goal.returns-then-words-gt8192
returns-then-words-gt8192 c = search (too_many, rules)

pub returns-in_default : goal.returns-in_default
returns-in_default c = search (no-operations, rules)

pub returns-then-not-fits : goal.returns-then-not-fits
returns-then-not-fits c = does-not-fit _ _ _ (omega arith) c.in-Some.lines (sym c.in-Some.is ∙ c.measure.ensures.all) c.in-Some.ensures.few.1 _ _ _ (length-replicate {A = ℕ} 160 0) c.put_first.ensures.lays _ c.fits.ensures c.if-not-fits.true

pub returns : goal.returns
returns c =
    let s = was-answered _ _ _ (omega arith) c.in-Some.lines (sym c.in-Some.is ∙ c.measure.ensures.all) c.in-Some.ensures.few.1 _ _ _ (length-replicate {A = ℕ} 160 0) c.put_first.ensures.lays _ c.fits.ensures c.if-not-fits.false _ _ _ _ _ (search rules) c.put.ensures.lays c.put_lines.ensures.lays in
    search (s, rules)
