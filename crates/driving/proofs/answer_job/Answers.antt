-- What was read is the job or none; what comes back is the result's, and its words are operations.
use Rattle.std.proofs.Common.{ℕ, rules, arith, sym, ◌∙◌, ◌≡◌, refl, length, length-take-le}
use Rattle.std.proofs.lemmas.List.{length-replicate}
use Rattle.driving.proofs.Driven.{no-job, ops-fit, answered}
use Rattle.driving.proofs.answer_job.Goals as goal

pub overflow_mul-words : goal.overflow_mul-words
overflow_mul-words c =
    let r = c.run_job-run.ensures in
    let long : length c.new-lists.result.spilled ≡ 4096 = rw c.new-lists.ensures.spilled (length-replicate {A = ℕ} 4096 0) in
    let fit = ops-fit _ c.in-Ok.job _ _ _ _ c.in-Ok.ensures.read long _ (length-replicate {A = ℕ} 8192 0) _ _ _ r.few r.seen in
    omega (arith, fit)

pub slice_bounds-words-end : goal.slice_bounds-words-end
slice_bounds-words-end c =
    let r = c.run_job-run.ensures in
    let long : length c.new-lists.result.spilled ≡ 4096 = rw c.new-lists.ensures.spilled (length-replicate {A = ℕ} 4096 0) in
    ops-fit _ c.in-Ok.job _ _ _ _ c.in-Ok.ensures.read long _ (length-replicate {A = ℕ} 8192 0) _ _ _ r.few r.seen

pub slice_bounds-write_answer-end : goal.slice_bounds-write_answer-end
slice_bounds-write_answer-end c =
    let r = c.run_job-run.ensures in
    let long : length c.new-lists.result.spilled ≡ 4096 = rw c.new-lists.ensures.spilled (length-replicate {A = ℕ} 4096 0) in
    let fit = ops-fit _ c.in-Ok.job _ _ _ _ c.in-Ok.ensures.read long _ (length-replicate {A = ℕ} 8192 0) _ _ _ r.few r.seen in
    sym (length-take-le _ _ fit)

pub returns-in-Ok : goal.returns-in-Ok
returns-in-Ok c =
    let r = c.run_job-run.ensures in
    let long : length c.new-lists.result.spilled ≡ 4096 = rw c.new-lists.ensures.spilled (length-replicate {A = ℕ} 4096 0) in
    let line = answered _ c.in-Ok.job _ _ _ _ c.in-Ok.ensures.read long _ (length-replicate {A = ℕ} 8192 0) _ _ _ r.few r.seen c.args.out.now (search rules) in
    c.write_answer.ensures ∙ (rw c.numbers_of.ensures line)

pub returns-in-Err : goal.returns-in-Err
returns-in-Err c = c.write_answer-in-Err.ensures ∙ (rw c.code.ensures (no-job _ _ _ _ _ _ c.in-Err.ensures.read _ _ refl))
