-- What the push test says.
use Rattle.std.proofs.Common.{◌≡◌, ◌∙◌, sym, true, false, Ok, Err, rules}
use Rattle.rules.specs.Promises.{always}
use Rattle.rules.proofs.Fetching.{push-yes, push-no, push-out}
use Rattle.rules.proofs.grow.push_or_store.Goals as goal

pub returns-in_err-can_push : goal.returns-in_err-can_push
returns-in_err-can_push c =
    let v = c.args.view.now in
    let said : c.can_push.result ≡ Err c.in_err-can_push.field-0.0 = search rules in
    let gone : c.from_residual.result ≡ Err c.in_err-can_push.field-0.0 = search rules in
    rw gone (push-out v.current.now v.target.now v.spilled.now v.complete v.config.max_swap_depth v.config.max_dup_depth
    c.in_err-can_push.field-0.0 (sym c.can_push.ensures ∙ said))

pub returns-then-branch : goal.returns-then-branch
returns-then-branch c =
    let v = c.args.view.now in
    let said : c.can_push.result ≡ Ok true = search rules in
    push-yes v.current.now v.target.now v.spilled.now v.complete v.config.max_swap_depth v.config.max_dup_depth
    (always c.get_needed.result) (sym c.can_push.ensures ∙ said) c.get_needed.ensures

pub returns-else-branch : goal.returns-else-branch
returns-else-branch c =
    let v = c.args.view.now in
    let said : c.can_push.result ≡ Ok false = search rules in
    push-no v.current.now v.target.now v.spilled.now v.complete v.config.max_swap_depth v.config.max_dup_depth (sym c.can_push.ensures ∙ said)
