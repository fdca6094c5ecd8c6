-- The value is in the part where the first place is found, and the counts are compared.
use Rattle.std.proofs.Common.{◌≡◌, ◌∙◌, None as none, Some as some, rules}
use Rattle.questions.proofs.Copying.{copy-absent, copy-first}
use Rattle.questions.proofs.View.copy_for.Goals as goal

pub returns-in_err-first : goal.returns-in_err-first
returns-in_err-first c =
    let v = c.args.self.now in
    let gone : c.from_residual.result ≡ none = search rules in
    let lacks : c.find_first.result ≡ none = search rules in
    gone
    ∙ copy-absent v.current.now v.target.now c.part-available.result.now c.args.start.0 c.args.p.0 c.at-value.result
    c.find_first.result
    (search rules) (search rules) (search rules) lacks

pub returns : goal.returns
returns c =
    let v = c.args.self.now in
    let has : c.find_first.result ≡ some c.in_ok-first.first = search rules in
    c.then_some.ensures
    ∙ copy-first v.current.now v.target.now c.part-available.result.now c.args.start.0 c.args.p.0 c.at-value.result
    c.find_first.result (search rules) (search rules) (search rules)
    c.in_ok-first.first c.count_of-copies.result c.count_of-required.result c.part.result.now has (search rules) (search rules) (search rules)
