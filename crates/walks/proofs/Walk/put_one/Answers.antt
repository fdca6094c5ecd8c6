-- One text after the other.
use Rattle.std.proofs.Common.{rules}
use Rattle.printing.proofs.Laying.{then}
use Rattle.walks.proofs.Walk.put_one.Goals as goal

pub returns-clause-shown : goal.returns-clause-shown
returns-clause-shown c =
    let line = then (then c.put_turn.ensures.lays c.put_state.ensures.lays) c.put_filled.ensures.lays in search (line, rules)
