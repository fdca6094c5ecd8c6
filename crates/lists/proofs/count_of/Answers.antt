-- A turn counts one block.
use Rattle.std.proofs.Common.{rules}
use Rattle.scope.specs.Words.{count}
use Rattle.lists.proofs.Blocks.{counted_on}
use Rattle.lists.proofs.count_of.Goals as goal

pub loop-block-preserved : goal.loop-block-preserved
loop-block-preserved c =
    let whole = count c.args.v c.args.s.now in
    let next = c.in-Some in
    let on = counted_on c.args.v c.loop-block.n c.few.result whole 1024 c.loop-block.rest.now next.block.now next.after.now in
    (on (search rules) (search rules) (search rules) (search rules), search rules)
