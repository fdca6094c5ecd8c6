use Rattle.std.proofs.Common.{arith}
use Rattle.std.proofs.lemmas.Grind.{common_steps}
use Rattle.scope.specs.Tracked.{load_step}
use Rattle.stack.proofs.Laws.{laid_fifo}
use Rattle.tracked_state.proofs.TrackedState.load.Goals as goal

pub returns-in-Err : goal.returns-in-Err
unfolding load_step
returns-in-Err c = record {
  code = grind (arith, common_steps);
  op = grind (arith, common_steps);
  state = grind (arith, common_steps);
  words = grind (arith, common_steps);
  array = grind (arith, laid_fifo);
}
