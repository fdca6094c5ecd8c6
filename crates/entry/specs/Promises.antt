-- What the entry promises: what the shuffle by value does, of a state that is lent.
use Rattle.std.specs.Prelude.{ℕ, ◌≡◌, List}
use Rattle.scope.specs.Once.{Lent, shuffle_due}
use Rattle.tracked_state.specs.declared.TrackedState.{TrackedState}
use Rattle.tracked_state.specs.Promises.{tracked_of}
use Rattle.shuffler.specs.declared.Answer.{Answer}
use Rattle.shuffler.specs.Promises.{seen_in, state_due, KeptIfRefused}

-- With e lent: the answer and every word of the two buffers are what is due, and so is the state after the call; where codes 1 to 5 refuse,
-- it is the state before the call, every word of it.
pub record Entered (e : Lent) (before after : TrackedState) (r : Answer) (spill words : List ℕ) : Type 0 where
  pub answer : seen_in r spill words ≡ shuffle_due e
  pub state : tracked_of after ≡ state_due e
  pub kept : KeptIfRefused e before after
