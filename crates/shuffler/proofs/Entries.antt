-- The returns of the entries: refused by codes 1 to 5, or the run's own end, seen as scope sees it.
use Prim.Native.Nat.{ℕ, ◌-◌, ◌≤◌}
use native.Mathlib.Omega.{arith}
use mathlib.Core.Path.{◌≡◌, refl, sym, ap, ◌∙◌}
use mathlib.Core.List.{List, []}
use borrow.Author.Tests.{le-ltb}
use lib.ListN.{length, drop, length-drop}
use Rattle.std.proofs.Common.{Result, Ok, drop_of_length-le}
use Rattle.scope.specs.declared.Refusal.{Refusal}
use Rattle.scope.specs.Codes.{code, number_of}
use Rattle.scope.specs.Words.{stack_of}
use Rattle.scope.specs.Stack.{fifo, kept, Left, made_from}
use Rattle.scope.specs.Shuffle.{job_code, code_of, run_from}
use Rattle.scope.specs.Once.{Lent, job_lent, start_lent, shuffle_due}
use Rattle.scope.proofs.JobCodes.{Passes, passes}
use Rattle.scope.proofs.Loops.{if-not}
use Rattle.operations.specs.declared.ScheduleConfig.{ScheduleConfig}
use Rattle.stack.specs.declared.EvmStack.{EvmStack}
use Rattle.stack.specs.Promises.{stack_in}
use Rattle.tracked_state.specs.declared.TrackedState.{TrackedState}
use Rattle.tracked_state.specs.Promises.{tracked_of}
use Rattle.shuffler.specs.declared.Answer.{Answer}
use Rattle.shuffler.specs.declared.Ended.{Ended}
use Rattle.shuffler.specs.Held.{Holding}
use Rattle.shuffler.specs.Runs.{About, Tells}
use Rattle.shuffler.specs.Entry.{begins}
use Rattle.shuffler.specs.Promises.{seen_in, answer_in, stopped_by, lent_plain, lent_state, state_due, Refuses}
use Rattle.shuffler.proofs.Picks.{number-some, done-is}
use Rattle.shuffler.proofs.Entry.{entry_done, entry-refused, state-done}

-- what is due to a job that codes 1 to 5 refuse
pub seen-refused : (e : Lent) (r : ℕ) (a : Answer) → r ≡ code_of (job_lent e) (start_lent e) → (r ≡ 0 → ⊥) → Refuses r a → seen_in a e.spill e.words ≡ shuffle_due e
seen-refused e r a is ne f = rw (f.is, f.shrink_ticks, f.grow_ticks, f.ops, f.slots, f.stack) (entry-refused e r is ne)

-- a run from what is held at the start to its end: what is seen of it, and what it leaves
module _ (e : Lent) (config : ScheduleConfig) (swaps : e.S ≡ config.max_swap_depth) (dups : e.D ≡ config.max_dup_depth)
    (z : 0 ≡ code_of (job_lent e) (start_lent e)) (fits : Passes e.S e.stack.height (length e.target) e.filled (length e.spill) e.first → e.stack ≡ stack_of e.stack.values)
    (x y : Holding) (starts : x ≡ begins e) (end : Ended)
    (told : Tells e.target config x (code end.outcome) end.shrink_ticks end.grow_ticks y run_from) where
  ok : Passes e.S e.stack.height (length e.target) e.filled (length e.spill) e.first
  ok = passes e.S e.stack.height (length e.target) e.filled (length e.spill) e.first (sym z)

  about : About e.target config e
  about = record { target = refl; swaps = swaps; dups = dups }

  -- what is lent again holds what the run left in it
  pub seen-done : end.slots ≡ y.tracked.filled → end.ops ≡ y.tracked.written - e.written
      → (stack : EvmStack) (spill words : List ℕ) → stack_in stack ≡ y.tracked.stack → spill ≡ y.spill → words ≡ y.words
      → seen_in (answer_in end stack) spill words ≡ shuffle_due e
  seen-done slots ops stack spill words is-stack is-spill is-words =
      rw (slots, ops, is-stack, is-spill, is-words)
      (entry_done e ok (fits ok) (sym z) e.target config about (code end.outcome) end.shrink_ticks end.grow_ticks y (rw starts at told))

  pub state-after : y.tracked.first ≡ e.first → record { stack = y.tracked.stack; first = e.first; filled = y.tracked.filled; written = y.tracked.written } ≡ state_due e
  unfolding state_due
  state-after first =
      let is : y.tracked ≡ state_due e =
      rw (← z) (state-done e ok (fits ok) (sym z) e.target config about (code end.outcome) end.shrink_ticks end.grow_ticks y (rw starts at told)) in
      ap (λ (f : ℕ). record { stack = y.tracked.stack; first = f; filled = y.tracked.filled; written = y.tracked.written }) (sym first) ∙ is

-- a stack as high as it says
pub stands : (s : EvmStack) → length s.stack_raw ≡ 1024 → s.stack_len ≤ 1024 → stack_in s ≡ stack_of (fifo s.stack_raw s.stack_len)
unfolding fifo
stands s full low =
    let n : length (drop (length s.stack_raw - s.stack_len) s.stack_raw) ≡ s.stack_len = simp length-drop (omega (arith, low)) in
    rw n

-- an array of which nothing is kept
none-kept : (raw : List ℕ) → kept raw 0 ≡ stack_of []
unfolding fifo
none-kept raw = let n : drop (length raw - 0) raw ≡ [] = drop_of_length-le raw (omega arith) in rw n

-- ---- over plain slices, of which each is what it was lent, and the checks have answered
module _ (start spill : List ℕ) (filled first : ℕ) (target : List ℕ) (config : ScheduleConfig) (words : List ℕ) where
  abbrev lent : Lent
  lent = lent_plain start spill filled first target config words

  abbrev checked : ℕ
  checked = job_code config.max_swap_depth (length start) (length target) filled (length spill) first

  pub shuffle-refused : (r : Refusal) (e : Ended) (raw : List ℕ) → e ≡ stopped_by r → number_of r ≡ checked
      → seen_in (answer_in e (record { stack_raw = raw; stack_len = 0 })) spill words ≡ shuffle_due lent
  shuffle-refused r e raw q is =
      rw q
      (seen-refused lent (number_of r) (answer_in (stopped_by r) (record { stack_raw = raw; stack_len = 0 })) is (number-some r)
      (record { is = refl; shrink_ticks = refl; grow_ticks = refl; ops = refl; slots = refl; stack = none-kept raw }))

  module _ (z : 0 ≡ checked) where
    low : length start ≤ 1024
    low = (passes config.max_swap_depth (length start) (length target) filled (length spill) first (sym z)).start

    made : made_from start ≡ record { code = 0; stack = stack_of start }
    unfolding made_from
    made = rw (le-ltb 1024 (length start) low)

    pub lays : (r : Result Unit Refusal) → code r ≡ (made_from start).code → r ≡ Ok tt
    lays r is = done-is r (is ∙ ap (λ (l : Left). l.code) made)

    module _ (stack : EvmStack) (laid : stack_in stack ≡ (made_from start).stack) where
      pub shuffle-starts : stack_in stack ≡ stack_of start
      shuffle-starts = laid ∙ ap (λ (l : Left). l.stack) made

-- ---- of a tracked state
module _ (s : TrackedState) (spill target : List ℕ) (config : ScheduleConfig) (words : List ℕ) where
  abbrev standing : Lent
  standing = lent_state s spill target config words

  pub state-refused : (r : Refusal) (e : Ended) (stack : EvmStack) → e ≡ stopped_by r → stack_in stack ≡ stack_of []
      → number_of r ≡ job_code config.max_swap_depth s.stack.stack_len (length target) s.filled (length spill) s.first
      → seen_in (answer_in e stack) spill words ≡ shuffle_due standing
  state-refused r e stack q none is =
      rw q
      (seen-refused standing (number_of r) (answer_in (stopped_by r) stack) is (number-some r)
      (record { is = refl; shrink_ticks = refl; grow_ticks = refl; ops = refl; slots = refl; stack = none }))

  pub state-kept : (r : Refusal) → number_of r ≡ job_code config.max_swap_depth s.stack.stack_len (length target) s.filled (length spill) s.first → tracked_of s ≡ state_due standing
  unfolding state_due
  state-kept r is = sym (if-not (code_of (job_lent standing) (start_lent standing)) _ (tracked_of s) (λ z. number-some r (is ∙ z)))
