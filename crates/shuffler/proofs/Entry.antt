-- The two ends of an entry: refused before the run, or the run's own end.
use Prim.Native.Nat.{ℕ, ◌+◌, ◌-◌, ◌*◌}
use native.Mathlib.Omega.{arith}
use mathlib.Core.Path.{◌≡◌, refl, sym, ap, ◌∙◌}
use mathlib.Core.List.{List, []}
use lib.ListN.{length, take, take-append-drop}
use lib.Seq.{length-take-le}
use Rattle.scope.specs.Words.{Stack, stack_of}
use Rattle.scope.specs.Machine.{words_of}
use Rattle.scope.specs.Shuffle.{code_of, result, started, run_from, shuffle}
use Rattle.scope.specs.Tracked.{Tracked}
use Rattle.scope.specs.Once.{Lent, job_lent, start_lent, shuffle_due}
use Rattle.scope.proofs.JobCodes.{Passes}
use Rattle.scope.proofs.Loops.{if-not}
use Rattle.shuffler.specs.Held.{Holding, Held}
use Rattle.operations.specs.declared.ScheduleConfig.{ScheduleConfig}
use Rattle.shuffler.specs.Runs.{About, Tells}
use Rattle.shuffler.specs.Entry.{begins}

-- a tracked stack by its fields
tracked-is : (t : Tracked) (s : Stack) (first filled written : ℕ) → t.stack ≡ s → t.first ≡ first → t.filled ≡ filled → t.written ≡ written
    → t ≡ record { stack = s; first = first; filled = filled; written = written }
tracked-is t s first filled written a b c d = rw (← a, ← b, ← c, ← d)

-- ---- the start is held
module _ (e : Lent) (ok : Passes e.S e.stack.height (length e.target) e.filled (length e.spill) e.first) (fits : e.stack ≡ stack_of e.stack.values) where
  begin-held : Held e (begins e) (started e.stack.values (take e.filled e.spill))
  unfolding words_of
  begin-held =
      let n : length (take e.filled e.spill) ≡ e.filled = length-take-le e.filled e.spill ok.stored in
      record {
        stack = fits;
        low = omega (arith, ok.start, ap (λ (x : Stack). x.height) fits);
        complete = refl;
        first = refl;
        numbers = ok.numbers;
        filled = sym n;
        slots = omega (arith, ok.stored);
        spill = rw n (sym (take-append-drop e.filled e.spill));
        written = omega arith;
        records = omega arith;
        words = sym (take-append-drop (2 * e.written) e.words);
      }

  -- a run to its end is what is due
  pub entry_done : code_of (job_lent e) (start_lent e) ≡ 0 → (T : List ℕ) (config : ScheduleConfig) → About T config e → (r a b : ℕ) (y : Holding) → Tells T config (begins e) r a b y run_from
      → record { code = r; shrink_ticks = a; grow_ticks = b; ops = y.tracked.written - e.written; slots = y.tracked.filled; stack = y.tracked.stack; spill = y.spill; words = y.words }
      ≡ shuffle_due e
  unfolding shuffle_due shuffle
  entry_done z T config about r a b y t =
      let s = started e.stack.values (take e.filled e.spill) in
      let x = t.tells e s about begin-held in
      let h = x.held in
      let n : y.tracked.written - e.written ≡ length (run_from (job_lent e) s).ops = omega (arith, h.written) in
      rw (z, n, x.code, x.shrink_ticks, x.grow_ticks, h.filled, h.stack, h.spill, h.words)

  -- and so is what is held then
  pub state-done : code_of (job_lent e) (start_lent e) ≡ 0 → (T : List ℕ) (config : ScheduleConfig) → About T config e → (r a b : ℕ) (y : Holding) → Tells T config (begins e) r a b y run_from
      → y.tracked
      ≡ record {
        stack = stack_of (shuffle (job_lent e) (start_lent e)).stack;
        first = e.first;
        filled = length (shuffle (job_lent e) (start_lent e)).spilled;
        written = e.written + length (shuffle (job_lent e) (start_lent e)).ops;
      }
  unfolding shuffle
  state-done z T config about r a b y t =
      let s = started e.stack.values (take e.filled e.spill) in
      let x = t.tells e s about begin-held in
      let h = x.held in
      rw z (tracked-is y.tracked _ _ _ _ h.stack h.first h.filled h.written)

-- one that codes 1 to 5 refuse is due as it was lent
pub entry-refused : (e : Lent) (r : ℕ) → r ≡ code_of (job_lent e) (start_lent e) → (r ≡ 0 → ⊥)
    → record { code = r; shrink_ticks = 0; grow_ticks = 0; ops = 0; slots = 0; stack = stack_of []; spill = e.spill; words = e.words } ≡ shuffle_due e
unfolding shuffle_due shuffle words_of
entry-refused e r is ne =
    let c = code_of (job_lent e) (start_lent e) in
    let s = started e.stack.values (take e.filled e.spill) in
    rw (if-not c (run_from (job_lent e) s) (result c 0 0 (started [] [])) (λ z. ne (is ∙ z)), is, take-append-drop (2 * e.written) e.words)
