-- What may be relied on, of the code: read each statement; its proof is the theorem about the definitions that it cites, carried over by the promise.
--
-- `Shuffles e o`: lent e, a shuffle came out as o; that is the promise of `shuffle`, `run`, the entry and `njallavet_shuffle`.
-- `Checks e v`: lent e, the checker came out as v; that is the promise of `check` and `njallavet_check`.
-- `Stated`: the start's height is the number of its values, or above 1,024; so it is in every call (the last section).
use Prim.Native.Nat.{ℕ, suc, ◌*◌, ◌%◌, ◌≤◌, ◌<◌}
use native.Mathlib.Omega.{arith}
use mathlib.Core.Path.{◌≡◌, refl, sym, ap, ◌∙◌}
use mathlib.Core.Logic.{◌≢◌, ◌↔◌}
use mathlib.Core.List.{List, [], ◌∷◌, ◌++◌}
use lib.ListN.{length, take, take-append-drop, length-drop}
use Rattle.scope.specs.declared.Op.{Op}
use Rattle.scope.specs.Words.{stack_of, ◌at◌}
use Rattle.scope.specs.Machine.{kind, argument, words_of, over}
use Rattle.scope.specs.Rules.{State}
use Rattle.scope.specs.Shuffle.{code_of, started, shuffle}
use Rattle.scope.specs.Replay.{Verdict, verdict, replay}
use Rattle.scope.specs.Legal.{Legal, Runs, Lawful, Judged, accepted, unlike, faulty}
use Rattle.scope.specs.Evm.{Instr, Halts, Codes}
use Rattle.scope.specs.Stack.{fifo}
use Rattle.scope.specs.Moments.{moments, Follows}
use Rattle.scope.specs.Once.{Once, Lent, job_lent, start_lent, shuffle_due, SeenVerdict, check_due}
use Rattle.scope.proofs.Exact.{Stated, low-start, accepts-exact, verdict-exact, odd-exact, job-exact}
use Rattle.scope.proofs.Success.{shuffle-runs, shuffle-ends}
use Rattle.scope.proofs.Completed.{Among, last_of, completed-stays, moments-follow, moments-end, moments-each}
use Rattle.scope.proofs.WhichCodes.{Listed, shuffle-codes, check-codes}
use Rattle.scope.proofs.Once.{determined}
use Rattle.stack.specs.Promises.{stack_in}
use Rattle.operations.specs.declared.ScheduleConfig.{ScheduleConfig}
use Rattle.tracked_state.specs.declared.TrackedState.{TrackedState}
use Rattle.tracked_state.specs.Promises.{tracked_of}
use Rattle.shuffler.specs.Promises.{lent_plain, lent_state, state_due}
use Rattle.theorems.specs.Outcomes.{answered, Shuffled, shows, Shuffles, Checked, finds, Checks, lent_after, confirm_due, Wrote, OnEvm}
use Rattle.theorems.proofs.After.{after-shuffle, confirms-success}
use Rattle.theorems.proofs.Carried.{code_is, ticks-are, stack_is, values-are, wrote, due-nothing, check-code-is, found, answered-by, wrote-once, at_place, on-evm, fault-halts}

-- ---- A job that codes 1 to 5 refuse

-- The answer has that code, zero counts and an empty stack; no word of either buffer is changed.
pub nothing-is-done : (e : Lent) (o : Shuffled) → Shuffles e o → (r : ℕ) → code_of (job_lent e) (start_lent e) ≡ suc r
    → (o.answer.code ≡ suc r)
    × (o.answer.shrink_ticks ≡ 0)
    × (o.answer.grow_ticks ≡ 0)
    × (stack_in o.answer.stack ≡ stack_of [])
    × Wrote e o [] []
    × (o.words ≡ e.words)
    × (o.spill ≡ e.spill)
unfolding words_of
nothing-is-done e o p r z =
    let n = due-nothing e o p r z in
    let w : Wrote e o [] [] = rw (n.2, n.3) at (wrote e o p) in (
      code_is e o p ∙ n.0,
      (ticks-are e o p).0 ∙ n.4,
      (ticks-are e o p).1 ∙ n.5,
      stack_is e o p ∙ ap stack_of n.1,
      w,
      w.words ∙ take-append-drop (2 * e.written) e.words,
      w.spill,
    )

-- ---- Demand 3: every other code, 0 and 6 to 12

module _ (e : Lent) (o : Shuffled) (h : Stated (start_lent e)) (p : Shuffles e o) (z : code_of (job_lent e) (start_lent e) ≡ 0) where
  -- What was written is a list of operations, each legal where it stands (Legal), that leads from the start to the stack and the slots that
  -- are answered. So it is in refused runs too.
  pub writes-legally : (os : List Op) × (slots : List ℕ)
      × Wrote e o os slots
      × Runs (job_lent e) os e.stack.values (take e.filled e.spill) (stack_in o.answer.stack).values slots
  writes-legally =
      let r = shuffle (job_lent e) (start_lent e) in
      (r.ops, r.spilled, wrote e o p, rw (values-are e o p) (shuffle-runs (job_lent e) (start_lent e) h z))

  -- A shuffle that answers 0 has left exactly the target: that is the stack which is answered, and where its operations lead.
  pub ends-in-the-target : o.answer.code ≡ 0
      → (stack_in o.answer.stack ≡ stack_of e.target)
      × (os : List Op) × (slots : List ℕ)
      × Wrote e o os slots
      × Runs (job_lent e) os e.stack.values (take e.filled e.spill) e.target slots
  ends-in-the-target q =
      let r = shuffle (job_lent e) (start_lent e) in
      let t : r.stack ≡ e.target = shuffle-ends (job_lent e) (start_lent e) (sym (code_is e o p) ∙ q) in
      (stack_is e o p ∙ ap stack_of t, r.ops, r.spilled, wrote e o p, rw t at (shuffle-runs (job_lent e) (start_lent e) h z))

  -- The EVM: for limits up to 16 and 15, each operation that was written, on the stack where it stands, does what its instruction of the
  -- Yellow Paper does, and that one does not halt. (A Store and a Load go through memory; the encoder writes them.)
  pub does-as-the-EVM : e.S ≤ 16 → e.D ≤ 15 → (os before behind : List Op) (slots : List ℕ) (x : Op) → Wrote e o os slots → os ≡ before ++ x ∷ behind
      → (l : List ℕ) × (m : List ℕ) × (l' : List ℕ) × (m' : List ℕ)
      × Runs (job_lent e) before e.stack.values (take e.filled e.spill) l m
      × Legal (job_lent e) x l m l' m'
      × OnEvm x l l'
  does-as-the-EVM s d os before behind slots x w q =
      let a = (wrote-once e o _ os _ slots (wrote e o p) w).0 in
      let y = at_place (job_lent e) before behind x (shuffle-runs (job_lent e) (start_lent e) h z) (a ∙ q) (low-start (job_lent e) (start_lent e) h z) in
      (y.0, y.1, y.2, y.3, y.4, y.5, on-evm (job_lent e) y.5 s d y.6 y.7)

  -- The moments of the run begin with its start, and the last one is what came out.
  pub moments-end-in-the-answer : (xs : List State)
      × (moments (job_lent e) (start_lent e) ≡ started e.stack.values (take e.filled e.spill) ∷ xs)
      × Wrote e o (last_of (started e.stack.values (take e.filled e.spill)) xs).ops (last_of (started e.stack.values (take e.filled e.spill)) xs).spilled
      × (stack_in o.answer.stack ≡ stack_of (last_of (started e.stack.values (take e.filled e.spill)) xs).C)
  moments-end-in-the-answer =
      let m = moments-end (job_lent e) (start_lent e) z in
      (m.0, m.1, rw (m.2.0, m.2.1) at (wrote e o p), stack_is e o p ∙ ap stack_of m.2.2)

  -- Every operation that was written has its moment: after it, and after nothing more.
  pub each-operation-has-its-moment : (os os' : List Op) (slots : List ℕ) → Wrote e o (os ++ os') slots
      → (s : State) × Among s (moments (job_lent e) (start_lent e)) × (s.ops ≡ os)
  each-operation-has-its-moment os os' slots w =
      moments-each (job_lent e) (start_lent e) z os os' (wrote-once e o _ (os ++ os') _ slots (wrote e o p) w).0

-- Completed: take two moments of a run, refused runs too, s and later s'. The count of completed bottom positions has not fallen; and each
-- position that was completed at s still stands at s', with the value that it had, which is the target's.
pub completed-never-changes : (e : Lent) (before between behind : List State) (s s' : State)
    → moments (job_lent e) (start_lent e) ≡ before ++ s ∷ between ++ s' ∷ behind
    → (s.c ≤ s'.c) × ((i : ℕ) → i < s.c → (i < length s'.C) × (s'.C at i ≡ s.C at i) × (s.C at i ≡ e.target at i))
completed-never-changes e = completed-stays (job_lent e) (start_lent e)

-- From one moment to the next there is one operation, legal and with room, or one counting.
pub moments-follow-one-another : (e : Lent) (before behind : List State) (s s' : State)
    → moments (job_lent e) (start_lent e) ≡ before ++ s ∷ s' ∷ behind → Follows (job_lent e) s s'
moments-follow-one-another e = moments-follow (job_lent e) (start_lent e)

-- ---- The checker

module _ (e : Lent) (v : Checked) (h : Stated (start_lent e)) (p : Checks e v) (z : code_of (job_lent e) (start_lent e) ≡ 0) where
  -- It accepts a list, whoever made it, exactly when the words are whole, well-formed records of operations that are legal one after the
  -- other from the start, and that end in the target.
  pub accepts-exactly : (v.verdict.code ≡ 0) ↔ Lawful (job_lent e) e.stack.values (take e.filled e.spill) e.words
  accepts-exactly =
      let x = accepts-exact (job_lent e) (start_lent e) e.words h z in
      let c = check-code-is e v p in
      (λ q. x.0 (sym c ∙ q), λ l. c ∙ x.1 l)

  -- Of whole records, the verdict is the one that they deserve (Judged, which is determined): it names the first operation at fault and the
  -- first of its faults, in document 01's order, with the gas and the slots of those before it.
  pub judges-rightly : length e.words % 2 ≡ 0
      → (slots : List ℕ)
      × Judged (job_lent e) e.stack.values (take e.filled e.spill) e.words (verdict v.verdict.code v.verdict.index v.verdict.gas slots)
      × (v.verdict.filled ≡ length slots)
      × (v.spill ≡ over slots e.spill)
  judges-rightly even =
      let r = replay (job_lent e) (start_lent e) e.words in
      let f = found e v p in
      (r.spilled, rw (f.0, f.1, f.2) ((verdict-exact (job_lent e) (start_lent e) e.words h z r even).0 refl), f.3, f.4)

  -- Where it refuses for the stack's sake (33, 35, 36, 37), the operations before the record at fault are legal, and on the stack that they
  -- leave the record's instruction, if the EVM has one for it, halts.
  pub refuses-what-halts : length e.words % 2 ≡ 0 → 33 ≤ v.verdict.code → v.verdict.code ≤ 37 → v.verdict.code ≢ 34
      → (os : List Op) × (k : ℕ) × (a : ℕ) × (rest : List ℕ) × (l : List ℕ) × (m : List ℕ)
      × (e.words ≡ words_of os ++ k ∷ a ∷ rest)
      × (length os ≡ v.verdict.index)
      × Runs (job_lent e) os e.stack.values (take e.filled e.spill) l m
      × ((o : Op) (i : Instr) → kind o ≡ k → argument o ≡ a → Codes o i → Halts i l)
  refuses-what-halts even low high not = go (judges-rightly even).1 low high not
    where
      go : {x : Verdict} → Judged (job_lent e) e.stack.values (take e.filled e.spill) e.words x → 33 ≤ x.code → x.code ≤ 37 → x.code ≢ 34
          → (os : List Op) × (k : ℕ) × (a : ℕ) × (rest : List ℕ) × (l : List ℕ) × (m : List ℕ)
          × (e.words ≡ words_of os ++ k ∷ a ∷ rest)
          × (length os ≡ x.index)
          × Runs (job_lent e) os e.stack.values (take e.filled e.spill) l m
          × ((o : Op) (i : Instr) → kind o ≡ k → argument o ≡ a → Codes o i → Halts i l)
      go (accepted os m q r) a b n = absurd (omega arith)
      go (unlike os l m q r d) a b n = absurd (omega arith)
      go (faulty os l m k x c rest q r f) a b n = (os, k, x, rest, l, m, q, refl, r, fault-halts (job_lent e) l (length m) f a n)

  -- Of any other number of words it replays none: 30.
  pub wants-whole-records : length e.words % 2 ≢ 0 → v.verdict.code ≡ 30
  wants-whole-records odd = check-code-is e v p ∙ ap (λ (r : Verdict). r.code) (odd-exact (job_lent e) (start_lent e) e.words h z odd)

-- Codes 1 to 5 come first, with all else 0, and no word is changed.
pub checks-nothing : (e : Lent) (v : Checked) → Checks e v → (r : ℕ) → code_of (job_lent e) (start_lent e) ≡ suc r
    → (v.verdict ≡ answered (suc r) 0 0 0) × (v.spill ≡ e.spill)
checks-nothing e v p r z =
    let f = found e v p in
    let q = job-exact (job_lent e) (start_lent e) e.words r z in (
      answered-by v.verdict (f.0 ∙ ap (λ (x : Verdict). x.code) q) (f.1 ∙ ap (λ (x : Verdict). x.index) q) (f.2 ∙ ap (λ (x : Verdict). x.gas) q)
          (f.3 ∙ ap (λ (x : Verdict). length x.spilled) q),
      f.4 ∙ ap (λ (x : Verdict). over x.spilled e.spill) q,
    )

-- ---- A shuffle, and then the checker on what it wrote

module _ (e : Lent) (o : Shuffled) (v : Checked) (h : Stated (start_lent e)) (w : e.written ≡ 0) (p : Shuffles e o) (q : Checks (lent_after e o) v) where
  -- The verdict is fixed by the shuffle's own result (confirm_due): no operation is at fault, all are counted, the slots are the shuffle's.
  pub confirms-the-shuffle : finds v ≡ confirm_due e
  confirms-the-shuffle = q ∙ after-shuffle e h w o p

  -- Where the shuffle answered 0 the checker accepts.
  pub accepts-a-success : o.answer.code ≡ 0 → v.verdict.code ≡ 0
  accepts-a-success z = ap (λ (x : SeenVerdict). x.code) confirms-the-shuffle ∙ confirms-success e (sym (code_is e o p) ∙ z)

-- ---- The codes that can come

pub shuffle-answers : (e : Lent) (o : Shuffled) → Shuffles e o → o.answer.code ≤ 12
shuffle-answers e o p = rw (code_is e o p) (shuffle-codes (job_lent e) (start_lent e))

-- 0 to 5 and 30 to 41
pub check-answers : (e : Lent) (v : Checked) → Checks e v → Listed v.verdict.code
check-answers e v p = rw (check-code-is e v p) (check-codes (job_lent e) (start_lent e) e.words)

-- ---- The promise determines the outcome

-- Two outcomes of the same call on the same job are equal: every number, every word of both buffers, the end stacks by height and values.
pub shuffle-once : Once shows shuffle_due
shuffle-once = determined shows shuffle_due

pub check-once : Once finds check_due
check-once = determined finds check_due

-- and of the state that `run` and the entry leave, its stack, its first slot and its counts; where codes 1 to 5 refuse, it is the state that was lent
pub state-once : Once tracked_of state_due
state-once = determined tracked_of state_due

-- ---- Every call states its start

pub plain-states : (start spill target words : List ℕ) (filled first : ℕ) (config : ScheduleConfig) → Stated (start_lent (lent_plain start spill filled first target config words))
plain-states start spill target words filled first config = λ _. refl

-- a state's array has 1,024 words
pub state-states : (s : TrackedState) (spill target words : List ℕ) (config : ScheduleConfig) → length s.stack.stack_raw ≡ 1024
    → Stated (start_lent (lent_state s spill target config words))
unfolding fifo
state-states s spill target words config n = λ h. simp length-drop (omega arith)
