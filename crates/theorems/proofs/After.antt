-- The checker looks at what a shuffle left: the slots that were filled before it are still there, and the room for operations is no matter to it.
use Prim.Native.Nat.{ℕ, zero, suc, ◌*◌, ◌≤◌}
use native.Mathlib.Omega.{arith}
use mathlib.Core.Path.{◌≡◌, refl, sym, ap, ◌∙◌, subst}
use Rattle.std.proofs.Common.{Option, None as none, Some as some}
use mathlib.Core.List.{List, [], ◌∷◌, ◌++◌, append-nil, append_assoc}
use lib.ListN.{length, take, drop, length-append, length-drop}
use lib.Seq.{take_at, drop-append_seam, length-take-le}
use Rattle.scope.specs.declared.Op.{Op}
use Rattle.scope.specs.declared.Op.TheVariants.{Swap, Dup, Pop, Store, Load}
use Rattle.scope.specs.Words.{if_zero}
use Rattle.scope.specs.Machine.{stack_after, spilled_after, more_gas, words_of, over, over_from}
use Rattle.scope.specs.Rules.{Job}
use Rattle.scope.specs.Shuffle.{Start, code_of, shuffle}
use Rattle.scope.specs.Replay.{verdict, decoded, op_fault, fault, stack_then, spilled_then, gas_then, replay_from, replay}
use Rattle.scope.specs.Legal.{Legal, swap, dup, pop, store, load, Runs, stop, next}
use Rattle.scope.specs.Cases.{within}
use Rattle.scope.specs.Once.{Lent, job_lent, start_lent, Seen, shuffle_due, SeenVerdict, check_due}
use Rattle.scope.proofs.JobCodes.{passes}
use Rattle.scope.proofs.Exact.{Stated, even-words, job-exact, same_self}
use Rattle.scope.proofs.Success.{shuffle-runs, shuffle-verdict, shuffle-ends}
use Rattle.operations.specs.declared.ScheduleConfig.{ScheduleConfig}
use Rattle.shuffler.specs.declared.Answer.{Answer}
use Rattle.shuffler.specs.Promises.{seen_in, lent_plain}
use Rattle.replay.specs.declared.Verdict.{Verdict as Verdict'}
use Rattle.replay.specs.Promises.{seen, lent_to}
use Rattle.theorems.specs.Outcomes.{told_by, Shuffled, Shuffles, lent_after, confirm_due}

-- ---- the room for operations is no matter to the checker

module _ (j : Job) (room : ℕ) where
  abbrev other : Job
  other = within j.slots room j

  same-fault : (l : List ℕ) (m : ℕ) (o : Op) → op_fault other l m o ≡ op_fault j l m o
  same-fault l m (Swap k) = refl
  same-fault l m (Dup k) = refl
  same-fault l m Pop = refl
  same-fault l m (Store id) = refl
  same-fault l m (Load id) = refl

  from-any-room : (l m : List ℕ) (i g : ℕ) (ws : List ℕ) → replay_from other l m i g ws ≡ replay_from j l m i g ws
  unfolding replay_from
  from-any-room l m i g [] = refl
  from-any-room l m i g (k ∷ []) = refl
  from-any-room l m i g (k ∷ a ∷ ws) = go (decoded k a) (λ l' m' g'. from-any-room l' m' (suc i) g' ws)
    where
      go : (d : Option Op) → ((l m : List ℕ) (g : ℕ) → replay_from other l m (suc i) g ws ≡ replay_from j l m (suc i) g ws)
          → if_zero (fault other l (length m) d) (replay_from other (stack_then other m l d) (spilled_then m l d) (suc i) (gas_then g d) ws) (verdict (fault other l (length m) d) i g m)
          ≡ if_zero (fault j l (length m) d) (replay_from j (stack_then j m l d) (spilled_then m l d) (suc i) (gas_then g d) ws) (verdict (fault j l (length m) d) i g m)
      go none rest = refl
      go (some o) rest = rw (same-fault l (length m) o, rest (stack_after j.first o m l) (spilled_after o m l) (more_gas g o))

  any-room : (b : Start) (ws : List ℕ) → replay other b ws ≡ replay j b ws
  unfolding replay
  any-room b ws = rw (from-any-room b.stack.values b.spilled 0 0 ws)

-- ---- a run only adds slots, and no more than there are

grows : (j : Job) {o : Op} {l m l' m' : List ℕ} → Legal j o l m l' m' → length m ≤ j.slots → (x : List ℕ) × (m' ≡ m ++ x) × (length m' ≤ j.slots)
grows j (swap x y a b m h) t = ([], sym (append-nil m), t)
grows j (dup x a b m h) t = ([], sym (append-nil m), t)
grows j (pop x l m) t = ([], sym (append-nil m), t)
grows j (store x l m h) t = (x ∷ [], refl, simp length-append (omega arith))
grows j (load x l a b) t = ([], sym (append-nil (a ++ x ∷ b)), t)

runs_grow : (j : Job) {os : List Op} {l m l' m' : List ℕ} → Runs j os l m l' m' → length m ≤ j.slots → (x : List ℕ) × (m' ≡ m ++ x) × (length m' ≤ j.slots)
runs_grow j (stop l m) t = ([], sym (append-nil m), t)
runs_grow j (next o os l m l₁ m₁ l₂ m₂ s h r) t =
    let a = grows j s t in
    let b = runs_grow j r a.2 in
    (a.0 ++ b.0, b.1 ∙ ap (λ (q : List ℕ). q ++ b.0) a.1 ∙ append_assoc m a.0 b.0, b.2)

-- ---- the words that were written, and the slots after them

-- the operations' words, where none stood before them
these : (os : List Op) (lent : List ℕ) → take (2 * length os) (drop 0 (over_from 0 (words_of os) lent)) ≡ words_of os
these os lent = take_at (words_of os) (drop (length (words_of os)) lent) (2 * length os) (even-words os)

-- laying a list over a buffer twice is laying it once
over-twice : (new lent : List ℕ) → over new (over new lent) ≡ over new lent
over-twice new lent = ap (λ (q : List ℕ). new ++ q) (drop-append_seam new (drop (length new) lent))

over-length : (new lent : List ℕ) → length new ≤ length lent → length (over new lent) ≡ length lent
over-length new lent h = simp (length-append, length-drop) (omega arith)

-- ---- the checker after a shuffle

filled-fits : (j : Job) (b : Start) → code_of j b ≡ 0 → b.filled ≤ j.slots
filled-fits j b e = (passes j.S b.stack.height (length j.T) b.filled j.slots j.first e).stored

refused : (j : Job) (b : Start) (r : ℕ) → code_of j b ≡ suc r → (shuffle j b).code ≡ suc r
unfolding shuffle
refused j b r z = rw z

no-slots : (j : Job) (b : Start) (r : ℕ) → code_of j b ≡ suc r → (shuffle j b).spilled ≡ []
unfolding shuffle
no-slots j b r z = rw z

module _ (e : Lent) (h : Stated (start_lent e)) (w : e.written ≡ 0) where
  abbrev j : Job
  j = job_lent e

  abbrev b : Start
  b = start_lent e

  -- what the checker is lent, by the definition's result
  abbrev after : Lent
  after = record {
    S = e.S;
    D = e.D;
    target = e.target;
    stack = e.stack;
    first = e.first;
    filled = e.filled;
    spill = over (shuffle j b).spilled e.spill;
    written = 0;
    words = words_of (shuffle j b).ops;
  }

  -- the same, where no slot was filled
  abbrev lent-as-was : List ℕ → Lent
  lent-as-was words =
      record { S = e.S; D = e.D; target = e.target; stack = e.stack; first = e.first; filled = e.filled; spill = e.spill; written = 0; words = words }

  lent-after : (o : Shuffled) → Shuffles e o → lent_after e o ≡ after
  unfolding shuffle_due
  lent-after o p =
      let r = shuffle j b in
      let q : o.spill ≡ over r.spilled e.spill = ap (λ (x : Seen). x.spill) p in
      let n : o.answer.ops ≡ length r.ops = ap (λ (x : Seen). x.ops) p in
      let v : o.words ≡ over_from (2 * e.written) (words_of r.ops) e.words = ap (λ (x : Seen). x.words) p in
      let t : take (2 * o.answer.ops) (drop (2 * e.written) o.words) ≡ words_of r.ops =
      ap (λ (k : ℕ). take (2 * k) (drop (2 * e.written) o.words)) n
      ∙ ap (λ (ws : List ℕ). take (2 * length r.ops) (drop (2 * e.written) ws)) v
      ∙ subst (λ (k : ℕ). take (2 * length r.ops) (drop (2 * k) (over_from (2 * k) (words_of r.ops) e.words)) ≡ words_of r.ops) (sym w) (these r.ops e.words) in
      rw (q, t)

  ran : code_of j b ≡ 0 → check_due after ≡ confirm_due e
  unfolding check_due confirm_due
  ran z =
      let r = shuffle j b in
      let f = filled-fits j b z in
      let n : length b.spilled ≡ e.filled = length-take-le e.filled e.spill f in
      let g = runs_grow j (shuffle-runs j b h z) (omega arith) in
      let len : length (over r.spilled e.spill) ≡ length e.spill = over-length r.spilled e.spill g.2 in
      let keep : take e.filled (over r.spilled e.spill) ≡ b.spilled =
      ap (λ (m : List ℕ). take e.filled (m ++ drop (length r.spilled) e.spill)) g.1
      ∙ ap (take e.filled) (append_assoc b.spilled g.0 (drop (length r.spilled) e.spill))
      ∙ take_at b.spilled (g.0 ++ drop (length r.spilled) e.spill) e.filled n in
      rw (len, keep, any-room j _ b (words_of r.ops), shuffle-verdict j b h z, z, over-twice r.spilled e.spill)

  refuses : (r : ℕ) → code_of j b ≡ suc r → check_due after ≡ confirm_due e
  unfolding check_due confirm_due
  refuses r z =
      let none-stored = no-slots j b r z in
      rw (none-stored, z, job-exact (job_lent (lent-as-was (words_of (shuffle j b).ops))) b (words_of (shuffle j b).ops) r z)

  -- What the checker finds in what a shuffle wrote is what the shuffle's own result says.
  pub after-shuffle : (o : Shuffled) → Shuffles e o → check_due (lent_after e o) ≡ confirm_due e
  after-shuffle o p = ap check_due (lent-after o p) ∙ go (code_of j b) refl
    where
      go : (r : ℕ) → code_of j b ≡ r → check_due after ≡ confirm_due e
      go zero z = ran z
      go (suc r) z = refuses r z

-- the checker leaves the spill words as the shuffle leaves them
same-slots : (e : Lent) → (confirm_due e).spill ≡ (shuffle_due e).spill
unfolding confirm_due shuffle_due
same-slots e = go (code_of (job_lent e) (start_lent e)) refl
  where
    go : (r : ℕ) → code_of (job_lent e) (start_lent e) ≡ r → (confirm_due e).spill ≡ (shuffle_due e).spill
    go zero z = rw z
    go (suc r) z = rw (z, no-slots (job_lent e) (start_lent e) r z)

-- a shuffle that answers 0 is accepted
pub confirms-success : (e : Lent) → (shuffle (job_lent e) (start_lent e)).code ≡ 0 → (confirm_due e).code ≡ 0
unfolding confirm_due
confirms-success e q = go (code_of (job_lent e) (start_lent e)) refl
  where
    go : (r : ℕ) → code_of (job_lent e) (start_lent e) ≡ r → (confirm_due e).code ≡ 0
    go zero z = rw (z, shuffle-ends (job_lent e) (start_lent e) q, same_self e.target)
    go (suc r) z = absurd (omega (arith, sym (refused (job_lent e) (start_lent e) r z) ∙ q))

-- ---- as the code has them

-- The verdict on what was written is the one that is due; the checker leaves the spill words as the shuffle left them.
pub confirms : (start spill target words : List ℕ) (filled first : ℕ) (config : ScheduleConfig) (r : Answer) (spill' words' part : List ℕ) (v : Verdict') (spill'' : List ℕ)
    → seen_in r spill' words' ≡ shuffle_due (lent_plain start spill filled first target config words)
    → part ≡ take (2 * r.ops) words'
    → seen v spill'' ≡ check_due (lent_to start spill' filled first target config.max_swap_depth config.max_dup_depth part)
    → (seen_in r spill'' words' ≡ shuffle_due (lent_plain start spill filled first target config words))
    × (seen v spill'' ≡ confirm_due (lent_plain start spill filled first target config words))
confirms start spill target words filled first config r spill' words' part v spill'' p k q =
    let e = lent_plain start spill filled first target config words in
    let o : Shuffled = record { answer = told_by r; spill = spill'; words = words' } in
    let c : seen v spill'' ≡ confirm_due e = rw k at q ∙ after-shuffle e (λ _. refl) refl o p in
    let m : spill'' ≡ spill' = ap (λ (x : SeenVerdict). x.spill) c ∙ same-slots e ∙ sym (ap (λ (x : Seen). x.spill) p) in
    (ap (λ (x : List ℕ). seen_in r x words') m ∙ p, c)
