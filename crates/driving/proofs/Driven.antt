-- The driver's three calls, put together: what was read is the job, what the shuffle leaves is the result's, and its words are operations.
use Prim.Native.Nat.{ℕ, zero, suc, ◌+◌, ◌*◌, ◌≤◌, min}
use native.Mathlib.Omega.{arith}
use mathlib.Core.Path.{◌≡◌, refl, sym, ap, ◌∙◌}
use mathlib.Core.Bool.{Bool, true, false}
use Rattle.std.proofs.Common.{Option, None as none, Some as some, Ok, Err}
use mathlib.Core.List.{List, []}
use lib.ListN.{length, take, drop, length-append, length-drop, length-take}
use lib.Seq.{take_at, take_all, take-take, take-append_seam}
use lib.Dec.{eqb, ltb, leb}
use borrow.Author.Tests.{ltb-false, le-leb, leb-true, leb-false}
use Rattle.scope.specs.declared.Op.{Op}
use Rattle.scope.specs.declared.Refusal.{Refusal}
use Rattle.scope.specs.declared.Refusal.TheVariants as R
use Rattle.scope.specs.Codes.{code, number_of}
use Rattle.scope.specs.Words.{Stack, stack_of}
use Rattle.scope.specs.Machine.{over, words_of}
use Rattle.scope.specs.Rules.{Job}
use Rattle.scope.specs.Shuffle.{Start, start_of, code_of, Result, shuffle}
use Rattle.scope.specs.Legal.{Legal, swap, dup, pop, store, load, Runs, stop, next}
use Rattle.scope.specs.Once.{Lent, Seen, seen_of, job_lent, start_lent, shuffle_due}
use Rattle.scope.specs.JobFile.{JobFile, word_at, is_job, read_job, parsed, job_of, result_of, driver_prints}
use Rattle.scope.proofs.Branches.{tested}
use Rattle.scope.proofs.Exact.{even-words}
use Rattle.scope.proofs.Success.{shuffle-runs}
use Rattle.operations.specs.declared.ScheduleConfig.{ScheduleConfig}
use Rattle.job.specs.declared.Job as J
use Rattle.job.specs.declared.JobWords.{JobWords}
use Rattle.job.specs.Promises.{Read, read_into, read_of}
use Rattle.job.proofs.Reading.{is-a-job, length-words}
use Rattle.shuffler.specs.declared.Answer as S
use Rattle.shuffler.specs.Promises.{seen_in, lent_plain}
use Rattle.answer.specs.Promises.{shallow, AllShallow, no-ops, one-op, writes}
use Rattle.answer.proofs.Answered.{answers}
use Rattle.driving.specs.Promises.{numbers, prints}

-- ---- What was read

-- a job's lists, at the low ends of three arrays
pub record Gave (f : JobFile) (j : J.Job) (w : JobWords) (x₀ y₀ z₀ : List ℕ) : Type 0 where
  pub starts : j.starts ≡ length f.start
  pub spills : j.spills ≡ length f.spilled
  pub targets : j.targets ≡ length f.target
  pub first : j.first ≡ f.first
  pub swaps : j.config.max_swap_depth ≡ f.S
  pub dups : j.config.max_dup_depth ≡ f.D
  pub start : w.start ≡ over f.start x₀
  pub spilled : w.spilled ≡ over f.spilled y₀
  pub target : w.target ≡ over f.target z₀

given : (f : JobFile) (j : J.Job) (w : JobWords) (x₀ y₀ z₀ : List ℕ) → read_of (Ok j) w ≡ read_into (some f) x₀ y₀ z₀ → Gave f j w x₀ y₀ z₀
given f j w x₀ y₀ z₀ h = record {
  starts = ap (λ (q : Read). q.starts) h;
  spills = ap (λ (q : Read). q.spills) h;
  targets = ap (λ (q : Read). q.targets) h;
  first = ap (λ (q : Read). q.first) h;
  swaps = ap (λ (q : Read). q.S) h;
  dups = ap (λ (q : Read). q.D) h;
  start = ap (λ (q : Read). q.start) h;
  spilled = ap (λ (q : Read). q.spilled) h;
  target = ap (λ (q : Read). q.target) h;
}

-- the job that bytes are, and its bounds
pub record Bounded (f : JobFile) : Type 0 where
  pub spills : length f.spilled ≤ 4096
  pub swaps : f.S ≤ 255
  pub dups : f.D ≤ 255

bounded : (bs : List ℕ) → is_job bs ≡ true → Bounded (read_job bs)
unfolding read_job
bounded bs t =
    let h = is-a-job bs (is_job bs) refl t in
    record {
      spills = rw (length-words bs (36 + 4 * word_at bs 0) (word_at bs 8)) (omega (arith, h.small, h.end-at));
      swaps = h.swaps;
      dups = h.dups;
    }

-- a refusal has a code
refuses : (r : Refusal) → number_of r ≡ 0 → ⊥
refuses R.Limit e = omega arith
refuses R.Start e = omega arith
refuses R.Target e = omega arith
refuses R.Filled e = omega arith
refuses R.Slots e = omega arith
refuses R.Missing e = omega arith
refuses R.Full e = omega arith
refuses R.Stuck e = omega arith
refuses R.Ticks e = omega arith
refuses R.Spill e = omega arith
refuses R.Ops e = omega arith
refuses R.Inside e = omega arith
refuses R.Job e = omega arith
refuses R.Empty e = omega arith
refuses R.Outside e = omega arith
refuses R.Unfilled e = omega arith
refuses R.SwapOfZero e = omega arith

module _ (bs : List ℕ) (w : JobWords) (x₀ y₀ z₀ : List ℕ) where
  pub read-it : (j : J.Job) → read_of (Ok j) w ≡ read_into (parsed bs) x₀ y₀ z₀ → (f : JobFile) × (parsed bs ≡ some f) × Bounded f × Gave f j w x₀ y₀ z₀
  unfolding parsed
  read-it j h = go (is_job bs) refl
    where
      go : (b : Bool) → is_job bs ≡ b → (f : JobFile) × (parsed bs ≡ some f) × Bounded f × Gave f j w x₀ y₀ z₀
      go true e =
          let p : parsed bs ≡ some (read_job bs) = rw e in
          (read_job bs, p, bounded bs e, given (read_job bs) j w x₀ y₀ z₀ (h ∙ ap (λ (o : Option JobFile). read_into o x₀ y₀ z₀) p))
      go false e =
          let p : parsed bs ≡ none = rw e in
          let q : read_of (Ok j) w ≡ read_into none x₀ y₀ z₀ = h ∙ ap (λ (o : Option JobFile). read_into o x₀ y₀ z₀) p in
          absurd (omega (arith, ap (λ (q : Read). q.code) q))

  read_none : (r : Refusal) → read_of (Err r) w ≡ read_into (parsed bs) x₀ y₀ z₀ → (parsed bs ≡ none) × (number_of r ≡ 13)
  unfolding parsed
  read_none r h = go (is_job bs) refl
    where
      go : (b : Bool) → is_job bs ≡ b → (parsed bs ≡ none) × (number_of r ≡ 13)
      go true e =
          let p : parsed bs ≡ some (read_job bs) = rw e in
          let q : read_of (Err r) w ≡ read_into (some (read_job bs)) x₀ y₀ z₀ = h ∙ ap (λ (o : Option JobFile). read_into o x₀ y₀ z₀) p in
          absurd (refuses r (ap (λ (q : Read). q.code) q))
      go false e =
          let p : parsed bs ≡ none = rw e in
          let q : read_of (Err r) w ≡ read_into none x₀ y₀ z₀ = h ∙ ap (λ (o : Option JobFile). read_into o x₀ y₀ z₀) p in
          (p, ap (λ (q : Read). q.code) q)

longer : (new lent : List ℕ) → length new ≤ length (over new lent)
longer new lent = omega (arith, length-append new (drop (length new) lent))

length_over : (new lent : List ℕ) → length new ≤ length lent → length (over new lent) ≡ length lent
length_over new lent h = omega (arith, length-append new (drop (length new) lent), length-drop (length new) lent)

-- ---- Every depth that a shuffle writes is a byte

shallow-op : (j : Job) {o : Op} {l m l' m' : List ℕ} → j.S ≤ 255 → j.D ≤ 255 → Legal j o l m l' m' → shallow (some o) ≡ some o
shallow-op j s d (swap x y a b m h) = rw (le-leb (suc (length a)) 255 (omega arith))
shallow-op j s d (dup x a b m h) = rw (le-leb (length a) 255 (omega arith))
shallow-op j s d (pop x l m) = refl
shallow-op j s d (store x l m h) = refl
shallow-op j s d (load x l a b) = refl

shallow-run : (j : Job) {os : List Op} {l m l' m' : List ℕ} → j.S ≤ 255 → j.D ≤ 255 → Runs j os l m l' m' → AllShallow os
shallow-run j s d (stop l m) = no-ops
shallow-run j s d (next o os l m l' m' l'' m'' h t rest) = one-op o os (shallow-op j s d h) (shallow-run j s d rest)

shallow-shuffle : (j : Job) (values spilled : List ℕ) → j.S ≤ 255 → j.D ≤ 255 → AllShallow (shuffle j (start_of values spilled)).ops
unfolding shuffle
shallow-shuffle j values spilled s d = go (code_of j (start_of values spilled)) refl
  where
    go : (r : ℕ) → code_of j (start_of values spilled) ≡ r → AllShallow (shuffle j (start_of values spilled)).ops
    go zero e = shallow-run j s d (shuffle-runs j (start_of values spilled) (λ z. refl) e)
    go (suc r) e = rw e no-ops

-- ---- The spill list: what does not fit is refused before it is looked at

same-shuffle : (j : Job) (s : Stack) (n : ℕ) (p q : List ℕ) → (code_of j (record { stack = s; filled = n; spilled = p }) ≡ 0 → p ≡ q)
    → shuffle j (record { stack = s; filled = n; spilled = p }) ≡ shuffle j (record { stack = s; filled = n; spilled = q })
unfolding shuffle
same-shuffle j s n p q h = go (code_of j (record { stack = s; filled = n; spilled = p })) refl
  where
    go : (r : ℕ) → code_of j (record { stack = s; filled = n; spilled = p }) ≡ r
        → shuffle j (record { stack = s; filled = n; spilled = p }) ≡ shuffle j (record { stack = s; filled = n; spilled = q })
    go zero e = rw (h e)
    go (suc r) e = rw e

room_for : (j : Job) (b : Start) → code_of j b ≡ 0 → b.filled ≤ j.slots
room_for j b e =
    let a = tested (eqb j.S 0) 0 _ e in
    let c = tested (ltb 1024 b.stack.height) 1 _ a.1 in
    let d = tested (ltb 1024 (length j.T)) 2 _ c.1 in
    let g = tested (ltb j.slots b.filled) 3 _ d.1 in
    ltb-false j.slots b.filled g.0

-- ---- What the shuffle leaves

-- an answer and the two buffers are those of a result
pub record Left (R : Result) (a : S.Answer) (slots₀ sp words₀ ws : List ℕ) : Type 0 where
  pub code : code a.outcome ≡ R.code
  pub shrink : a.shrink_ticks ≡ R.shrink_ticks
  pub grow : a.grow_ticks ≡ R.grow_ticks
  pub ops : a.ops ≡ length R.ops
  pub slots : a.slots ≡ length R.spilled
  pub spill : sp ≡ over R.spilled slots₀
  pub words : ws ≡ over (words_of R.ops) words₀

seen-left : (R : Result) (e : Lent) (a : S.Answer) (sp ws : List ℕ) → e.written ≡ 0 → seen_in a sp ws ≡ seen_of R e → Left R a e.spill sp e.words ws
seen-left R e a sp ws w h = record {
  code = ap (λ (q : Seen). q.code) h;
  shrink = ap (λ (q : Seen). q.shrink_ticks) h;
  grow = ap (λ (q : Seen). q.grow_ticks) h;
  ops = ap (λ (q : Seen). q.ops) h;
  slots = ap (λ (q : Seen). q.slots) h;
  spill = ap (λ (q : Seen). q.spill) h;
  words = ap (λ (q : Seen). q.words) h ∙ rw w;
}

pub words-fit : {R : Result} {a : S.Answer} {slots₀ sp words₀ ws : List ℕ} → Left R a slots₀ sp words₀ ws → 2 * a.ops ≤ length ws
words-fit {R} {a} {slots₀} {sp} {words₀} {ws} q = rw q.words (omega (arith, q.ops, even-words R.ops, longer (words_of R.ops) words₀))

pub slots-are : {R : Result} {a : S.Answer} {slots₀ sp words₀ ws : List ℕ} → Left R a slots₀ sp words₀ ws → a.slots ≤ length sp
slots-are {R} {a} {slots₀} {sp} {words₀} {ws} q = rw q.spill (omega (arith, q.slots, longer R.spilled slots₀))

module _ (f : JobFile) (config : ScheduleConfig) (y₀ words : List ℕ) where
  lent : Lent
  lent = lent_plain f.start (take 2048 (over f.spilled y₀)) (length f.spilled) f.first f.target config words

  the_result : config.max_swap_depth ≡ f.S → config.max_dup_depth ≡ f.D → length f.spilled ≤ 4096 → length y₀ ≡ 4096 → length words ≡ 8192
      → shuffle_due lent ≡ seen_of (result_of (some f)) lent
  unfolding shuffle_due lent
  the_result s d n l w =
      let k : length (take 2048 (over f.spilled y₀)) ≡ 2048 = omega (arith, length-take 2048 (over f.spilled y₀), length_over f.spilled y₀ (omega arith)) in
      let j : job_lent lent ≡ job_of f = rw (s, d, k, w) in
      let q = same-shuffle (job_of f) (stack_of f.start) (length f.spilled) (take (length f.spilled) (take 2048 (over f.spilled y₀))) f.spilled
      (λ c. take-take (length f.spilled) 2048 (over f.spilled y₀) (room_for (job_of f) (start_lent lent) c) ∙ take-append_seam f.spilled _) in
      let p : shuffle (job_lent lent) (start_lent lent) ≡ result_of (some f) = ap (λ (i : Job). shuffle i (start_lent lent)) j ∙ q in
      ap (λ (R : Result). seen_of R lent) p

pub same-part : (l : List ℕ) (n m : ℕ) → length l ≡ 4096 → m ≡ min n 4096 → take m l ≡ take n l
same-part l n m e f = go (leb n 4096) refl
  where
    go : (t : Bool) → leb n 4096 ≡ t → take m l ≡ take n l
    go true h = let k : m ≡ n = omega (arith, leb-true n 4096 h) in ap (λ (i : ℕ). take i l) k
    go false h = let k = leb-false n 4096 h in take_all m l (omega arith) ∙ sym (take_all n l (omega arith))

-- the whole of it, from what reading and the shuffle promise
module _ (bs : List ℕ) (j : J.Job) (w : JobWords) (x₀ y₀ z₀ : List ℕ) (h : read_of (Ok j) w ≡ read_into (parsed bs) x₀ y₀ z₀) (l : length y₀ ≡ 4096)
    (words : List ℕ) (room : length words ≡ 8192) (a : S.Answer) (sp ws : List ℕ) (few : length sp ≤ 2048)
    (e : seen_in a sp ws ≡ shuffle_due (lent_plain (take j.starts w.start) (take 2048 w.spilled) j.spills j.first (take j.targets w.target) j.config words)) where
  left_by : (f : JobFile) → Bounded f → Gave f j w x₀ y₀ z₀ → Left (result_of (some f)) a (take 2048 w.spilled) sp words ws
  unfolding lent
  left_by f b g =
      let i : take j.starts w.start ≡ f.start = ap (take j.starts) g.start ∙ take_at f.start _ j.starts (sym g.starts) in
      let k : take j.targets w.target ≡ f.target = ap (take j.targets) g.target ∙ take_at f.target _ j.targets (sym g.targets) in
      let due : lent_plain (take j.starts w.start) (take 2048 w.spilled) j.spills j.first (take j.targets w.target) j.config words ≡ lent f j.config y₀ words
      = rw (i, k, g.spilled, g.spills, g.first) in
      rw g.spilled
      (seen-left (result_of (some f)) (lent f j.config y₀ words) a sp ws refl
      (e ∙ ap shuffle_due due ∙ the_result f j.config y₀ words g.swaps g.dups b.spills l room))

  pub ops-fit : 2 * a.ops ≤ length ws
  ops-fit = let q = read-it bs w x₀ y₀ z₀ j h in words-fit (left_by q.0 q.2 q.3)

  answered-by : (f : JobFile) → parsed bs ≡ some f → Bounded f → Left (result_of (some f)) a (take 2048 w.spilled) sp words ws → (out : List ℕ) → a.ops ≤ 4096
      → writes (numbers a) (take (2 * a.ops) ws) out ≡ prints bs out
  unfolding driver_prints
  answered-by f p b q out n =
      let R = result_of (some f) in
      let t : take (2 * a.ops) ws ≡ words_of R.ops
      = ap (take (2 * a.ops)) q.words ∙ take_at (words_of R.ops) _ (2 * a.ops) (omega (arith, even-words R.ops, q.ops)) in
      rw (t, p)
      (answers _ R out (record { code = q.code; shrink = q.shrink; grow = q.grow; slots = omega (arith, q.slots, slots-are q, few) })
      (shallow-shuffle (job_of f) f.start f.spilled b.swaps b.dups) (omega (arith, q.ops)))

  pub answered : (out : List ℕ) → length ws ≡ 8192 → writes (numbers a) (take (2 * a.ops) ws) out ≡ prints bs out
  answered out n =
      let q = read-it bs w x₀ y₀ z₀ j h in
      answered-by q.0 q.1 q.2 (left_by q.0 q.2 q.3) out (omega (arith, ops-fit))

pub no-job : (bs : List ℕ) (w : JobWords) (x₀ y₀ z₀ : List ℕ) (r : Refusal) → read_of (Err r) w ≡ read_into (parsed bs) x₀ y₀ z₀ → (out words : List ℕ) → words ≡ []
    → writes (record { code = number_of r; shrink_ticks = 0; grow_ticks = 0; slots = 0 }) words out ≡ prints bs out
unfolding driver_prints words_of
no-job bs w x₀ y₀ z₀ r h out words e =
    let (p, q) = read_none bs w x₀ y₀ z₀ r h in
    rw (p, e) (answers _ (result_of none) out (record { code = q; shrink = refl; grow = refl; slots = refl }) no-ops (omega arith))
