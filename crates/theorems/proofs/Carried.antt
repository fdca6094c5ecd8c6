-- A promise is an equation of what is seen; field by field it carries what is proved of the definitions over to the outcome.
use Prim.Native.Nat.{ℕ, suc, ◌+◌, ◌*◌, ◌≤◌}
use native.Mathlib.Omega.{arith}
use mathlib.Core.Path.{◌≡◌, refl, sym, ap, ◌∙◌}
use mathlib.Core.Logic.{◌≢◌}
use mathlib.Core.List.{List, [], ◌∷◌, ◌++◌}
use lib.ListN.{length, take, drop}
use lib.Seq.{take_at, drop-append_seam}
use Rattle.scope.specs.declared.Op.{Op}
use Rattle.scope.specs.Words.{Stack, stack_of}
use Rattle.scope.specs.Machine.{kind, argument, words_of, over, over_from}
use Rattle.scope.specs.Rules.{Job}
use Rattle.scope.specs.Shuffle.{code_of, Result, shuffle}
use Rattle.scope.specs.Replay.{Verdict, replay}
use Rattle.scope.specs.Legal.{Legal, swap, dup, pop, store, load, Runs, stop, next, Fault, unknown, swap-none, swap-far, swap-below, dup-far, dup-below, dup-high, load-high, pop-empty, store-empty, store_other, store-full, load-under, load-over}
use Rattle.scope.specs.Evm.{Instr, POP, DUP, SWAP, Halts, underflow, overflow, Codes, swap as swap-code, dup as dup-code, pop as pop-code}
use Rattle.scope.specs.Once.{Lent, job_lent, start_lent, Seen, shuffle_due, SeenVerdict, check_due}
use Rattle.scope.proofs.Exact.{even-words, words-once}
use Rattle.scope.proofs.OnEvm.{step-does}
use Rattle.stack.specs.Promises.{stack_in}
use Rattle.theorems.specs.Outcomes.{Found, answered, Shuffled, Shuffles, Checked, Checks, Wrote, OnEvm, instruction, stores, loads}

-- ---- a shuffle's outcome is the result of the definition

module _ (e : Lent) (o : Shuffled) (p : Shuffles e o) where
  abbrev due : Result
  due = shuffle (job_lent e) (start_lent e)

  pub code_is : o.answer.code ≡ due.code
  unfolding shuffle_due
  code_is = ap (λ (x : Seen). x.code) p

  pub ticks-are : (o.answer.shrink_ticks ≡ due.shrink_ticks) × (o.answer.grow_ticks ≡ due.grow_ticks)
  unfolding shuffle_due
  ticks-are = (ap (λ (x : Seen). x.shrink_ticks) p, ap (λ (x : Seen). x.grow_ticks) p)

  pub stack_is : stack_in o.answer.stack ≡ stack_of due.stack
  unfolding shuffle_due
  stack_is = ap (λ (x : Seen). x.stack) p

  pub values-are : (stack_in o.answer.stack).values ≡ due.stack
  values-are = ap (λ (x : Stack). x.values) stack_is

  pub wrote : Wrote e o due.ops due.spilled
  unfolding shuffle_due
  wrote = record {
    ops = ap (λ (x : Seen). x.ops) p;
    words = ap (λ (x : Seen). x.words) p;
    filled = ap (λ (x : Seen). x.slots) p;
    spill = ap (λ (x : Seen). x.spill) p;
  }

  -- codes 1 to 5
  pub due-nothing : (r : ℕ) → code_of (job_lent e) (start_lent e) ≡ suc r → (due.code ≡ suc r) × (due.stack ≡ []) × (due.ops ≡ []) × (due.spilled ≡ []) × (due.shrink_ticks ≡ 0) × (due.grow_ticks ≡ 0)
  unfolding shuffle
  due-nothing r z = rw z (refl, refl, refl, refl, refl, refl)

-- ---- the checker's outcome is the definition's verdict

module _ (e : Lent) (v : Checked) (p : Checks e v) where
  abbrev judged : Verdict
  judged = replay (job_lent e) (start_lent e) e.words

  pub check-code-is : v.verdict.code ≡ judged.code
  unfolding check_due
  check-code-is = ap (λ (x : SeenVerdict). x.code) p

  pub found : (v.verdict.code ≡ judged.code)
      × (v.verdict.index ≡ judged.index)
      × (v.verdict.gas ≡ judged.gas)
      × (v.verdict.filled ≡ length judged.spilled)
      × (v.spill ≡ over judged.spilled e.spill)
  unfolding check_due
  found = (
    ap (λ (x : SeenVerdict). x.code) p,
    ap (λ (x : SeenVerdict). x.index) p,
    ap (λ (x : SeenVerdict). x.gas) p,
    ap (λ (x : SeenVerdict). x.filled) p,
    ap (λ (x : SeenVerdict). x.spill) p,
  )

pub answered-by : (v : Found) {c i g n : ℕ} → v.code ≡ c → v.index ≡ i → v.gas ≡ g → v.filled ≡ n → v ≡ answered c i g n
answered-by v a b d f = rw (← a, ← b, ← d, ← f) refl

-- ---- what was written is determined

-- two lists of one length, laid over the same buffer at the same place
over-same : (w : ℕ) (a b lent : List ℕ) → length a ≡ length b → over_from w a lent ≡ over_from w b lent → a ≡ b
over-same w a b lent n q =
    let rest : over a (drop w lent) ≡ over b (drop w lent) =
    sym (drop-append_seam (take w lent) (over a (drop w lent)))
    ∙ ap (drop (length (take w lent))) q
    ∙ drop-append_seam (take w lent) (over b (drop w lent)) in
    sym (take_at a (drop (length a) (drop w lent)) (length b) n)
    ∙ ap (take (length b)) rest
    ∙ take_at b (drop (length b) (drop w lent)) (length b) refl

pub wrote-once : (e : Lent) (o : Shuffled) (os os' : List Op) (slots slots' : List ℕ) → Wrote e o os slots → Wrote e o os' slots' → (os ≡ os') × (slots ≡ slots')
wrote-once e o os os' slots slots' a b = (
  words-once os os'
      (over-same (2 * e.written) (words_of os) (words_of os') e.words (omega (arith, a.ops, b.ops, even-words os, even-words os')) (sym a.words ∙ b.words)),
  over-same 0 slots slots' e.spill (omega (arith, a.filled, b.filled)) (sym a.spill ∙ b.spill),
)

-- ---- the operation at a place of a run

pub at_place : (j : Job) (before behind : List Op) (p : Op) {os : List Op} {l m l'' m'' : List ℕ} → Runs j os l m l'' m'' → os ≡ before ++ p ∷ behind → length l ≤ 1024
    → (l₁ : List ℕ) × (m₁ : List ℕ) × (l₂ : List ℕ) × (m₂ : List ℕ) × Runs j before l m l₁ m₁ × Legal j p l₁ m₁ l₂ m₂ × (length l₁ ≤ 1024) × (length l₂ ≤ 1024)
at_place j [] behind p (stop l m) q t = let n : ◌≡◌ {A = ℕ} 0 1 = cc in absurd (omega arith)
at_place j (o ∷ before) behind p (stop l m) q t = let n : ◌≡◌ {A = ℕ} 0 1 = cc in absurd (omega arith)
at_place j [] behind p (next o os l m l₁ m₁ l₂ m₂ s h r) q t = let e : o ≡ p = cc in (l, m, l₁, m₁, stop l m, rw e at s, t, h)
at_place j (o' ∷ before) behind p (next o os l m l₁ m₁ l₂ m₂ s h r) q t =
    let e : o ≡ o' = cc in
    let f : os ≡ before ++ p ∷ behind = cc in
    let z = at_place j before behind p r f h in
    (z.0, z.1, z.2, z.3, next o' before l m l₁ m₁ z.0 z.1 (rw e at s) h z.4, z.5, z.6, z.7)

-- a legal operation is one of the EVM's instructions, for limits up to 16 and 15, or goes through a slot
pub on-evm : (j : Job) {o : Op} {l m l' m' : List ℕ} → Legal j o l m l' m' → j.S ≤ 16 → j.D ≤ 15 → length l ≤ 1024 → length l' ≤ 1024 → OnEvm o l l'
on-evm j (swap x y a b m h) s d t t' =
    let c = swap-code (suc (length a)) (omega arith) (omega arith) in instruction (SWAP (suc (length a))) c (step-does j c (swap x y a b m h) t t').0
on-evm j (dup x a b m h) s d t t' = let c = dup-code (length a) (omega arith) in instruction (DUP (length a + 1)) c (step-does j c (dup x a b m h) t t').0
on-evm j (pop x l m) s d t t' = instruction POP pop-code (step-does j pop-code (pop x l m) t t').0
on-evm j (store x l m h) s d t t' = stores (j.first + length m)
on-evm j (load x l a b) s d t t' = loads (j.first + length a)

-- an instruction is a Swap's, a Dup's or a Pop's
not-of-the-stack : {o : Op} {i : Instr} → Codes o i → 4 ≤ kind o → ⊥
not-of-the-stack (swap-code x y z) h = omega arith
not-of-the-stack (dup-code x y) h = omega arith
not-of-the-stack pop-code h = omega arith

-- ---- where a record is at fault for the stack's sake, the EVM halts

module _ (j : Job) (l : List ℕ) (m : ℕ) where
  -- by the instruction, then by the fault; a record of another kind, and another code, is no case
  pub fault-halts : {k a c : ℕ} → Fault j l m k a c → 33 ≤ c → c ≢ 34 → (o : Op) (i : Instr) → kind o ≡ k → argument o ≡ a → Codes o i → Halts i l
  fault-halts (unknown k a f) h n o i p q d = absurd (f o p q)
  fault-halts swap-none h n o i p q d = absurd (omega arith)
  fault-halts (swap-far k f) h n o i p q d = absurd (omega arith)
  fault-halts (dup-far k f) h n o i p q d = absurd (n refl)
  fault-halts (swap-below k f g t) h n o i p q (swap-code x y z) = underflow (omega arith)
  fault-halts (swap-below k f g t) h n o i p q (dup-code x y) = absurd (omega arith)
  fault-halts (swap-below k f g t) h n o i p q pop-code = absurd (omega arith)
  fault-halts (dup-below k f t) h n o i p q (swap-code x y z) = absurd (omega arith)
  fault-halts (dup-below k f t) h n o i p q (dup-code x y) = underflow (omega arith)
  fault-halts (dup-below k f t) h n o i p q pop-code = absurd (omega arith)
  fault-halts (dup-high k f g t) h n o i p q (swap-code x y z) = absurd (omega arith)
  fault-halts (dup-high k f g t) h n o i p q (dup-code x y) = overflow (omega arith)
  fault-halts (dup-high k f g t) h n o i p q pop-code = absurd (omega arith)
  fault-halts (pop-empty t) h n o i p q (swap-code x y z) = absurd (omega arith)
  fault-halts (pop-empty t) h n o i p q (dup-code x y) = absurd (omega arith)
  fault-halts (pop-empty t) h n o i p q pop-code = underflow (omega arith)
  fault-halts (load-high id t) h n o i p q d = absurd (not-of-the-stack d (omega arith))
  fault-halts (store-empty id t) h n o i p q d = absurd (not-of-the-stack d (omega arith))
  fault-halts (store_other id t f) h n o i p q d = absurd (not-of-the-stack d (omega arith))
  fault-halts (store-full id t f g) h n o i p q d = absurd (not-of-the-stack d (omega arith))
  fault-halts (load-under id t f) h n o i p q d = absurd (not-of-the-stack d (omega arith))
  fault-halts (load-over id t f) h n o i p q d = absurd (not-of-the-stack d (omega arith))
