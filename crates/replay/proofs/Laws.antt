-- The whole list: what is left to replay from here gives the verdict of the whole.
use Rattle.std.proofs.lemmas.List.{drop_more, drop_all}
use Rattle.std.proofs.Common.{ℕ, zero, suc, ◌+◌, ◌*◌, ◌/◌, ◌%◌, ◌≤◌, ◌<◌, ◌≡◌, refl, ap, sym, ◌∙◌, arith, Bool, true, false}
use Rattle.std.proofs.Common.{List, [], ◌∷◌, length, get_or, take, drop, take-append-drop, length-take-le, take-suc-set, drop-set-lt, length-set, drop-drop, add-one}
use Rattle.std.proofs.Common.{Option, None as none, Some as some, Result, Ok, Err, eq-eqb, leb-false, le-ltb, eqb, leb, if◌then◌else◌}
use Rattle.scope.specs.declared.Op.{Op}
use Rattle.scope.specs.declared.Op.TheVariants.{Swap, Dup, Pop, Store, Load}
use Rattle.scope.specs.declared.Refusal.{Refusal}
use Rattle.scope.specs.Codes as codes
use Rattle.scope.specs.Words.{if_zero, same_list}
use Rattle.scope.specs.Machine.{over, stack_after, spilled_after, more_gas}
use Rattle.scope.specs.Rules.{Job}
use Rattle.scope.specs.Shuffle.{job_code}
use Rattle.scope.specs.Replay.{replay, Verdict, verdict, decoded, op_fault, fault, replay_from}
use Rattle.scope.specs.Once.{Lent, job_lent, seen_verdict, check_due}
use Rattle.reader.specs.declared.Record.{Record}
use Rattle.reader.specs.Promises.{records, record_at}
use Rattle.replay.specs.declared.Fault.{Fault}
use Rattle.replay.specs.declared.Fault.TheVariants as faults
use Rattle.replay.specs.declared.Replay.{Replay}
use Rattle.replay.specs.Faults.{number_of, code_of}
use Rattle.scope.specs.Words.{Stack}
use Rattle.scope.specs.Stack.{made_from}
use Rattle.stack.specs.declared.EvmStack.{EvmStack}
use Rattle.stack.specs.Promises.{stack_in, values_in}
use Rattle.replay.specs.declared.Verdict.{Verdict as Answer}
use Rattle.replay.specs.Promises.{lent_now, answered, seen, seen_now, replay_due, values_now, slots_now, job_of, filled_after, spill_after, SameRun}

-- ---- the words of records

abbrev pub words_in : List Record → List ℕ
words_in [] = []
words_in (x ∷ xs) = x.kind ∷ x.argument ∷ words_in xs

pub words-records : (ws : List ℕ) → length ws % 2 ≡ 0 → words_in (records ws) ≡ ws
words-records [] h = refl
words-records (k ∷ []) h = absurd (omega (arith, h))
words-records (k ∷ a ∷ ws) h = ap (λ (l : List ℕ). k ∷ a ∷ l) (words-records ws (omega (arith, h)))

pub length-records : (ws : List ℕ) → length (records ws) ≤ length ws
length-records [] = omega arith
length-records (k ∷ []) = omega arith
length-records (k ∷ a ∷ ws) = let h = length-records ws in omega arith

-- the records from a place on: the one there, and those behind it; none at the end
pub next-record : (ws : List ℕ) (i : ℕ) (x : Record) → i < length ws / 2 → x ≡ record_at ws (2 * i)
    → records (drop (2 * i) ws) ≡ x ∷ records (drop (2 * (i + 1)) ws)
next-record ws i x h q =
    let at = 2 * i in
    let e : at + 1 + 1 ≡ 2 * (i + 1) = omega arith in
    ap records (drop_more ws at 0 (omega (arith, h)) ∙ ap (λ (l : List ℕ). get_or ws at 0 ∷ l) (drop_more ws (at + 1) 0 (omega (arith, h))))
    ∙ ap (λ (k : ℕ). record_at ws at ∷ records (drop k ws)) e ∙ ap (λ (y : Record). y ∷ records (drop (2 * (i + 1)) ws)) (sym q)

pub no-record : (ws : List ℕ) (i : ℕ) → length ws % 2 ≡ 0 → length ws / 2 ≤ i → records (drop (2 * i) ws) ≡ []
no-record ws i even h = ap records (drop_all (2 * i) ws (omega (arith, even, h)))

-- ---- a fault has a code

refusal-code : (r : Refusal) → codes.number_of r ≡ 0 → ⊥
refusal-code r h = grind arith

fault-code : (f : Fault) → number_of f ≡ 0 → ⊥
fault-code f h = grind (arith, refusal-code)

if-not-zero : (r : ℕ) (x y : Verdict) → (r ≡ 0 → ⊥) → if_zero r x y ≡ y
if-not-zero zero x y ne = absurd (ne refl)
if-not-zero (suc r) x y ne = refl

-- ---- a replay on its way

-- The list has been replayed up to here: what is left gives the verdict of the whole.
pub record Replaying (e : Lent) (r : Replay) (ws : List Record) : Type 0 where
  pub swaps : e.S ≡ r.config.max_swap_depth
  pub dups : e.D ≡ r.config.max_dup_depth
  pub first : e.first ≡ r.first
  pub slots : length r.spill.now ≡ length e.spill
  pub inside : r.filled ≤ length r.spill.now
  pub beyond : drop r.filled r.spill.now ≡ drop r.filled e.spill
  pub count : r.index + length ws ≤ length e.words
  pub rest : replay_from (job_lent e) (values_now r) (slots_now r) r.index r.gas (words_in ws) ≡ replay_from (job_lent e) e.stack.values (take e.filled e.spill) 0 0 e.words

-- a verdict whose slots are the replay's, where the buffer beyond them is as it was lent
seen-is : (e : Lent) (r : Replay) (outcome : Result Unit Fault) → r.filled ≤ length r.spill.now → drop r.filled r.spill.now ≡ drop r.filled e.spill
    → seen_now outcome r ≡ seen_verdict (verdict (code_of outcome) r.index r.gas (slots_now r)) e
seen-is e r outcome h b =
    let n : length (slots_now r) ≡ r.filled = length-take-le r.filled r.spill.now h in
    let s : over (slots_now r) e.spill ≡ r.spill.now = rw (n, ← b) (take-append-drop r.filled r.spill.now) in
    rw (s, n)

-- a start that is laid into the stack
laid-start : (start : List ℕ) (s : EvmStack) → length start ≤ 1024 → stack_in s ≡ (made_from start).stack → values_in s ≡ start
unfolding made_from
laid-start start s h q = ap (λ (x : Stack). x.values) (rw (le-ltb 1024 (length start) h) at q)

pub begins : (start : List ℕ) (r : Replay) (target words : List ℕ) (ws : List Record) → length start ≤ 1024 → r.filled ≤ length r.spill.now → r.index ≡ 0 → r.gas ≡ 0
    → length words % 2 ≡ 0 → stack_in r.stack.now ≡ (made_from start).stack → ws ≡ records words
    → Replaying (lent_now r start target words) r ws
begins start r target words ws h f i g even s q =
    record {
      swaps = refl;
      dups = refl;
      first = refl;
      slots = refl;
      inside = f;
      beyond = refl;
      count = let n = length-records words in rw q (omega (arith, i));
      rest = rw (q, words-records words even, laid-start start r.stack.now h s, i, g);
    }

-- the list is whole
pub due-even : (e : Lent) → length e.words % 2 ≡ 0 → replay_due e ≡ seen_verdict (replay_from (job_lent e) e.stack.values (take e.filled e.spill) 0 0 e.words) e
unfolding replay_due
due-even e even = rw (eq-eqb (length e.words % 2) 0 even)

-- no record is left
pub ends : (e : Lent) (r : Replay) (ws : List Record) → Replaying e r ws → ws ≡ [] → (outcome : Result Unit Fault)
    → (b : Bool) → b ≡ same_list (values_now r) e.target → code_of outcome ≡ (if b then 0 else 41)
    → seen_now outcome r ≡ seen_verdict (replay_from (job_lent e) e.stack.values (take e.filled e.spill) 0 0 e.words) e
unfolding replay_from
ends e r ws now q outcome b s c =
    seen-is e r outcome now.inside now.beyond ∙ rw (c, ← now.rest, q, s)

-- ---- one record

-- a store has a slot to fill
room : (a b c : Bool) → ◌≡◌ {A = ℕ} 0 (if a then 37 else (if b then (if c then 39 else 0) else 38)) → c ≡ false
room true b c h = absurd (omega (arith, h))
room false true true h = absurd (omega (arith, h))
room false true false h = refl
room false false c h = absurd (omega (arith, h))

-- the slots and the words after an operation
record Slots (o : Op) (l spill spill₀ : List ℕ) (filled filled' : ℕ) (spill' : List ℕ) : Type 0 where
  pub long : length spill' ≡ length spill
  pub inside : filled' ≤ length spill'
  pub beyond : drop filled' spill' ≡ drop filled' spill₀
  pub slots : take filled' spill' ≡ spilled_after o (take filled spill) l

module _ (l spill spill₀ : List ℕ) (filled : ℕ) (inside : filled ≤ length spill) (beyond : drop filled spill ≡ drop filled spill₀) where
  fills : (j : Job) (o : Op) → j.slots ≡ length spill → 0 ≡ op_fault j l filled o
      → Slots o l spill spill₀ filled (filled_after (Ok o) filled) (spill_after (Ok o) filled l spill)
  fills j (Swap k) e z = record { long = refl; inside = inside; beyond = beyond; slots = refl }
  fills j (Dup k) e z = record { long = refl; inside = inside; beyond = beyond; slots = refl }
  fills j Pop e z = record { long = refl; inside = inside; beyond = beyond; slots = refl }
  fills j (Load id) e z = record { long = refl; inside = inside; beyond = beyond; slots = refl }
  fills j (Store id) e z =
      let h : filled < length spill = rw e at (leb-false j.slots filled (room (eqb (length l) 0) (eqb id (j.first + filled)) (leb j.slots filled) z)) in
      record {
        long = length-set spill filled (get_or l 0 0);
        inside = rw (length-set spill filled (get_or l 0 0)) (omega (arith, h));
        beyond = drop-set-lt (filled + 1) spill filled (get_or l 0 0) (omega arith) ∙ sym (drop-drop 1 filled spill) ∙ ap (drop 1) beyond ∙ drop-drop 1 filled spill₀;
        slots = rw (add-one filled) (take-suc-set spill filled (get_or l 0 0) h);
      }

module _ (e : Lent) (r : Replay) (x : Record) (ws : List Record) (now : Replaying e r (x ∷ ws)) where
  abbrev d : Option Op
  d = decoded x.kind x.argument

  -- the target and the room are no matter to a fault
  same-fault : (l : List ℕ) (m : ℕ) (d : Option Op) → fault (job_lent e) l m d ≡ fault (job_of r) l m d
  same-fault l m none = refl
  same-fault l m (some (Swap k)) = rw now.swaps
  same-fault l m (some (Dup k)) = rw now.dups
  same-fault l m (some Pop) = refl
  same-fault l m (some (Store id)) = rw (now.first, now.slots)
  same-fault l m (some (Load id)) = rw now.first

  module _ (r' : Replay) (same : SameRun r r') where
    pub refused : (f : Fault) → number_of f ≡ fault (job_of r) (values_now r) (length (slots_now r)) d → r'.filled ≡ r.filled → r'.spill.now ≡ r.spill.now
        → seen_now (Err f) r' ≡ seen_verdict (replay_from (job_lent e) e.stack.values (take e.filled e.spill) 0 0 e.words) e
    unfolding replay_from
    refused f c n s =
        let k : fault (job_lent e) (values_now r) (length (slots_now r)) d ≡ number_of f = same-fault (values_now r) (length (slots_now r)) d ∙ sym c in
        let v = verdict (number_of f) r.index r.gas (slots_now r) in
        let stop : v ≡ replay_from (job_lent e) e.stack.values (take e.filled e.spill) 0 0 e.words =
        sym (if-not-zero (number_of f) _ v (fault-code f)) ∙ rw k at now.rest in
        seen-is e r' (Err f) (rw (n, s) now.inside) (rw (n, s) now.beyond) ∙ rw (same.index, same.gas, n, s) (ap (λ (v : Verdict). seen_verdict v e) stop)

    pub done : (o : Op) → 0 ≡ fault (job_of r) (values_now r) (length (slots_now r)) d → d ≡ some o
        → values_now r' ≡ stack_after r.first o (slots_now r) (values_now r)
        → r'.filled ≡ filled_after (Ok o) r.filled → r'.spill.now ≡ spill_after (Ok o) r.filled (values_now r) r.spill.now
        → (r'' : Replay) → r''.stack ≡ r'.stack → r''.spill ≡ r'.spill → r''.first ≡ r'.first → r''.config ≡ r'.config → r''.filled ≡ r'.filled
        → r''.index ≡ r'.index + 1 → r''.gas ≡ more_gas r'.gas o
        → Replaying e r'' ws
    unfolding replay_from
    done o c q t n s r'' a b c' d' f g h =
        let fits : length (slots_now r) ≡ r.filled = length-take-le r.filled r.spill.now now.inside in
        let z : 0 ≡ op_fault (job_of r) (values_now r) (length (slots_now r)) o = rw q at c in
        let k : fault (job_lent e) (values_now r) (length (slots_now r)) (some o) ≡ 0 = same-fault (values_now r) (length (slots_now r)) (some o) ∙ sym z in
        let w = fills (values_now r) r.spill.now e.spill r.filled now.inside now.beyond (job_of r) o refl (rw fits at z) in
        record {
          swaps = rw (d', same.config) now.swaps;
          dups = rw (d', same.config) now.dups;
          first = rw (c', same.first) now.first;
          slots = rw (b, s) (w.long ∙ now.slots);
          inside = rw (b, f, n, s) w.inside;
          beyond = rw (b, f, n, s) w.beyond;
          count = let i = same.index in let j = now.count in omega arith;
          rest = let turned = rw (q, k) at now.rest in rw (a, b, f, g, h, t, n, s, w.slots, same.index, same.gas, ← now.first, add-one) turned;
        }

-- ---- the entry

module _ (e : Lent) where
  -- a job that is refused, and one that is not
  pub check-job : (v : Answer) (f : Fault) (r : Refusal) → v ≡ answered (Err f) 0 0 0 → f ≡ faults.Job r
      → codes.number_of r ≡ job_code e.S e.stack.height (length e.target) e.filled (length e.spill) e.first → seen v e.spill ≡ check_due e
  unfolding check_due replay
  check-job v f r u q c = rw (u, q) (go (codes.number_of r) refl)
    where
      go : (n : ℕ) → codes.number_of r ≡ n → seen (answered (Err (faults.Job r)) 0 0 0) e.spill ≡ check_due e
      go zero z = absurd (refusal-code r z)
      go (suc n) z = rw (← c, z)

  pub check-run : (outcome : Result Unit Fault) (r : Replay) (spill : List ℕ) → 0 ≡ job_code e.S e.stack.height (length e.target) e.filled (length e.spill) e.first
      → seen_now outcome r ≡ replay_due e → spill ≡ r.spill.now → seen (answered outcome r.index r.gas r.filled) spill ≡ check_due e
  unfolding check_due replay replay_due
  check-run outcome r spill z q s = rw s (q ∙ rw (← z))
