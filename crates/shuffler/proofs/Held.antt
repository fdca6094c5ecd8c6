-- One tracked call on what is held is one operation on the state: the same code, and the state after it is held.
use Rattle.std.specs.Prelude.{if◌then◌else◌}
use Prim.Native.Nat.{ℕ, suc, ◌+◌, ◌-◌, ◌*◌, ◌≤◌, ◌<◌}
use native.Mathlib.Omega.{arith}
use mathlib.Core.Path.{◌≡◌, refl, sym, ap, ◌∙◌, subst}
use mathlib.Core.Bool.{Bool, true, false, true≢false}
use mathlib.Core.List.{List, [], ◌∷◌, ◌++◌, append_assoc}
use lib.ListN.{length, get_or, set, take, drop, length-append, length-take, length-drop, length-set}
use lib.Seq.{set_at, drop-cons, drop-drop, length-take-le, take-append_seam}
use lib.Dec.{eqb, leb, ltb}
use borrow.Author.Tests.{leb-true, leb-false, le-leb, lt-leb, le-ltb, ne_eqb}
use Rattle.scope.specs.declared.Op.{Op}
use Rattle.scope.specs.declared.Op.TheVariants.{Swap, Dup, Pop, Store, Load}
use Rattle.scope.specs.Words.{Stack, stack_of}
use Rattle.scope.specs.Machine.{capacity, swapped, kind, argument, words_of, over, over_from}
use Rattle.scope.specs.Rules.{State}
use Rattle.scope.specs.Shuffle.{no_record, refusal, after, perform}
use Rattle.scope.specs.Tracked.{Stepped, emitted, writes, pop_step, swap_step, dup_step, load_step, spill_step, refused_step}
use Rattle.scope.specs.Once.{Lent, job_lent}
use Rattle.scope.proofs.Exact.{even-words}
use Rattle.shuffler.specs.Held.{Holding, Held, stepped, Ran}

pub words_append : (a b : List Op) → words_of (a ++ b) ≡ words_of a ++ words_of b
unfolding words_of
words_append [] b = refl
words_append (o ∷ a) b = ap (λ (l : List ℕ). kind o ∷ argument o ∷ l) (words_append a b)

one_more : (os : List Op) (o : Op) → words_of (os ++ (o ∷ [])) ≡ words_of os ++ (kind o ∷ argument o ∷ [])
unfolding words_of
one_more os o = words_append os (o ∷ [])

-- ---- the buffers

-- a list over a buffer that it fits leaves the buffer's length
over-length : (l b : List ℕ) → length l ≤ length b → length (over l b) ≡ length b
over-length l b h = simp (length-append, length-drop) (omega arith)

-- one entry more
over-set : (l b : List ℕ) (v : ℕ) → length l < length b → set (over l b) (length l) v ≡ over (l ++ (v ∷ [])) b
over-set l b v h =
    let n : length (l ++ (v ∷ [])) ≡ suc (length l) = simp length-append (omega arith) in
    rw (n, append_assoc l (v ∷ []) (drop (suc (length l)) b), drop-cons b (length l) 0 h) (set_at l (get_or b (length l) 0) (drop (suc (length l)) b) v (length l) refl)

-- one record more: p is what stands before it
two-set : (p r : List ℕ) (a b n : ℕ) → length p ≡ n → 2 ≤ length r → set (set (p ++ r) n a) (n + 1) b ≡ (p ++ (a ∷ b ∷ [])) ++ drop 2 r
two-set p [] a b n e h = absurd (omega arith)
two-set p (x ∷ []) a b n e h = absurd (omega arith)
two-set p (x ∷ y ∷ r) a b n e h =
    let q : length (p ++ (a ∷ [])) ≡ n + 1 = simp length-append (omega arith) in
    rw (set_at p x (y ∷ r) a n e, append_assoc p (a ∷ b ∷ []) r)
    (ap (λ (l : List ℕ). set l (n + 1) b) (sym (append_assoc p (a ∷ []) (y ∷ r))) ∙ set_at (p ++ (a ∷ [])) y r b (n + 1) q ∙ append_assoc p (a ∷ []) (b ∷ r))

emitted-over : (W : List ℕ) (w : ℕ) (os : List Op) (o : Op) → length os < capacity (length W) - w
    → emitted (over_from (2 * w) (words_of os) W) (w + length os) o ≡ over_from (2 * w) (words_of (os ++ (o ∷ []))) W
unfolding emitted
emitted-over W w os o h =
    let P = take (2 * w) W ++ words_of os in
    let R = drop (length (words_of os)) (drop (2 * w) W) in
    let n = 2 * (w + length os) in
    let m : length (words_of os) ≡ 2 * length os = even-words os in
    let front : length (take (2 * w) W) ≡ 2 * w = length-take-le (2 * w) W (omega arith) in
    let p : length P ≡ n = length-append (take (2 * w) W) (words_of os) ∙ omega arith in
    let r : 2 ≤ length R = simp length-drop (omega arith) in
    let two : words_of (os ++ (o ∷ [])) ≡ words_of os ++ (kind o ∷ argument o ∷ []) = one_more os o in
    let size : length (words_of (os ++ (o ∷ []))) ≡ length (words_of os) + 2 = ap length two ∙ length-append (words_of os) (kind o ∷ argument o ∷ []) in
    ap (λ (l : List ℕ). set (set l n (kind o)) (n + 1) (argument o)) (sym (append_assoc (take (2 * w) W) (words_of os) R))
    ∙ two-set P R (kind o) (argument o) n p r
    ∙ append_assoc P (kind o ∷ argument o ∷ []) (drop 2 R)
    ∙ append_assoc (take (2 * w) W) (words_of os) ((kind o ∷ argument o ∷ []) ++ drop 2 R)
    ∙ ap (λ (l : List ℕ). take (2 * w) W ++ l)
    (sym (append_assoc (words_of os) (kind o ∷ argument o ∷ []) (drop 2 R)) ∙ rw (size, two, drop-drop 2 (length (words_of os)) (drop (2 * w) W)))

-- a room that is counted from the start of the buffer, or from what was written before
leb-less : (a w k : ℕ) → leb a (w + k) ≡ leb (a - w) k
leb-less a w k = go (leb a (w + k)) refl
  where
    go : (b : Bool) → leb a (w + k) ≡ b → leb a (w + k) ≡ leb (a - w) k
    go true e = e ∙ sym (le-leb (a - w) k (omega (arith, leb-true a (w + k) e)))
    go false e = e ∙ sym (lt-leb (a - w) k (omega (arith, leb-false a (w + k) e)))

module _ (e : Lent) (x : Holding) (s : State) (h : Held e x s) where
  words-length : length x.words ≡ length e.words
  words-length =
      let a = h.records in
      let b = even-words s.ops in
      rw h.words (simp (length-append, length-take, length-drop) (omega arith))

  -- the test for a record's room is the definition's
  room-is : leb (capacity (length x.words)) x.tracked.written ≡ leb (job_lent e).room (length s.ops)
  room-is = rw (words-length, h.written) (leb-less (capacity (length e.words)) e.written (length s.ops))

  -- the spill list
  pub stored_is : take x.tracked.filled x.spill ≡ s.spilled
  stored_is = rw (h.filled, h.spill) (take-append_seam s.spilled (drop (length s.spilled) e.spill))

  pub values-are : x.tracked.stack.values ≡ s.C
  values-are = ap (λ (y : Stack). y.values) h.stack

  -- an operation that lacks nothing but perhaps its record
  module _ (k : ℕ) (o : Op) (l : List ℕ) (filled : ℕ) (spill : List ℕ)
      (plain : refusal (job_lent e) s o ≡ no_record (job_lent e) s)
      (stack : l ≡ (after (job_lent e) s o).C) (low : length l ≤ 1024)
      (count : filled ≡ length (after (job_lent e) s o).spilled) (slots : length (after (job_lent e) s o).spilled ≤ length e.spill) where
    abbrev step : Stepped
    step = writes x.tracked x.words l filled o

    pub writes-ran : (step.code ≡ 0 → spill ≡ over (after (job_lent e) s o).spilled e.spill) → ((step.code ≡ 0 → ⊥) → spill ≡ x.spill)
        → Ran e step.code (stepped x step spill) (perform (job_lent e) s k (o ∷ []))
    unfolding perform
    writes-ran done not_done = go (leb (job_lent e).room (length s.ops)) refl
      where
        go : (b : Bool) → leb (job_lent e).room (length s.ops) ≡ b → Ran e step.code (stepped x step spill) (perform (job_lent e) s k (o ∷ []))
        go true q =
            let t : leb (capacity (length x.words)) x.tracked.written ≡ true = room-is ∙ q in
            let same : spill ≡ x.spill = not_done (rw t (λ z. omega arith)) in
            rw (plain, q, t) (record { code = refl; held = rw same h })
        go false q =
            let t : leb (capacity (length x.words)) x.tracked.written ≡ false = room-is ∙ q in
            let new : spill ≡ over (after (job_lent e) s o).spilled e.spill = done (rw t refl) in
            let room : length s.ops < capacity (length e.words) - e.written = leb-false (job_lent e).room (length s.ops) q in
            let n : length (s.ops ++ (o ∷ [])) ≡ length s.ops + 1 = length-append s.ops (o ∷ []) in
            rw (plain, q, t)
            (record {
              code = refl;
              held = record {
                stack = ap stack_of stack;
                low = rw (← stack) low;
                complete = h.complete;
                first = h.first;
                numbers = h.numbers;
                filled = count;
                slots = slots;
                spill = new;
                written = omega (arith, h.written);
                records = omega arith;
                words = rw (h.words, h.written) (emitted-over e.words e.written s.ops o room);
              };
            })

  -- ---- the calls, where what they name is there: 20 to 23 do not come

  height-is : length x.tracked.stack.values ≡ length s.C
  height-is = ap length values-are

  pub pop-ran : (k : ℕ) → 0 < length s.C → Ran e (pop_step x.tracked x.words).code (stepped x (pop_step x.tracked x.words) x.spill) (perform (job_lent e) s k (Pop ∷ []))
  unfolding pop_step
  pop-ran k p =
      rw (ne_eqb (length x.tracked.stack.values) 0 (λ z. omega (arith, height-is)))
      (writes-ran k Pop (drop 1 x.tracked.stack.values) x.tracked.filled x.spill refl (ap (drop 1) values-are) (simp length-drop (omega (arith, height-is, h.low))) h.filled h.slots (λ z. h.spill) (λ z. refl))

  pub swap-ran : (k d : ℕ) → 0 < d → d < length s.C → Ran e (swap_step d x.tracked x.words).code (stepped x (swap_step d x.tracked x.words) x.spill) (perform (job_lent e) s k (Swap d ∷ []))
  unfolding swap_step
  swap-ran k d a b =
      rw (ne_eqb d 0 (λ z. omega arith), ne_eqb (length x.tracked.stack.values) 0 (λ z. omega (arith, height-is)), lt-leb (length x.tracked.stack.values) d (omega (arith, height-is)))
      (writes-ran k (Swap d) (swapped d x.tracked.stack.values) x.tracked.filled x.spill refl (ap (swapped d) values-are) (simp length-set (omega (arith, height-is, h.low))) h.filled h.slots (λ z. h.spill) (λ z. refl))

  -- Dup and Load: a value is pushed
  abbrev pushes : Op → ℕ → Stepped
  pushes o v =
      if leb 1024 (length x.tracked.stack.values) then refused_step 7 x.tracked x.words
      else writes x.tracked x.words (v ∷ x.tracked.stack.values) x.tracked.filled o

  push-ran : (k : ℕ) (o : Op) (v : ℕ) → refusal (job_lent e) s o ≡ (if leb 1024 (length s.C) then 7 else no_record (job_lent e) s)
      → v ∷ s.C ≡ (after (job_lent e) s o).C → s.spilled ≡ (after (job_lent e) s o).spilled
      → Ran e (pushes o v).code (stepped x (pushes o v) x.spill) (perform (job_lent e) s k (o ∷ []))
  unfolding perform
  push-ran k o v is stack slots = go (leb 1024 (length s.C)) refl
    where
      at : (b : Bool) → leb 1024 (length s.C) ≡ b → leb 1024 (length x.tracked.stack.values) ≡ b
      at b q = ap (leb 1024) height-is ∙ q

      go : (b : Bool) → leb 1024 (length s.C) ≡ b → Ran e (pushes o v).code (stepped x (pushes o v) x.spill) (perform (job_lent e) s k (o ∷ []))
      go true q = rw (at true q, is, q) (record { code = refl; held = h })
      go false q =
          let plain : refusal (job_lent e) s o ≡ no_record (job_lent e) s = rw q at is in
          let low : length x.tracked.stack.values < 1024 = omega (arith, height-is, leb-false 1024 (length s.C) q) in
          rw (at false q)
          (writes-ran k o (v ∷ x.tracked.stack.values) x.tracked.filled x.spill plain (ap (λ (l : List ℕ). v ∷ l) values-are ∙ stack) low (rw (← slots) h.filled) (rw (← slots) h.slots) (λ z. rw (← slots) h.spill) (λ z. refl))

  pub dup-ran : (k d : ℕ) → d < length s.C → Ran e (dup_step d x.tracked x.words).code (stepped x (dup_step d x.tracked x.words) x.spill) (perform (job_lent e) s k (Dup d ∷ []))
  unfolding dup_step
  dup-ran k d a =
      rw (ne_eqb (length x.tracked.stack.values) 0 (λ z. omega (arith, height-is)), lt-leb (length x.tracked.stack.values) d (omega (arith, height-is)))
      (push-ran k (Dup d) (get_or x.tracked.stack.values d 0) refl (ap (λ (l : List ℕ). get_or l d 0 ∷ s.C) values-are) refl)

  pub load-ran : (k i : ℕ) → i < length s.spilled
      → Ran e (load_step (x.tracked.first + i) x.tracked x.words x.spill).code (stepped x (load_step (x.tracked.first + i) x.tracked x.words x.spill) x.spill)
      (perform (job_lent e) s k (Load (e.first + i) ∷ []))
  unfolding load_step
  load-ran k i a = rw (le-ltb (x.tracked.first + i) x.tracked.first (omega arith), filled-slot) (subst Lands (ap (λ (n : ℕ). n + i) (sym h.first)) lands)
    where
      v : ℕ
      v = get_or (take x.tracked.filled x.spill) (x.tracked.first + i - x.tracked.first) 0

      here : x.tracked.first + i - x.tracked.first ≡ i
      here = omega arith

      there : e.first + i - e.first ≡ i
      there = omega arith

      filled-slot : leb (length (take x.tracked.filled x.spill)) (x.tracked.first + i - x.tracked.first) ≡ false
      filled-slot = rw (stored_is, here) (lt-leb (length s.spilled) i a)

      value : v ≡ get_or s.spilled (e.first + i - e.first) 0
      value = rw (stored_is, here, there)

      Lands : ℕ → Type 0
      Lands n = Ran e (pushes (Load n) v).code (stepped x (pushes (Load n) v) x.spill) (perform (job_lent e) s k (Load (e.first + i) ∷ []))

      lands : Lands (e.first + i)
      lands = push-ran k (Load (e.first + i)) v refl (ap (λ (w : ℕ). w ∷ s.C) value) refl

  pub store-ran : (k : ℕ) → 0 < length s.C
      → Ran e (spill_step x.tracked x.words x.spill).step.code (stepped x (spill_step x.tracked x.words x.spill).step (spill_step x.tracked x.words x.spill).spill)
      (perform (job_lent e) s k (Store (e.first + length s.spilled) ∷ []))
  unfolding spill_step perform
  store-ran k p = go (leb (length e.spill) (length s.spilled)) refl (leb (capacity (length x.words)) x.tracked.written) refl
    where
      Whole : Type 0
      Whole =
          Ran e (spill_step x.tracked x.words x.spill).step.code (stepped x (spill_step x.tracked x.words x.spill).step (spill_step x.tracked x.words x.spill).spill)
          (perform (job_lent e) s k (Store (e.first + length s.spilled) ∷ []))

      some : eqb (length x.tracked.stack.values) 0 ≡ false
      some = ne_eqb (length x.tracked.stack.values) 0 (λ z. omega (arith, height-is))

      slots-is : length x.spill ≡ length e.spill
      slots-is = rw h.spill (over-length s.spilled e.spill h.slots)

      free : leb (length x.spill) x.tracked.filled ≡ leb (length e.spill) (length s.spilled)
      free = rw (slots-is, h.filled)

      next : x.tracked.first + x.tracked.filled ≡ e.first + length s.spilled
      next = rw (h.first, h.filled)

      numbered : length s.spilled < length e.spill → ltb 4294967295 (x.tracked.first + x.tracked.filled) ≡ false
      numbered q = le-ltb 4294967295 (x.tracked.first + x.tracked.filled) (omega (arith, next, h.numbers))

      top : get_or x.tracked.stack.values 0 0 ≡ get_or s.C 0 0
      top = ap (λ (l : List ℕ). get_or l 0 0) values-are

      Lands : List ℕ → ℕ → Type 0
      Lands spill n =
          let d = writes x.tracked x.words (drop 1 x.tracked.stack.values) (x.tracked.filled + 1) (Store n) in
          Ran e d.code (stepped x d spill) (perform (job_lent e) s k (Store (e.first + length s.spilled) ∷ []))

      more : length (s.spilled ++ (get_or s.C 0 0 ∷ [])) ≡ length s.spilled + 1
      more = length-append s.spilled (get_or s.C 0 0 ∷ [])

      lands : (spill : List ℕ) → length s.spilled < length e.spill → leb (length e.spill) (length s.spilled) ≡ false
          → (leb (capacity (length x.words)) x.tracked.written ≡ false → spill ≡ over (s.spilled ++ (get_or s.C 0 0 ∷ [])) e.spill)
          → (leb (capacity (length x.words)) x.tracked.written ≡ true → spill ≡ x.spill) → Lands spill (x.tracked.first + x.tracked.filled)
      lands spill less q done not_done =
          subst (Lands spill) (sym next)
          (writes-ran k (Store (e.first + length s.spilled)) (drop 1 x.tracked.stack.values) (x.tracked.filled + 1) spill (rw q) (ap (drop 1) values-are)
          (simp length-drop (omega (arith, height-is, h.low))) (omega (arith, h.filled, more)) (omega (arith, more))
          (λ z. done (room-left (leb (capacity (length x.words)) x.tracked.written) refl z)) (λ z. not_done (no-room-left (leb (capacity (length x.words)) x.tracked.written) refl z)))
        where
          d : ℕ → Stepped
          d n = writes x.tracked x.words (drop 1 x.tracked.stack.values) (x.tracked.filled + 1) (Store n)

          room-left : (b : Bool) → leb (capacity (length x.words)) x.tracked.written ≡ b → (d (e.first + length s.spilled)).code ≡ 0 → leb (capacity (length x.words)) x.tracked.written ≡ false
          room-left true f z = let y : ◌≡◌ {A = ℕ} 11 0 = rw f at z in absurd (omega arith)
          room-left false f z = f

          no-room-left : (b : Bool) → leb (capacity (length x.words)) x.tracked.written ≡ b → ((d (e.first + length s.spilled)).code ≡ 0 → ⊥) → leb (capacity (length x.words)) x.tracked.written ≡ true
          no-room-left true f z = f
          no-room-left false f z = absurd (z (rw f refl))

      go : (b : Bool) → leb (length e.spill) (length s.spilled) ≡ b → (c : Bool) → leb (capacity (length x.words)) x.tracked.written ≡ c → Whole
      go true q c f = rw (some, free ∙ q, q) (record { code = refl; held = h })
      go false q true f =
          let less = leb-false (length e.spill) (length s.spilled) q in
          rw (some, free ∙ q, numbered less, f) (rw f at (lands x.spill less q (λ z. absurd (true≢false (sym f ∙ z))) (λ z. refl)))
      go false q false f =
          let less = leb-false (length e.spill) (length s.spilled) q in
          let new : set x.spill x.tracked.filled (get_or x.tracked.stack.values 0 0) ≡ over (s.spilled ++ (get_or s.C 0 0 ∷ [])) e.spill =
          rw (h.spill, h.filled, top) (over-set s.spilled e.spill (get_or s.C 0 0) less) in
          rw (some, free ∙ q, numbered less, f)
          (rw f at (lands (set x.spill x.tracked.filled (get_or x.tracked.stack.values 0 0)) less q (λ z. new) (λ z. absurd (true≢false (sym z ∙ f)))))
