-- Which codes come back: every refusal of a plan, of an operation, of a loop and of a job is one of document 01's.
use Rattle.std.specs.Prelude.{if◌then◌else◌}
use Prim.Native.Nat.{ℕ, zero, suc, ◌+◌, ◌-◌, ◌≤◌, min}
use native.Mathlib.Omega.{arith}
use mathlib.Core.Path.{◌≡◌, refl}
use mathlib.Core.Bool.{Bool, true, false, not, ◌&&◌, ◌||◌}
use Rattle.std.proofs.Common.{Option, None as none, Some as some}
use mathlib.Core.List.{List, [], ◌∷◌}
use lib.ListN.{length, get_or, replicate}
use lib.Dec.{eqb, leb, ltb}
use Rattle.scope.specs.declared.Op.{Op}
use Rattle.scope.specs.declared.Op.TheVariants.{Swap, Dup, Pop, Store, Load}
use Rattle.scope.specs.Words.{same_list, ◌∈◌, count, ◌at◌, ◌from◌, lowest, first_of, latest_of}
use Rattle.scope.specs.Rules.{Job, State, Plan, write, refuse, pass, ◌▹◌, Asked, yes, no, outside, on_answer, pop_if, swap_with, load_slot, load, store, exchange, exchange_at, dup_at, dup_of, load_for, giver, floor, asked, differs, wants_top, extra, extra_at, can_be_set_right, needs_copy, out_of_reach, rule_a, rule_b, rule_c, rule_d, rule_e, rule_f, rule_x, may_push, store_unless_push, rule_u, rule_v, rule_w, shrink_plan, grow_plan}
use Rattle.scope.specs.Shuffle.{no_record, refusal, after, perform, carry_out, recount, loop, shrinks, grows, shrink, grow, finish, Start, job_code, code_of, run_from, shuffle}
use Rattle.scope.specs.Replay.{decoded, op_fault, fault, stack_then, spilled_then, gas_then, replay_from, replay, odd_words}

-- ---- the shuffle: at most 12

Small : Plan → Type 0
Small (write os) = 0 ≤ 12
Small (refuse r) = r ≤ 12
Small pass = 0 ≤ 12

first_small : (p q : Plan) → Small p → Small q → Small (p ▹ q)
unfolding Small
first_small (write os) q a b = a
first_small (refuse r) q a b = a
first_small pass q a b = b

if-small : (b : Bool) (p q : Plan) → Small p → Small q → Small (if b then p else q)
if-small true p q x y = x
if-small false p q x y = y

answer-small : (a : Asked) (p q : Plan) → Small p → Small q → Small (on_answer a p q)
unfolding Small
answer-small yes p q x y = x
answer-small no p q x y = y
answer-small outside p q x y = omega arith

module _ (j : Job) (s : State) where
  written : (os : List Op) → Small (write os)
  unfolding Small
  written os = omega arith

  passed : Small pass
  unfolding Small
  passed = omega arith

  pop_if-small : (b : Bool) → Small (pop_if j s b)
  pop_if-small b = if-small b (write (Pop ∷ [])) pass (written (Pop ∷ [])) passed

  swap-small : (os : List Op) (o : Option ℕ) → Small (swap_with j s os o)
  swap-small os none = passed
  swap-small os (some p) = written _

  load-small : (v : ℕ) → Small (load j s v)
  unfolding load Small
  load-small v = go (latest_of v s.spilled)
    where
      go : (o : Option ℕ) → Small (load_slot j s o)
      go none = omega arith
      go (some i) = omega arith

  exchange-small : (o : Option ℕ) → Small (exchange_at j s o)
  exchange-small none = passed
  exchange-small (some p) = go p (giver s.C j.T _ p)
    where
      go : (p : ℕ) (o : Option ℕ) → Small (exchange j s p o)
      go p none = passed
      go p (some q) = written _

  dup-small : (o : Option ℕ) → Small (dup_of j s o)
  dup-small none = passed
  dup-small (some p) = go (first_of (j.T at p) s.C)
    where
      go : (o : Option ℕ) → Small (dup_at j s o)
      go none = passed
      go (some d) = written _

  load_for-small : (o : Option ℕ) → Small (load_for j s o)
  unfolding Small
  load_for-small none = omega arith
  load_for-small (some p) = load-small (j.T at p)

  store-small : Small (store j s)
  unfolding store
  store-small = written _

  A-small : Small (rule_a j s)
  unfolding rule_a
  A-small = pop_if-small (eqb s.c (length j.T) || not (get_or s.C 0 0 ∈ (j.T from s.c)))

  B-small : Small (rule_b j s)
  unfolding rule_b
  B-small = swap-small [] (lowest (floor j s) (min (length s.C) (length j.T)) (wants_top s.C j.T (get_or s.C 0 0)))

  C-small : Small (rule_c j s)
  unfolding rule_c
  C-small = pop_if-small (extra s.C j.T s.c (get_or s.C 0 0))

  D-small : Small (rule_d j s)
  unfolding rule_d
  D-small = swap-small (Pop ∷ []) (lowest (floor j s) (length s.C) (extra_at s.C j.T s.c))

  E-small : Small (rule_e j s)
  unfolding rule_e
  E-small = pop_if-small (leb 2 (count (get_or s.C 0 0) (s.C from s.c)))

  F-small : Small (rule_f j s)
  unfolding rule_f
  F-small = store-small

  X-small : Small (rule_x j s)
  unfolding rule_x
  X-small = exchange-small (lowest (floor j s) (min (length s.C) (length j.T)) (can_be_set_right s.C j.T (floor j s)))

  push-small : Small (store_unless_push j s)
  unfolding store_unless_push
  push-small = answer-small (may_push j s) pass (store j s) passed store-small

  U-small : Small (rule_u j s)
  unfolding rule_u
  U-small =
      let k = length s.C - j.S in
      if-small (ltb (length s.C) j.S) pass _ passed
      (answer-small (asked j s k (differs s.C j.T k && out_of_reach s.C j.T j.S k)) (load j s (j.T at k)) pass (load-small (j.T at k)) passed)

  V-small : Small (rule_v j s)
  unfolding rule_v
  V-small =
      let b = length s.C - 1 - min j.D (length s.C - 1) in
      if-small (eqb (length s.C) 0) pass _ passed (dup-small (lowest b (min (length s.C) (length j.T)) (needs_copy s.C j.T b)))

  W-small : Small (rule_w j s)
  unfolding rule_w
  W-small = load_for-small (lowest s.c (length j.T) (out_of_reach s.C j.T (min (j.D + 1) (length s.C))))

  shrink-small : Small (shrink_plan j s)
  unfolding shrink_plan
  shrink-small =
      first_small (rule_a j s) _ A-small (first_small (rule_b j s) _ B-small (first_small (rule_c j s) _ C-small
      (first_small (rule_d j s) _ D-small (first_small (rule_e j s) (rule_f j s) E-small F-small))))

  grow-small : Small (grow_plan j s)
  unfolding grow_plan
  grow-small =
      first_small (if ltb s.c (length s.C) then rule_a j s ▹ rule_b j s ▹ rule_x j s ▹ rule_c j s else pass) _
      (if-small (ltb s.c (length s.C)) _ pass
      (first_small (rule_a j s) _ A-small (first_small (rule_b j s) _ B-small (first_small (rule_x j s) (rule_c j s) X-small C-small))) passed)
      (first_small (store_unless_push j s) _ push-small (first_small (rule_u j s) _ U-small (first_small (rule_v j s) (rule_w j s) V-small W-small)))

test-small : (b : Bool) (x y n : ℕ) → x ≤ n → y ≤ n → (if b then x else y) ≤ n
test-small true x y n a c = a
test-small false x y n a c = c

no_record-small : (j : Job) (s : State) → no_record j s ≤ 12
no_record-small j s = test-small (leb j.room (length s.ops)) 11 0 12 (omega arith) (omega arith)

refusal-small : (j : Job) (s : State) (o : Op) → refusal j s o ≤ 12
refusal-small j s (Swap k) = no_record-small j s
refusal-small j s (Dup k) = test-small (leb 1024 (length s.C)) 7 (no_record j s) 12 (omega arith) (no_record-small j s)
refusal-small j s Pop = no_record-small j s
refusal-small j s (Store id) = test-small (leb j.slots (length s.spilled)) 10 (no_record j s) 12 (omega arith) (no_record-small j s)
refusal-small j s (Load id) = test-small (leb 1024 (length s.C)) 7 (no_record j s) 12 (omega arith) (no_record-small j s)

perform-small : (j : Job) (s : State) (k : ℕ) (os : List Op) → (perform j s k os).code ≤ 12
unfolding perform
perform-small j s k [] = omega arith
perform-small j s k (o ∷ os) = go (refusal j s o) refl (perform-small j (after j s o) k os)
  where
    go : (r : ℕ) → refusal j s o ≡ r → (perform j (after j s o) k os).code ≤ 12 → (perform j s k (o ∷ os)).code ≤ 12
    go zero e rest = rw e rest
    go (suc r) e rest = rw e (omega (arith, refusal-small j s o))

carry-small : (j : Job) (s : State) (k : ℕ) (p : Plan) → Small p → (carry_out j s k p).code ≤ 12
unfolding Small
carry-small j s k (write os) h = perform-small j s k os
carry-small j s k (refuse r) h = h
carry-small j s k pass h = h

loop-small : (j : Job) (goes : State → Bool) (plan : State → Plan) → ((s : State) → Small (plan s)) → (left k : ℕ) (s : State) → (loop j goes plan left k s).code ≤ 12
unfolding loop
loop-small j goes plan small zero k s = go (goes s) refl
  where
    go : (b : Bool) → goes s ≡ b → (loop j goes plan zero k s).code ≤ 12
    go true e = rw e (omega arith)
    go false e = rw e (omega arith)
loop-small j goes plan small (suc left) k s = go (goes s) refl (carry_out j s (suc k) (plan s)).code refl
    (loop-small j goes plan small left (suc k) (recount j (carry_out j s (suc k) (plan s)).state))
  where
    go : (b : Bool) → goes s ≡ b → (r : ℕ) → (carry_out j s (suc k) (plan s)).code ≡ r
        → (loop j goes plan left (suc k) (recount j (carry_out j s (suc k) (plan s)).state)).code ≤ 12 → (loop j goes plan (suc left) k s).code ≤ 12
    go true e zero f rest = rw (e, f) rest
    go true e (suc r) f rest = rw (e, f) (carry-small j s (suc k) (plan s) (small s))
    go false e r f rest = rw e (omega arith)

shrink-code : (j : Job) (s : State) → (shrink j s).code ≤ 12
unfolding shrink
shrink-code j s = loop-small j (shrinks j) (shrink_plan j) (shrink-small j) 100000 0 s

grow-code : (j : Job) (s : State) → (grow j s).code ≤ 12
unfolding grow
grow-code j s = loop-small j (grows j) (grow_plan j) (grow-small j) 100000 0 s

finish-code : (j : Job) (s : State) → (finish j s).code ≤ 12
unfolding finish
finish-code j s = perform-small j s 0 (replicate (length s.C - length j.T) Pop)

run_small : (j : Job) (s : State) → (run_from j s).code ≤ 12
unfolding run_from
run_small j s = go (shrink j (recount j s)).code refl (grow j (shrink j (recount j s)).state).code refl
  where
    go : (x : ℕ) → (shrink j (recount j s)).code ≡ x → (y : ℕ) → (grow j (shrink j (recount j s)).state).code ≡ y → (run_from j s).code ≤ 12
    go zero e zero f = rw (e, f) (finish-code j (grow j (shrink j (recount j s)).state).state)
    go zero e (suc y) f = rw (e, f) (omega (arith, grow-code j (shrink j (recount j s)).state))
    go (suc x) e y f = rw e (omega (arith, shrink-code j (recount j s)))

code-small : (S height target filled slots first : ℕ) → job_code S height target filled slots first ≤ 5
code-small S height target filled slots first =
    test-small (eqb S 0) 1 _ 5 (omega arith) (test-small (ltb 1024 height) 2 _ 5 (omega arith) (test-small (ltb 1024 target) 3 _ 5 (omega arith)
    (test-small (ltb slots filled) 4 _ 5 (omega arith) (test-small (ltb 4294967295 (first + slots)) 5 0 5 (omega arith) (omega arith)))))

-- The shuffle answers 0 to 12 and nothing else.
pub shuffle-codes : (j : Job) (b : Start) → (shuffle j b).code ≤ 12
unfolding shuffle
shuffle-codes j b = go (code_of j b) refl
  where
    go : (r : ℕ) → code_of j b ≡ r → (shuffle j b).code ≤ 12
    go zero e = rw e (run_small j _)
    go (suc r) e = rw e (omega (arith, code-small j.S b.stack.height (length j.T) b.filled j.slots j.first))

-- ---- the checker: 0 to 5 and 30 to 41

-- one of the checker's codes: 0 to 5, or 30 to 41
pub data Listed (r : ℕ) : Type 0 where
  low : r ≤ 5 → Listed r
  high : 30 ≤ r → r ≤ 41 → Listed r

test-listed : (b : Bool) (x y : ℕ) → Listed x → Listed y → Listed (if b then x else y)
test-listed true x y p q = p
test-listed false x y p q = q

none-wrong : Listed 0
none-wrong = low (omega arith)

op-listed : (j : Job) (l : List ℕ) (m : ℕ) (o : Op) → Listed (op_fault j l m o)
op-listed j l m (Swap k) =
    test-listed (eqb k 0 || ltb j.S k) 32 _ (high (omega arith) (omega arith)) (test-listed (leb (length l) k) 33 0 (high (omega arith) (omega arith)) none-wrong)
op-listed j l m (Dup k) =
    test-listed (ltb j.D k) 34 _ (high (omega arith) (omega arith))
    (test-listed (leb (length l) k) 35 _ (high (omega arith) (omega arith)) (test-listed (leb 1024 (length l)) 36 0 (high (omega arith) (omega arith)) none-wrong))
op-listed j l m Pop = test-listed (eqb (length l) 0) 37 0 (high (omega arith) (omega arith)) none-wrong
op-listed j l m (Store id) =
    test-listed (eqb (length l) 0) 37 _ (high (omega arith) (omega arith))
    (test-listed (eqb id (j.first + m)) _ 38 (test-listed (leb j.slots m) 39 0 (high (omega arith) (omega arith)) none-wrong) (high (omega arith) (omega arith)))
op-listed j l m (Load id) =
    test-listed (leb 1024 (length l)) 36 _ (high (omega arith) (omega arith))
    (test-listed (ltb id j.first || leb (j.first + m) id) 40 0 (high (omega arith) (omega arith)) none-wrong)

fault-listed : (j : Job) (l : List ℕ) (m : ℕ) (o : Option Op) → Listed (fault j l m o)
fault-listed j l m none = high (omega arith) (omega arith)
fault-listed j l m (some o) = op-listed j l m o

replay-listed : (j : Job) (l spilled : List ℕ) (i g : ℕ) (ws : List ℕ) → Listed (replay_from j l spilled i g ws).code
unfolding replay_from
replay-listed j l spilled i g [] = test-listed (same_list l j.T) 0 41 none-wrong (high (omega arith) (omega arith))
replay-listed j l spilled i g (k ∷ []) = high (omega arith) (omega arith)
replay-listed j l spilled i g (k ∷ a ∷ ws) = go (fault j l (length spilled) (decoded k a)) refl (replay-listed j (stack_then j spilled l (decoded k a)) (spilled_then spilled l (decoded k a)) (suc i) (gas_then g (decoded k a)) ws)
  where
    go : (r : ℕ) → fault j l (length spilled) (decoded k a) ≡ r → Listed (replay_from j (stack_then j spilled l (decoded k a)) (spilled_then spilled l (decoded k a)) (suc i) (gas_then g (decoded k a)) ws).code
        → Listed (replay_from j l spilled i g (k ∷ a ∷ ws)).code
    go zero e rest = rw e rest
    go (suc r) e rest = rw e (rw e at (fault-listed j l (length spilled) (decoded k a)))

-- The checker answers only the codes that document 01 lists for it.
pub check-codes : (j : Job) (b : Start) (words : List ℕ) → Listed (replay j b words).code
unfolding replay
check-codes j b words = go (code_of j b) refl (odd_words words) refl
  where
    go : (r : ℕ) → code_of j b ≡ r → (x : ℕ) → odd_words words ≡ x → Listed (replay j b words).code
    go zero e zero f = rw (e, f) (replay-listed j _ _ 0 0 words)
    go zero e (suc x) f = rw (e, f) (high (omega arith) (omega arith))
    go (suc r) e x f = rw e (low (omega (arith, code-small j.S b.stack.height (length j.T) b.filled j.slots j.first)))
