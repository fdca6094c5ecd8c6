-- A legal Swap, Dup or Pop does what its instruction does on the Yellow Paper's machine, item by item; where the checker refuses one for the stack's sake, the machine halts.
use Rattle.std.specs.Prelude.{if◌then◌else◌}
use Prim.Native.Nat.{ℕ, zero, suc, ◌+◌, ◌-◌, ◌≤◌, ◌<◌}
use native.Mathlib.Omega.{arith}
use native.Mathlib.Decide.{ℕ_discrete}
use mathlib.Core.Path.{◌≡◌, refl, sym, ◌∙◌}
use mathlib.Core.Logic.{◌≢◌, ◌↔◌}
use mathlib.Core.Bool.{Bool, true, false, ◌||◌}
use mathlib.Core.List.{List, ◌∷◌}
use lib.ListN.{length, get_or, set, drop, length-set, length-drop}
use lib.Seq.{ext_get_or, get_or-set_same, get_or-set_other, get_or-drop}
use lib.Dec.{eqb, leb, ltb}
use borrow.Author.Tests.{leb-true, leb-false, eqb-true, eqb-false, eq-eqb, ne_eqb, le-leb, le-ltb}
use Rattle.scope.proofs.Branches.{tested}
use Rattle.scope.specs.declared.Op.{Op}
use Rattle.scope.specs.declared.Op.TheVariants.{Swap, Dup, Pop, Store, Load}
use Rattle.scope.specs.Machine.{swapped}
use Rattle.scope.specs.Rules.{Job}
use Rattle.scope.specs.Replay.{op_fault}
use Rattle.scope.specs.Legal.{Legal, Runs, stop, next}
use Rattle.scope.proofs.Exact.{fine}
use Rattle.scope.specs.Evm.{Instr, POP, DUP, SWAP, Halts, underflow, overflow, item, Does, Executes, end, and, Codes, swap, dup, pop, AllCode, none, one}

-- what an instruction leaves is determined
pub does-once : (i : Instr) (s s' s'' : List ℕ) → Does i s s' → Does i s s'' → s' ≡ s''
does-once i s s' s'' a b =
    ext_get_or 0 s' s'' (a.height ∙ sym b.height) (λ x h. a.items x h ∙ sym (b.items x (omega (arith, a.height, b.height))))

swap-does : (k : ℕ) (l : List ℕ) → 1 ≤ k → k < length l → length l ≤ 1024 → Does (SWAP k) l (swapped k l)
swap-does k l a b t = record { goes_on = on; height = tall; items = at }
  where
    on : Halts (SWAP k) l → ⊥
    on (underflow h) = omega arith
    on (overflow h) = omega arith

    tall : length (swapped k l) ≡ length l - (k + 1) + (k + 1)
    tall = simp length-set (omega arith)

    at : (x : ℕ) → x < length (swapped k l) → get_or (swapped k l) x 0 ≡ item (SWAP k) l x
    at x h = go (ℕ_discrete x 0) (ℕ_discrete x k)
      where
        go : Dec (x ≡ 0) → Dec (x ≡ k) → get_or (swapped k l) x 0 ≡ item (SWAP k) l x
        go (yes p) (yes q) = absurd (omega arith)
        go (yes p) (no q) =
            rw (get_or-set_other (set l 0 (get_or l k 0)) k x (get_or l 0 0) 0 q, p)
            (get_or-set_same l 0 (get_or l k 0) 0 (omega arith))
        go (no p) (yes q) =
            rw (q, ne_eqb k 0 (λ z. p (q ∙ z)), eq-eqb k k refl)
            (get_or-set_same (set l 0 (get_or l k 0)) k (get_or l 0 0) 0 (simp length-set b))
        go (no p) (no q) =
            rw (get_or-set_other (set l 0 (get_or l k 0)) k x (get_or l 0 0) 0 q, get_or-set_other l 0 x (get_or l k 0) 0 p, ne_eqb x 0 p, ne_eqb x k q)

dup-does : (k : ℕ) (l : List ℕ) → k < length l → length l < 1024 → Does (DUP (k + 1)) l (get_or l k 0 ∷ l)
dup-does k l a t = record { goes_on = on; height = omega arith; items = at }
  where
    on : Halts (DUP (k + 1)) l → ⊥
    on (underflow h) = omega arith
    on (overflow h) = omega arith

    at : (x : ℕ) → x < suc (length l) → get_or (get_or l k 0 ∷ l) x 0 ≡ item (DUP (k + 1)) l x
    at zero h = let z : k + 1 - 1 ≡ k = omega arith in rw z
    at (suc x) h = let z : suc x - 1 ≡ x = omega arith in rw (ne_eqb (suc x) 0 (λ w. omega arith), z)

pop-does : (l : List ℕ) → 0 < length l → length l ≤ 1024 → Does POP l (drop 1 l)
pop-does l a t = record { goes_on = on; height = simp length-drop (omega arith); items = at }
  where
    on : Halts POP l → ⊥
    on (underflow h) = omega arith
    on (overflow h) = omega arith

    at : (x : ℕ) → x < length (drop 1 l) → get_or (drop 1 l) x 0 ≡ get_or l (x + 1) 0
    at x h = let z : 1 + x ≡ x + 1 = omega arith in rw (get_or-drop 1 l x 0, z)

-- Where the operation is within its limit, the checker refuses it exactly where the machine halts.
abbrev pub Within : Job → Op → Type 0
Within j (Swap k) = (1 ≤ k) × (k ≤ j.S)
Within j (Dup k) = k ≤ j.D
Within j Pop = Unit {0}
Within j (Store i) = Unit {0}
Within j (Load i) = Unit {0}

pub refuses-halts : (j : Job) {o : Op} {i : Instr} (l : List ℕ) (m : ℕ) → Codes o i → Within j o → length l ≤ 1024 → (op_fault j l m o ≢ 0) ↔ Halts i l
refuses-halts j l m (swap k a b) w t = (there (leb (length l) k) refl, back)
  where
    there : (x : Bool) → leb (length l) k ≡ x → op_fault j l m (Swap k) ≢ 0 → Halts (SWAP k) l
    there true e r = underflow (omega (arith, leb-true (length l) k e))
    there false e r = absurd (r (rw (ne_eqb k 0 (λ z. omega arith), le-ltb j.S k w.1, e)))

    back : Halts (SWAP k) l → op_fault j l m (Swap k) ≢ 0
    back (underflow h) = rw (ne_eqb k 0 (λ z. omega arith), le-ltb j.S k w.1, le-leb (length l) k (omega arith)) (λ z. omega arith)
    back (overflow h) = rw (ne_eqb k 0 (λ z. omega arith), le-ltb j.S k w.1, le-leb (length l) k (omega arith)) (λ z. omega arith)
refuses-halts j l m (dup k a) w t = (there (leb (length l) k) refl (leb 1024 (length l)) refl, back)
  where
    there : (x : Bool) → leb (length l) k ≡ x → (y : Bool) → leb 1024 (length l) ≡ y → op_fault j l m (Dup k) ≢ 0 → Halts (DUP (k + 1)) l
    there true e y f r = underflow (omega (arith, leb-true (length l) k e))
    there false e true f r = overflow (omega (arith, leb-true 1024 (length l) f, leb-false (length l) k e))
    there false e false f r = absurd (r (rw (le-ltb j.D k w, e, f)))

    back : Halts (DUP (k + 1)) l → op_fault j l m (Dup k) ≢ 0
    back (underflow h) = rw (le-ltb j.D k w, le-leb (length l) k (omega arith)) (λ z. omega arith)
    back (overflow h) = rw (le-ltb j.D k w) (go (leb (length l) k))
      where
        go : (x : Bool) → ◌≢◌ {A = ℕ} (if x then 35 else (if leb 1024 (length l) then 36 else 0)) 0
        go true = λ z. omega arith
        go false = rw (le-leb 1024 (length l) (omega arith)) (λ z. omega arith)
refuses-halts j l m pop w t = (there (eqb (length l) 0) refl, back)
  where
    there : (x : Bool) → eqb (length l) 0 ≡ x → op_fault j l m Pop ≢ 0 → Halts POP l
    there true e r = underflow (omega (arith, eqb-true (length l) 0 e))
    there false e r = absurd (r (rw e))

    back : Halts POP l → op_fault j l m Pop ≢ 0
    back (underflow h) = rw (eq-eqb (length l) 0 (omega arith)) (λ z. omega arith)
    back (overflow h) = absurd (omega arith)

-- A legal operation that has an instruction: the machine does not halt on it, it leaves exactly that stack, and the slots stay.
pub step-does : (j : Job) {o : Op} {i : Instr} {l m l' m' : List ℕ} → Codes o i → Legal j o l m l' m' → length l ≤ 1024 → length l' ≤ 1024 → Does i l l' × (m' ≡ m)
step-does j {l = l} {m = m} (swap k a b) s t t' =
    let f = fine j s t' in
    let x = tested (eqb k 0 || ltb j.S k) 31 _ f.0 in
    let y = tested (leb (length l) k) 32 0 x.1 in
    (rw f.1 (swap-does k l a (leb-false (length l) k y.0) t), f.2)
step-does j {l = l} {m = m} (dup k a) s t t' =
    let f = fine j s t' in
    let x = tested (ltb j.D k) 33 _ f.0 in
    let y = tested (leb (length l) k) 34 _ x.1 in
    let z = tested (leb 1024 (length l)) 35 0 y.1 in
    (rw f.1 (dup-does k l (leb-false (length l) k y.0) (leb-false 1024 (length l) z.0)), f.2)
step-does j {l = l} {m = m} pop s t t' =
    let f = fine j s t' in
    let x = tested (eqb (length l) 0) 36 0 f.0 in
    let n : length l ≡ 0 → ⊥ = eqb-false (length l) 0 x.0 in
    (rw f.1 (pop-does l (omega arith) t), f.2)

-- and so for a whole list without stores and loads
pub runs-executes : (j : Job) {os : List Op} {is : List Instr} {l m l' m' : List ℕ} → Runs j os l m l' m' → AllCode os is → length l ≤ 1024 → Executes is l l' × (m' ≡ m)
runs-executes j (stop l m) none t = (end l, refl)
runs-executes j (next o os l m l' m' l'' m'' s t' r) (one o' i os' is c cs) t =
    let d = step-does j c s t t' in
    let e = runs-executes j r cs t' in
    (and i is l l' l'' d.0 e.0, e.1 ∙ d.1)
