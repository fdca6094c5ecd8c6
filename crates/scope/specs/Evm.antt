-- The Ethereum Yellow Paper's stack machine, as far as Swap, Dup and Pop need it (document 01 names it as the judge of what an
-- operation does): appendix H's items removed (δ) and added (α), what the new items are, and the exceptional halt.
-- A stack is a list, top first: item x of s is the paper's μs[x]. Nothing here is shared with Machine or Replay.
use Rattle.std.specs.Prelude.{ℕ, ◌+◌, ◌-◌, ◌≤◌, ◌<◌, ◌≡◌, List, [], ◌∷◌, length, get_or, eqb, if◌then◌else◌}
use Rattle.scope.specs.declared.Op.{Op}
use Rattle.scope.specs.declared.Op.TheVariants.{Swap, Dup, Pop}

-- POP, DUP1 to DUP16, SWAP1 to SWAP16
pub data Instr : Type 0 where
  POP : Instr
  DUP : ℕ → Instr
  SWAP : ℕ → Instr

abbrev pub δ : Instr → ℕ
δ POP = 1
δ (DUP n) = n
δ (SWAP n) = n + 1

abbrev pub α : Instr → ℕ
α POP = 0
α (DUP n) = n + 1
α (SWAP n) = n + 1

-- The exceptional halt: too few items for what is removed, or more than 1,024 after it.
pub data Halts (i : Instr) (s : List ℕ) : Type 0 where
  underflow : length s < δ i → Halts i s
  overflow : 1024 < length s - δ i + α i → Halts i s

-- item x of the new stack, from the items of the old one
abbrev pub item : Instr → List ℕ → ℕ → ℕ
item POP s x = get_or s (x + 1) 0
item (DUP n) s x = if eqb x 0 then get_or s (n - 1) 0 else get_or s (x - 1) 0
item (SWAP n) s x = if eqb x 0 then get_or s n 0 else (if eqb x n then get_or s 0 0 else get_or s x 0)

-- Does i s s': the instruction does not halt on s, and leaves s'.
pub record Does (i : Instr) (s s' : List ℕ) : Type 0 where
  pub goes_on : Halts i s → ⊥
  pub height : length s' ≡ length s - δ i + α i
  pub items : (x : ℕ) → x < length s' → get_or s' x 0 ≡ item i s x

-- one after the other
pub data Executes : List Instr → List ℕ → List ℕ → Type 0 where
  end : (s : List ℕ) → Executes [] s s
  and : (i : Instr) (is : List Instr) (s s' s'' : List ℕ) → Does i s s' → Executes is s' s'' → Executes (i ∷ is) s s''

-- The instruction of an operation: Swap(k) is SWAPk for k from 1 to 16, Dup(k) is DUP(k+1) for k up to 15, Pop is POP.
pub data Codes : Op → Instr → Type 0 where
  swap : (k : ℕ) → 1 ≤ k → k ≤ 16 → Codes (Swap k) (SWAP k)
  dup : (k : ℕ) → k ≤ 15 → Codes (Dup k) (DUP (k + 1))
  pop : Codes Pop POP

pub data AllCode : List Op → List Instr → Type 0 where
  none : AllCode [] []
  one : (o : Op) (i : Instr) (os : List Op) (is : List Instr) → Codes o i → AllCode os is → AllCode (o ∷ os) (i ∷ is)
