-- Document 01, "What comes back" and "Port order" 2: what each call of 002's `EvmStack`, `StackOps` and `ScheduleConfig` answers.
-- A call looks at the stack's values; a height that is stated too large does not matter to it. After a success the stated height is
-- the number of values; a refusal gives the stack back as it was.
use Rattle.std.specs.Prelude.{ℕ, zero, suc, ◌+◌, ◌-◌, ◌/◌, ◌%◌, Bool, true, ◌&&◌, ◌||◌, List, [], ◌∷◌, ◌++◌, length, get_or, set, drop, eqb, leb, ltb, if◌then◌else◌}
use Rattle.std.specs.Prelude.{Option, None as none, Some as some}
use Rattle.scope.specs.declared.Op.{Op}
use Rattle.scope.specs.declared.Op.TheVariants.{Swap, Dup, Pop, Store, Load}
use Rattle.scope.specs.declared.StackOps.{StackOps}
use Rattle.scope.specs.declared.StackOps.TheVariants.{Swap as SwapOp, Dup as DupOp, Pop as PopOp, Exchange as ExchangeOp, Store as StoreOp, Load as LoadOp}
use Rattle.scope.specs.Codes.{DONE, LIMIT, START, FULL, EMPTY, OUTSIDE, MAX-HEIGHT}
use Rattle.scope.specs.Words.{Stack, stack_of}

-- ---- How the code keeps a stack: in the last words of an array of 1,024, as many as the length field says; all of them where it says more

unfoldable pub fifo : List ℕ → ℕ → List ℕ
fifo raw len = drop (length raw - len) raw

abbrev pub kept : List ℕ → ℕ → Stack
kept raw len = record { height = len; values = fifo raw len }

-- ---- Calls that change the stack: a code, and the stack after it

pub record Left : Type 0 where
  pub code : ℕ
  pub stack : Stack

abbrev pub refused : ℕ → Stack → Left
refused r s = record { code = r; stack = s }

abbrev pub leaves : List ℕ → Left
leaves l = record { code = DONE; stack = stack_of l }

-- `from_fifo`: 2, with no values
unfoldable pub made_from : List ℕ → Left
made_from l = if ltb MAX-HEIGHT (length l) then refused START (stack_of []) else leaves l

-- `push`: 7
unfoldable pub push_on : ℕ → Stack → Left
push_on v s = if leb MAX-HEIGHT (length s.values) then refused FULL s else leaves (v ∷ s.values)

-- `duplicate`: 20, 21, 7
unfoldable pub duplicate_on : ℕ → Stack → Left
duplicate_on k s =
    if eqb (length s.values) 0 then refused EMPTY s
    else (if leb (length s.values) k then refused OUTSIDE s
    else push_on (get_or s.values k 0) s)

-- depths n and m exchanged
abbrev pub exchanged : ℕ → ℕ → List ℕ → List ℕ
exchanged n m l = set (set l n (get_or l m 0)) m (get_or l n 0)

-- `exchange`: 20, 21 if either depth is outside
unfoldable pub exchange_on : ℕ → ℕ → Stack → Left
exchange_on n m s =
    if eqb (length s.values) 0 then refused EMPTY s
    else (if leb (length s.values) n || leb (length s.values) m then refused OUTSIDE s
    else leaves (exchanged n m s.values))

-- `swap_with_top`
abbrev pub swap_with_top_on : ℕ → Stack → Left
swap_with_top_on k s = exchange_on 0 k s

-- `pop`: the top and the stack without it, or nothing and the stack as it was
pub record Popped : Type 0 where
  pub value : Option ℕ
  pub stack : Stack

unfoldable pub pop_on : Stack → Popped
pop_on s =
    if eqb (length s.values) 0 then record { value = none; stack = s }
    else record { value = some (get_or s.values 0 0); stack = stack_of (drop 1 s.values) }

-- ---- Calls that only look (`len` is `length`, `count` is `count`, `find_first` is `first_of`)

-- `is_empty`
abbrev pub is_empty : List ℕ → Bool
is_empty l = eqb (length l) 0

-- `get_by_depth`; `top` is depth 0
unfoldable pub at_depth : ℕ → List ℕ → Option ℕ
at_depth k l = if ltb k (length l) then some (get_or l k 0) else none

-- ---- `ScheduleConfig`

pub record Config : Type 0 where
  pub swaps : ℕ
  pub dups : ℕ
  pub range : ℕ
  pub cost : ℕ

abbrev pub config : ℕ → ℕ → ℕ → ℕ → Config
config s d r c = record { swaps = s; dups = d; range = r; cost = c }

-- `PRE_AMSTERDAM` and `default`
abbrev pub pre_amsterdam : Config
pre_amsterdam = config 16 15 16 9

-- `max_swap_no_exchange`: 1 at 0, with all settings 0
pub record Configured : Type 0 where
  pub code : ℕ
  pub config : Config

unfoldable pub no_exchange : ℕ → Configured
no_exchange s = if eqb s 0 then record { code = LIMIT; config = config 0 0 0 0 } else record { code = DONE; config = config s (s - 1) s 9 }

-- ---- `StackOps`

-- an operation that is written, among those that the stacks know
abbrev pub stack_op : Op → StackOps
stack_op (Swap k) = SwapOp k
stack_op (Dup k) = DupOp k
stack_op Pop = PopOp
stack_op (Store id) = StoreOp id
stack_op (Load id) = LoadOp id

-- `is_valid`: depths within the settings. Swap(0) is let through, as in 002; a sum of depths that a byte does not hold is not valid.
unfoldable pub is_valid : StackOps → Config → Bool
is_valid (SwapOp k) c = leb k c.swaps
is_valid (DupOp k) c = leb k c.dups
is_valid PopOp c = true
is_valid (ExchangeOp n m) c = leb (n + m) 255 && leb (n + m) c.range
is_valid (StoreOp id) c = true
is_valid (LoadOp id) c = true

-- The printed form, in ASCII. A number in decimal has no needless zero in front: `fuel` bounds its digits.
unfoldable pub decimal_in : ℕ → ℕ → List ℕ
decimal_in zero n = []
decimal_in (suc fuel) n =
    let rest = decimal_in fuel (n / 10) in
    (if ltb n 10 then [] else rest) ++ ((48 + n % 10) ∷ [])

unfoldable pub decimal : ℕ → List ℕ
decimal n = decimal_in 20 n

-- "Swap(", "Dup(", "Pop", "Exchange(", ", ", "store(", "load(", ")"
abbrev pub printed : StackOps → List ℕ
printed (SwapOp k) = (83 ∷ 119 ∷ 97 ∷ 112 ∷ 40 ∷ []) ++ decimal k ++ (41 ∷ [])
printed (DupOp k) = (68 ∷ 117 ∷ 112 ∷ 40 ∷ []) ++ decimal k ++ (41 ∷ [])
printed PopOp = 80 ∷ 111 ∷ 112 ∷ []
printed (ExchangeOp n m) = (69 ∷ 120 ∷ 99 ∷ 104 ∷ 97 ∷ 110 ∷ 103 ∷ 101 ∷ 40 ∷ []) ++ decimal n ++ (44 ∷ 32 ∷ []) ++ decimal m ++ (41 ∷ [])
printed (StoreOp id) = (115 ∷ 116 ∷ 111 ∷ 114 ∷ 101 ∷ 40 ∷ []) ++ decimal id ++ (41 ∷ [])
printed (LoadOp id) = (108 ∷ 111 ∷ 97 ∷ 100 ∷ 40 ∷ []) ++ decimal id ++ (41 ∷ [])
