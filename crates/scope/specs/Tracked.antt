-- Document 01, "What comes back" and "Port order" 3: what each call of 002's `TrackedStack` answers. Its sink and its `Vec` are two lent
-- buffers of words with counts. Of several refusals at once the order is 23, 20, 21, 22, then 6, 7, 10, 11; a refusal changes nothing.
use Rattle.std.specs.Prelude.{ℕ, ◌+◌, ◌-◌, ◌*◌, Bool, ◌||◌, List, [], ◌∷◌, length, get_or, set, drop, take, eqb, leb, ltb, if◌then◌else◌}
use Rattle.std.specs.Prelude.{Option, None as none, Some as some, Result, Ok, Err}
use Rattle.scope.specs.declared.Op.{Op}
use Rattle.scope.specs.declared.Op.TheVariants.{Swap, Dup, Pop, Store, Load}
use Rattle.scope.specs.declared.Refusal.{Refusal}
use Rattle.scope.specs.declared.Step.{Step}
use Rattle.scope.specs.declared.Step.TheVariants.{Wrote, Refused}
use Rattle.scope.specs.Codes.{number_of, DONE, START, FILLED, SLOTS, MISSING, FULL, SPILL, OPS, EMPTY, OUTSIDE, UNFILLED, SWAP-OF-ZERO, MAX-HEIGHT, MAX-WORD}
use Rattle.scope.specs.Words.{if_zero, latest_of, Stack, stack_of}
use Rattle.scope.specs.Machine.{record_words, capacity, over, kind, argument, swapped}

-- ---- A step's answer: document 01's code, 0 where an operation was written, and the operation

abbrev pub step_code : Step → ℕ
step_code (Wrote o) = DONE
step_code (Refused r) = number_of r

abbrev pub step_op : Step → Option Op
step_op (Wrote o) = some o
step_op (Refused r) = none

-- the answer of a step that may be refused
abbrev pub step : Result Op Refusal → Step
step (Ok o) = Wrote o
step (Err r) = Refused r

-- ---- What a tracked stack holds: the stack, the number of the first slot, how many slots are filled, how many operations are written.
-- The two buffers stand beside it, every word of each.
pub record Tracked : Type 0 where
  pub stack : Stack
  pub first : ℕ
  pub filled : ℕ
  pub written : ℕ

-- a call's code, the operation that it wrote, the tracked stack and the operation words after it
pub record Stepped : Type 0 where
  pub code : ℕ
  pub op : Option Op
  pub state : Tracked
  pub words : List ℕ

abbrev pub refused_step : ℕ → Tracked → List ℕ → Stepped
refused_step r t words = record { code = r; op = none; state = t; words = words }

-- the operation words with one record more
unfoldable pub emitted : List ℕ → ℕ → Op → List ℕ
emitted words w o = set (set words (record_words * w) (kind o)) (record_words * w + 1) (argument o)

-- o is written, the stack's values become l, and so many slots are filled; 11 where there is no room for the record
abbrev pub writes : Tracked → List ℕ → List ℕ → ℕ → Op → Stepped
writes t words l filled o =
    if leb (capacity (length words)) t.written then refused_step OPS t words
    else record {
      code = DONE;
      op = some o;
      state = record { stack = stack_of l; first = t.first; filled = filled; written = t.written + 1 };
      words = emitted words t.written o;
    }

abbrev pub values : Tracked → List ℕ
values t = t.stack.values

-- ---- The calls

-- `pop`: 20, 11
unfoldable pub pop_step : Tracked → List ℕ → Stepped
pop_step t words = if eqb (length (values t)) 0 then refused_step EMPTY t words else writes t words (drop 1 (values t)) t.filled Pop

-- `swap`: 23, 20, 21, 11
unfoldable pub swap_step : ℕ → Tracked → List ℕ → Stepped
swap_step k t words =
    if eqb k 0 then refused_step SWAP-OF-ZERO t words
    else (if eqb (length (values t)) 0 then refused_step EMPTY t words
    else (if leb (length (values t)) k then refused_step OUTSIDE t words
    else writes t words (swapped k (values t)) t.filled (Swap k)))

-- `dup`: 20, 21, 7, 11
unfoldable pub dup_step : ℕ → Tracked → List ℕ → Stepped
dup_step k t words =
    if eqb (length (values t)) 0 then refused_step EMPTY t words
    else (if leb (length (values t)) k then refused_step OUTSIDE t words
    else (if leb MAX-HEIGHT (length (values t)) then refused_step FULL t words
    else writes t words (get_or (values t) k 0 ∷ values t) t.filled (Dup k)))

-- The spill list: the filled words of the buffer, all of them where more are said to be filled (`underlying_spilled`).
abbrev pub stored_in : ℕ → List ℕ → List ℕ
stored_in filled spill = take filled spill

-- `get_spilled`: the number of the latest slot with a value; nothing also where that slot has no number
abbrev pub numbered : ℕ → Option ℕ → Option ℕ
numbered first none = none
numbered first (some i) = if ltb MAX-WORD (first + i) then none else some (first + i)

unfoldable pub spilled_slot : ℕ → Tracked → List ℕ → Option ℕ
spilled_slot v t spill = numbered t.first (latest_of v (stored_in t.filled spill))

-- `load`: 22 for a slot below the first or not filled, 7, 11
unfoldable pub load_step : ℕ → Tracked → List ℕ → List ℕ → Stepped
load_step id t words spill =
    if ltb id t.first then refused_step UNFILLED t words
    else (if leb (length (stored_in t.filled spill)) (id - t.first) then refused_step UNFILLED t words
    else (if leb MAX-HEIGHT (length (values t)) then refused_step FULL t words
    else writes t words (get_or (stored_in t.filled spill) (id - t.first) 0 ∷ values t) t.filled (Load id)))

-- `unspill`: 6 where `get_spilled` has nothing, then as `load`
abbrev pub load_if : Option ℕ → Tracked → List ℕ → List ℕ → Stepped
load_if none t words spill = refused_step MISSING t words
load_if (some id) t words spill = load_step id t words spill

unfoldable pub unspill_step : ℕ → Tracked → List ℕ → List ℕ → Stepped
unspill_step v t words spill = load_if (spilled_slot v t spill) t words spill

-- `spill_top`: 20, 10 where no slot is free or the next one has no number, 11; the spill words after it too
pub record Spilled : Type 0 where
  pub step : Stepped
  pub spill : List ℕ

abbrev pub refused_spill : ℕ → Tracked → List ℕ → List ℕ → Spilled
refused_spill r t words spill = record { step = refused_step r t words; spill = spill }

abbrev pub next_slot : Tracked → ℕ
next_slot t = t.first + t.filled

unfoldable pub spill_step : Tracked → List ℕ → List ℕ → Spilled
spill_step t words spill =
    if eqb (length (values t)) 0 then refused_spill EMPTY t words spill
    else (if leb (length spill) t.filled then refused_spill SPILL t words spill
    else (if ltb MAX-WORD (next_slot t) then refused_spill SPILL t words spill
    else (if leb (capacity (length words)) t.written then refused_spill OPS t words spill
    else record {
      step = writes t words (drop 1 (values t)) (t.filled + 1) (Store (next_slot t));
      spill = set spill t.filled (get_or (values t) 0 0);
    })))

-- ---- Making one: 2 by the height as stated, 4, 5. Refused, it holds nothing.

pub record Made : Type 0 where
  pub code : ℕ
  pub state : Tracked

abbrev pub making_code : ℕ → Bool → ℕ → ℕ → ℕ
making_code height too_many slots first =
    if ltb MAX-HEIGHT height then START else (if too_many then FILLED else (if ltb MAX-WORD (first + slots) then SLOTS else DONE))

abbrev pub holding : Stack → ℕ → ℕ → Tracked
holding s first filled = record { stack = s; first = first; filled = filled; written = 0 }

abbrev pub made_with : ℕ → Stack → ℕ → ℕ → Made
made_with r s first filled =
    if_zero r (record { code = DONE; state = holding s first filled }) (record { code = r; state = holding (stack_of []) 0 0 })

-- `new_from_evm` (nothing filled) and `new_from_parts`, over a spill buffer of so many slots
unfoldable pub made : Stack → ℕ → ℕ → ℕ → Made
made s first filled slots = made_with (making_code s.height (ltb slots filled) slots first) s first filled

-- `clone_with`: the same, with nothing written, over a second spill buffer that gets the filled entries; 4 where they are not all in
-- the first buffer or do not fit into the second. The second buffer's words after it; the first one's stay.
pub record Cloned : Type 0 where
  pub made : Made
  pub spill : List ℕ

unfoldable pub cloned : Tracked → List ℕ → List ℕ → Cloned
cloned t spill other =
    let r = making_code t.stack.height (ltb (length spill) t.filled || ltb (length other) t.filled) (length other) t.first in
    record { made = made_with r t.stack t.first t.filled; spill = if_zero r (over (stored_in t.filled spill) other) other }

-- `into_next_alloc_id`: the number after the last filled slot; 5, with 0, where there is none
pub record NextId : Type 0 where
  pub code : ℕ
  pub id : ℕ

unfoldable pub next_id : Tracked → NextId
next_id t = if ltb MAX-WORD (next_slot t) then record { code = SLOTS; id = 0 } else record { code = DONE; id = next_slot t }
