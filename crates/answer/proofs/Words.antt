-- What records say, one after the other, and what is written of it.
use Prim.Native.Nat.{ℕ, ◌+◌, ◌%◌, ◌≤◌}
use native.Mathlib.Omega.{arith}
use native.Mathlib.Nat.{zero-add, add-zero}
use mathlib.Core.Path.{◌≡◌, refl, ap, ◌∙◌}
use Rattle.std.proofs.Common.{Option, None as none, Some as some}
use Rattle.std.proofs.lemmas.Option.{none-some as none-ne-some, same_Some as some-injective}
use mathlib.Core.List.{List, [], ◌∷◌, ◌++◌}
use lib.ListN.{length, length-append}
use Rattle.scope.specs.declared.Op.{Op}
use Rattle.scope.specs.declared.Op.TheVariants.{Swap, Dup, Pop, Store, Load}
use Rattle.scope.specs.declared.StackOps.{StackOps}
use Rattle.scope.specs.Machine.{gas_of, gas_total}
use Rattle.scope.specs.Stack.{printed, stack_op}
use Rattle.scope.specs.JobFile.{op_lines}
use Rattle.reader.specs.declared.Record.{Record}
use Rattle.reader.specs.Promises.{records}
use Rattle.printing.specs.Promises.{Lays}
use Rattle.printing.proofs.Laying.{then, none-laid}
use Rattle.answer.specs.declared.Measured.{Measured}
use Rattle.answer.specs.Promises.{said, one_more, ops_in, measured}

-- the operations that records say
pub said_all : List Record → Option (List Op)
said_all [] = some []
said_all (r ∷ rs) = one_more (said r.kind r.argument) (said_all rs)

pub even-words : (ws : List ℕ) → length ws % 2 ≡ 0 → said_all (records ws) ≡ ops_in ws
unfolding ops_in said_all
even-words [] h = refl
even-words (k ∷ []) h = absurd (omega arith)
even-words (k ∷ a ∷ ws) h = ap (one_more (said k a)) (even-words ws (omega arith))

pub odd_words : (ws : List ℕ) → (length ws % 2 ≡ 0 → ⊥) → none ≡ ops_in ws
unfolding ops_in
odd_words [] h = absurd (h refl)
odd_words (k ∷ []) h = refl
odd_words (k ∷ a ∷ ws) h = go (said k a) (ops_in ws) (odd_words ws (λ e. h (omega arith)))
  where
    go : (o : Option Op) (rest : Option (List Op)) → none ≡ rest → none ≡ one_more o rest
    go none rest e = refl
    go (some o) rest e = ap (one_more (some o)) e

pub length-records : (ws : List ℕ) → length (records ws) ≤ length ws
length-records [] = omega arith
length-records (k ∷ []) = omega arith
length-records (k ∷ a ∷ ws) = let h = length-records ws in omega arith

-- ---- What they come to

-- what is counted so far, and what the rest comes to
abbrev pub counted : ℕ → ℕ → Option (List Op) → Option Measured
counted len gas none = none
counted len gas (some os) = some (record { len = len + length (op_lines os); gas = gas + gas_total os })

pub even-counted : (ws : List ℕ) → length ws % 2 ≡ 0 → counted 0 0 (said_all (records ws)) ≡ measured (ops_in ws)
unfolding op_lines gas_total
even-counted ws h = ap (counted 0 0) (even-words ws h) ∙ go (ops_in ws)
  where
    go : (r : Option (List Op)) → counted 0 0 r ≡ measured r
    go none = refl
    go (some os) = simp zero-add refl

module _ (len gas : ℕ) (now : List Record) (whole : Option Measured) (so_far : counted len gas (said_all now) ≡ whole) where
  pub counted-end : now ≡ [] → some (record { len = len; gas = gas }) ≡ whole
  unfolding said_all op_lines gas_total
  counted-end e = simp add-zero at (rw e at so_far)

  module _ (r : Record) (rs : List Record) (next : now ≡ r ∷ rs) where
    pub counted-none : none ≡ said r.kind r.argument → none ≡ whole
    unfolding said_all
    counted-none e = rw (next, ← e) at so_far

    pub counted-more : (o : Op) (n g : ℕ) → some o ≡ said r.kind r.argument → n ≡ length (printed (stack_op o)) → g ≡ gas_of o
        → counted (len + (n + 1)) (gas + g) (said_all rs) ≡ whole
    unfolding said_all op_lines gas_total
    counted-more o n g e f h = go (said_all rs) ∙ (rw (next, ← e) at so_far)
      where
        go : (rest : Option (List Op)) → counted (len + (n + 1)) (gas + g) rest ≡ counted len gas (one_more (some o) rest)
        go none = refl
        go (some os) =
            let p : len + (n + 1) + length (op_lines os) ≡ len + length (printed (stack_op o) ++ (10 ∷ []) ++ op_lines os) = simp length-append (omega (arith, f)) in
            let q : gas + g + gas_total os ≡ gas + (gas_of o + gas_total os) = omega (arith, h) in
            rw (p, q) refl

pub little : (o : Op) → gas_of o ≤ 6
little (Swap k) = omega arith
little (Dup k) = omega arith
little Pop = omega arith
little (Store id) = omega arith
little (Load id) = omega arith

-- ---- Line by line

-- the lines of what records say, laid after what is there, give the whole
pub record Still (lent : List ℕ) (at : ℕ) (whole now : List ℕ) (next : ℕ) (rs : List Record) : Type 0 where
  pub ops : List Op
  pub say : said_all rs ≡ some ops
  pub gives : (left : List ℕ) (end : ℕ) → Lays now next (op_lines ops) left end → Lays lent at whole left end

some-words : (ws : List ℕ) (os : List Op) → ops_in ws ≡ some os → said_all (records ws) ≡ some os
unfolding ops_in said_all
some-words [] os e = e
some-words (k ∷ []) os e = absurd (none-ne-some os e)
some-words (k ∷ a ∷ ws) os e = go (said k a) (ops_in ws) refl e (some-words ws)
  where
    go : (o : Option Op) (r : Option (List Op)) → ops_in ws ≡ r → one_more o r ≡ some os → ((os : List Op) → ops_in ws ≡ some os → said_all (records ws) ≡ some os)
        → one_more o (said_all (records ws)) ≡ some os
    go none r f h rest = absurd (none-ne-some os h)
    go (some o) none f h rest = absurd (none-ne-some os h)
    go (some o) (some os') f h rest = ap (one_more (some o)) (rest os' f) ∙ h

pub lines-start : (ws lent : List ℕ) (at : ℕ) (os : List Op) → ops_in ws ≡ some os → Still lent at (op_lines os) lent at (records ws)
lines-start ws lent at os e = record { ops = os; say = some-words ws os e; gives = λ left end h. h }

module _ {lent : List ℕ} {at : ℕ} {whole now : List ℕ} {next : ℕ} {rs : List Record} (still : Still lent at whole now next rs) where
  pub lines-end : rs ≡ [] → Lays lent at whole now next
  unfolding said_all op_lines
  lines-end e =
      let z : [] ≡ still.ops = some-injective [] still.ops (rw e at still.say) in
      still.gives now next (rw (← z) (none-laid now next))

  module _ (r : Record) (rest : List Record) (e : rs ≡ r ∷ rest) where
    pub no-line : none ≡ said r.kind r.argument → Still lent at whole now next rest
    unfolding said_all
    no-line f = absurd (none-ne-some still.ops (rw (e, ← f) at still.say))

    pub one-line : (o : Op) (s : StackOps) (m : List ℕ) (i : ℕ) (m' : List ℕ) (i' : ℕ) → some o ≡ said r.kind r.argument → s ≡ stack_op o
        → Lays now next (printed s) m i → Lays m i (10 ∷ []) m' i' → Still lent at whole m' i' rest
    unfolding said_all op_lines
    one-line o s m i m' i' f p first second = go (said_all rest) refl (rw (e, ← f) at still.say)
      where
        go : (q : Option (List Op)) → said_all rest ≡ q → one_more (some o) q ≡ some still.ops → Still lent at whole m' i' rest
        go none g h = absurd (none-ne-some still.ops h)
        go (some os) g h =
            let z : o ∷ os ≡ still.ops = some-injective (o ∷ os) still.ops h in
            record { ops = os; say = g; gives = λ left end k. still.gives left end (rw (← z, ← p) (then (then first second) k)) }
