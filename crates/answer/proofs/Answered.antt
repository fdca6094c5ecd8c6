-- For the words that a run wrote, the answer's lines are scope's for the run's result.
use Prim.Native.Nat.{ℕ, ◌*◌, ◌≤◌}
use native.Mathlib.Omega.{arith}
use mathlib.Core.Path.{◌≡◌, refl}
use Rattle.std.proofs.Common.{Some as some}
use mathlib.Core.List.{List, [], ◌∷◌}
use lib.ListN.{length, length-replicate}
use borrow.Author.Tests.{le-ltb}
use Rattle.scope.specs.declared.Op.{Op}
use Rattle.scope.specs.declared.Op.TheVariants.{Swap, Dup, Pop, Store, Load}
use Rattle.scope.specs.Machine.{kind, argument, words_of}
use Rattle.scope.specs.Replay.{decoded}
use Rattle.scope.specs.Shuffle.{Result}
use Rattle.scope.specs.JobFile.{answer_lines}
use Rattle.printing.specs.Promises.{placed}
use Rattle.answer.specs.declared.Answer.{Answer}
use Rattle.answer.specs.Promises.{said, ops_in, AllShallow, shown, as_written, writes}
use Rattle.answer.specs.Promises.AllShallow.{one-op}

decodes : (o : Op) → decoded (kind o) (argument o) ≡ some o
decodes (Swap k) = refl
decodes (Dup k) = refl
decodes Pop = refl
decodes (Store id) = refl
decodes (Load id) = refl

pub words-say : (os : List Op) → AllShallow os → ops_in (words_of os) ≡ some os
unfolding ops_in words_of said
words-say [] h = refl
words-say (o ∷ os) (one-op _ _ h hs) = rw (decodes o, h, words-say os hs)

length-words-of : (os : List Op) → length (words_of os) ≡ 2 * length os
unfolding words_of
length-words-of [] = refl
length-words-of (o ∷ os) = omega (arith, length-words-of os)

-- the numbers of an answer are those of a result
pub record Shows (a : Answer) (r : Result) : Type 0 where
  pub code : a.code ≡ r.code
  pub shrink : a.shrink_ticks ≡ r.shrink_ticks
  pub grow : a.grow_ticks ≡ r.grow_ticks
  pub slots : a.slots ≡ length r.spilled

same_lines : (a : Answer) (r : Result) → Shows a r → answer_lines (shown a r.ops) ≡ answer_lines r
unfolding answer_lines
same_lines a r s = rw (s.code, s.shrink, s.grow, s.slots, length-replicate)

pub answers : (a : Answer) (r : Result) (lent : List ℕ) → Shows a r → AllShallow r.ops → length r.ops ≤ 4096
    → writes a (words_of r.ops) lent ≡ as_written (placed (answer_lines r) 0 lent)
unfolding writes
answers a r lent s h k =
    rw (le-ltb 8192 (length (words_of r.ops)) (omega (arith, length-words-of r.ops)), words-say r.ops h, same_lines a r s)
