-- The tests that make bytes a job, all together, and the loop that reads words.
use Prim.Native.Nat.{ℕ, zero, suc, ◌+◌, ◌-◌, ◌*◌, ◌≤◌, ◌<◌}
use native.Mathlib.Omega.{arith}
use native.Mathlib.Nat.{zero-add}
use native.Mathlib.Numerals.{add-one}
use mathlib.Core.Path.{◌≡◌, refl, sym, ap, ◌∙◌}
use mathlib.Core.Bool.{Bool, true, false, ◌&&◌, false≢true}
use mathlib.Core.List.{List}
use lib.ListN.{length, set}
use lib.Seq.{sets, sets-eq}
use lib.Dec.{leb}
use borrow.Author.Tests.{le-leb, leb-true, eq-eqb, eqb-true}
use Rattle.scope.specs.Machine.{over}
use Rattle.scope.specs.JobFile.{word_at, words_at, is_job, read_job, parsed, spilled_at, target_at, end_at}
use Rattle.std.proofs.Common.{Ok}
use Rattle.job.specs.declared.JobWords.{JobWords}
use Rattle.job.specs.Promises.{read_into, read_of}

-- ---- Is it a job?

module _ (bs : List ℕ) where
  module _ (a b c o p q s d : ℕ) (wa : a ≡ word_at bs 0) (wo : o ≡ word_at bs 4) (wb : b ≡ word_at bs 8) (wp : p ≡ word_at bs 12)
      (wc : c ≡ word_at bs 16) (wq : q ≡ word_at bs 20) (ws : s ≡ word_at bs 28) (wd : d ≡ word_at bs 32) where
    pub a-job : 36 ≤ length bs → length bs ≤ 16420 → o ≡ 36 → p ≡ 36 + 4 * a → q ≡ 36 + 4 * a + 4 * b
        → length bs ≡ 36 + 4 * a + 4 * b + 4 * c → s ≤ 255 → d ≤ 255 → true ≡ is_job bs
    unfolding is_job
    a-job h1 h2 h3 h4 h5 h6 h7 h8 =
        rw (
          ← wa,
          ← wo,
          ← wb,
          ← wp,
          ← wc,
          ← wq,
          ← ws,
          ← wd,
          le-leb 36 (length bs) h1,
          le-leb (length bs) 16420 h2,
          eq-eqb o 36 h3,
          eq-eqb p (36 + 4 * a) h4,
          eq-eqb q (36 + 4 * a + 4 * b) h5,
          eq-eqb (length bs) (36 + 4 * a + 4 * b + 4 * c) h6,
          le-leb s 255 h7,
          le-leb d 255 h8,
        )

-- ---- Words from a place on

pub length-words : (bs : List ℕ) (i k : ℕ) → length (words_at bs i k) ≡ k
unfolding words_at
length-words bs i zero = refl
length-words bs i (suc k) = ap suc (length-words bs (i + 4) k)

over-low : (new lent : List ℕ) → length new ≤ length lent → over new lent ≡ sets lent 0 new
over-low new lent h = let k : 0 + length new ≤ length lent = omega arith in rw (sets-eq new lent 0 k, zero-add)

-- a loop that reads them: what is left, stored into the buffer as it is, gives the whole
module _ (bs : List ℕ) (at count : ℕ) (l : List ℕ) (i : ℕ) (whole : List ℕ) (left : sets l i (words_at bs (at + 4 * i) (count - i)) ≡ whole) where
  pub words-again : (w : ℕ) → w ≡ word_at bs (at + 4 * i) → i < count → sets (set l i w) (i + 1) (words_at bs (at + 4 * (i + 1)) (count - (i + 1))) ≡ whole
  unfolding words_at
  words-again w e h =
      let n : count - i ≡ suc (count - suc i) = omega arith in
      let m : at + 4 * (i + 1) ≡ at + 4 * i + 4 = omega arith in
      rw (e, m, add-one i) (rw n at left)

  words-out : count ≤ i → l ≡ whole
  unfolding words_at
  words-out h = let n : count - i ≡ 0 = omega arith in rw n at left

pub words-done : (bs : List ℕ) (at count : ℕ) (l lent : List ℕ) (i : ℕ) → sets l i (words_at bs (at + 4 * i) (count - i)) ≡ sets lent 0 (words_at bs at count)
    → count ≤ i → count ≤ length lent → l ≡ over (words_at bs at count) lent
words-done bs at count l lent i left h k =
    words-out bs at count l i _ left h ∙ sym (over-low (words_at bs at count) lent (rw length-words k))

-- ---- What a job's bytes say

both : (x y : Bool) → x && y ≡ true → (x ≡ true) × (y ≡ true)
both true y h = (refl, h)
both false y h = absurd (false≢true h)

-- the tests of a job, as facts
pub record IsJob (bs : List ℕ) : Type 0 where
  pub small : length bs ≤ 16420
  pub start-at : word_at bs 4 ≡ 36
  pub spilled-at : word_at bs 12 ≡ spilled_at (word_at bs 0)
  pub target_at : word_at bs 20 ≡ target_at (word_at bs 0) (word_at bs 8)
  pub end-at : length bs ≡ end_at (word_at bs 0) (word_at bs 8) (word_at bs 16)
  pub swaps : word_at bs 28 ≤ 255
  pub dups : word_at bs 32 ≤ 255

pub is-a-job : (bs : List ℕ) (b : Bool) → b ≡ is_job bs → b ≡ true → IsJob bs
unfolding is_job
is-a-job bs b e t =
    let t8 = both _ _ (sym e ∙ t) in
    let t7 = both _ _ t8.0 in
    let t6 = both _ _ t7.0 in
    let t5 = both _ _ t6.0 in
    let t4 = both _ _ t5.0 in
    let t3 = both _ _ t4.0 in
    let t2 = both (leb 36 (length bs)) _ t3.0 in
    record {
      small = leb-true _ _ t2.1;
      start-at = eqb-true _ _ t3.1;
      spilled-at = eqb-true _ _ t4.1;
      target_at = eqb-true _ _ t5.1;
      end-at = eqb-true _ _ t6.1;
      swaps = leb-true _ _ t7.1;
      dups = leb-true _ _ t8.1;
    }

-- ---- What reading answers

module _ (bs : List ℕ) (w w' : JobWords) (flag : Bool) (asked : flag ≡ is_job bs) where
  pub read_some : flag ≡ true → (a b c s d f : ℕ)
      → a ≡ word_at bs 0 → b ≡ word_at bs 8 → c ≡ word_at bs 16 → s ≡ word_at bs 28 → d ≡ word_at bs 32 → f ≡ word_at bs 24
      → w'.start ≡ over (words_at bs 36 a) w.start → w'.spilled ≡ over (words_at bs (36 + 4 * a) b) w.spilled → w'.target ≡ over (words_at bs (36 + 4 * a + 4 * b) c) w.target
      → read_of (Ok (record { starts = a; spills = b; targets = c; first = f; config = record { max_swap_depth = s; max_dup_depth = d; max_exchange_range = 0; exchange_cost = 0 } })) w' ≡ read_into (parsed bs) w.start w.spilled w.target
  unfolding parsed read_job
  read_some h a b c s d f ea eb ec es ed ef ex ey ez =
      rw (← asked, h, ex, ey, ez, ea, eb, ec, ef, es, ed) (simp length-words)
