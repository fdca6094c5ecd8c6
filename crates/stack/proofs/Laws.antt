-- A count and a depth are at most the number of values; an array whose end is written anew.
use Rattle.std.proofs.Common.{ℕ, ◌-◌, ◌≤◌, ◌<◌, ◌≡◌, min, Bool, true, false, Some as some, List, [], ◌∷◌, drop}
use Rattle.std.proofs.Common.{refl, sym, ap, ◌∙◌, arith, length, append-nil, take-append-drop, drop_of_length-le, length-drop, length-set}
use Rattle.std.proofs.Common.{ne_eqb}
use Rattle.std.specs.List.{swap}
use Rattle.std.proofs.lemmas.List.Edits.{swap_is}
use borrow.Author.Tests.{lt-leb}
use Rattle.scope.specs.Stack.{fifo, kept, exchange_on, exchanged}
use borrow.Rule.Slice.PartMut.{put_mid, post_of, mid_of}
use lib.Seq.{take_all}
use lib.Dec.{eqb}
use Rattle.scope.specs.Words.{count, holds, first_of}
use Rattle.scope.proofs.Counts.{count-nil, count-cons, one_hit, one-miss}
use Rattle.scope.proofs.Walks.{lowest-some}
use Rattle.stack.specs.Promises.{laid}

pub count_le : (v : ℕ) (l : List ℕ) → count v l ≤ length l
count_le v [] = omega (arith, count-nil v)
count_le v (x ∷ l) = go (eqb x v) refl (count_le v l)
  where
    go : (b : Bool) → eqb x v ≡ b → count v l ≤ length l → count v (x ∷ l) ≤ length (x ∷ l)
    go true e rest = omega (arith, count-cons v x l, one_hit v x e)
    go false e rest = omega (arith, count-cons v x l, one-miss v x e)

pub first_below : (v : ℕ) (l : List ℕ) (i : ℕ) → some i ≡ first_of v l → i < length l
unfolding first_of
first_below v l i e = let q = lowest-some 0 (length l) (holds l v) i (sym e) in q.below

-- the values that an array keeps are laid in it already
pub laid_fifo : (raw : List ℕ) (len : ℕ) → raw ≡ laid (fifo raw len) raw
unfolding laid fifo
laid_fifo raw len =
    let e : length raw - length (drop (length raw - len) raw) ≡ length raw - len = simp length-drop (omega arith) in
    rw e (sym (take-append-drop (length raw - len) raw))

-- the part from a on, written anew as l
pub end_laid : (raw ys l : List ℕ) (a k : ℕ) → ys ≡ l → a ≤ length raw → k ≡ length raw - a → length l ≡ k → put_mid a k raw ys ≡ laid l raw
unfolding laid
end_laid raw ys l a k e below rest full =
    let at : length raw - length l ≡ a = omega arith in
    let none : post_of a k raw ≡ [] = drop_of_length-le (drop a raw) (simp length-drop (omega arith)) in
    rw (at, e, none, append-nil)

-- two of the h values there are exchanged
pub exchange_laid : (raw ys : List ℕ) (len h n m : ℕ) → length raw ≡ 1024 → h ≡ min 1024 len → n < h → m < h
    → ys ≡ swap (mid_of (1024 - h) (1024 - (1024 - h)) raw) n m
    → put_mid (1024 - h) (1024 - (1024 - h)) raw ys ≡ laid (exchange_on n m (kept raw len)).stack.values raw
unfolding fifo exchange_on
exchange_laid raw ys len h n m full is i j e =
    let at : length raw - len ≡ 1024 - h = omega arith in
    let l = drop (1024 - h) raw in
    let high : length l ≡ h = simp length-drop (omega arith) in
    let whole : mid_of (1024 - h) (1024 - (1024 - h)) raw ≡ l = take_all (1024 - (1024 - h)) l (omega arith) in
    let e' : ys ≡ exchanged n m l = e ∙ ap (λ z. swap z n m) whole ∙ sym (swap_is l n m 0 (omega arith) (omega arith)) in
    let some-there = ne_eqb (length l) 0 (λ z. omega arith) in
    rw (at, some-there, lt-leb (length l) n (omega arith), lt-leb (length l) m (omega arith))
    (end_laid raw ys (exchanged n m l) (1024 - h) (1024 - (1024 - h)) e' (omega arith) (omega arith) (simp length-set (omega arith)))
