-- What stands above a position is the part from it up without its last value.
use Rattle.std.proofs.Common.{ℕ, ◌-◌, ◌≡◌, List, length, take, arith}
use lib.Seq.{take-take, length-take-le}
use Rattle.scope.specs.Words.{◌from◌, ◌above◌}

pub all_but_last : (l : List ℕ) (p n : ℕ) → n ≡ length (l from p) - 1 → take n (l from p) ≡ (l above p)
all_but_last l p n e =
    let long : length (l from p) ≡ length l - p = length-take-le (length l - p) l (omega arith) in
    let is : n ≡ length l - 1 - p = omega arith in
    rw is (take-take (length l - 1 - p) (length l - p) l (omega arith))
