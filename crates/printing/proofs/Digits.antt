-- scope's decimal is what the library writes of a number of 64 bits, and has twenty digits at most.
use Rattle.std.proofs.Common.{ℕ, zero, suc, ◌+◌, ◌/◌, ◌%◌, ◌^◌, ◌≤◌, ◌<◌, ◌≡◌, sym, List, length, length-append, arith, if◌then◌else◌, ltb, [], ◌∷◌, ◌++◌, Bool, true, false}
use Rattle.std.specs.Fmt.{decimal as written}
use Rattle.std.proofs.lemmas.Fmt.{AppendsLastDigit, decimal_from_appends, length-decimal-le}
use Rattle.scope.specs.Stack.{decimal_in, decimal}

appends : AppendsLastDigit decimal_in
unfolding decimal_in
appends = record { one = λ k n h. grind arith; more = λ k n h. grind arith }

few : (n : ℕ) → n < 2 ^ 64 → length (written n) ≤ 20
few n h = length-decimal-le 20 n (omega arith) (omega arith) (omega arith)

pub written-decimal : (n : ℕ) → n < 2 ^ 64 → written n ≡ decimal n
unfolding decimal
written-decimal n h = sym (decimal_from_appends decimal_in appends 20 n h (few n h))

-- a number has twenty digits at most
one_more : (b : Bool) (l : List ℕ) (d f : ℕ) → length l ≤ f → length ((if b then [] else l) ++ (d ∷ [])) ≤ suc f
one_more true l d f h = omega arith
one_more false l d f h = simp length-append (omega arith)

no-more : (f n : ℕ) → length (decimal_in f n) ≤ f
unfolding decimal_in
no-more zero n = omega arith
no-more (suc f) n = one_more (ltb n 10) (decimal_in f (n / 10)) (48 + n % 10) f (no-more f (n / 10))

pub twenty : (n : ℕ) → length (decimal n) ≤ 20
unfolding decimal
twenty n = no-more 20 n

pub ruleset digits = (written-decimal, twenty)
