-- Inside a stack the two conversions, which are one count from the other end, stay inside and undo each other.
use Prim.Native.Nat.{ℕ, ◌-◌, ◌<◌}
use native.Mathlib.Omega.{arith}
use mathlib.Core.Path.{◌≡◌}

pub turned-inside : (height k : ℕ) → k < height → height - 1 - k < height
turned-inside height k h = omega arith

pub turned-back : (height k : ℕ) → k < height → height - 1 - (height - 1 - k) ≡ k
turned-back height k h = omega arith
