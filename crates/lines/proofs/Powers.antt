-- The powers of ten.
use Prim.Native.Nat.{ℕ, zero, suc, ◌^◌, ◌≤◌}
use native.Mathlib.Omega.{arith}

pub power_least : (k : ℕ) → 1 ≤ 10 ^ k
power_least zero = omega arith
power_least (suc k) = omega (arith, power_least k)

pub power_most : (i j : ℕ) → i ≤ j → 10 ^ i ≤ 10 ^ j
power_most zero j h = power_least j
power_most (suc i) zero h = absurd (omega arith)
power_most (suc i) (suc j) h = omega (arith, power_most i j (omega arith))
