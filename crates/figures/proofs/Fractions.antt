-- Fractions by cross-multiplication: order is transitive where the one between has a denominator. Assumes nothing.
use Prim.Native.Nat.{ℕ, ◌*◌, ◌≤◌, ◌<◌}
use native.Mathlib.Nat.{mul-le-mul_right, mul-lt-mul_of_pos_right, le_of_mul-le-mul_right, lt_of_mul-lt-mul_right}
use native.Mathlib.Omega.{arith}

module _ (a r b s c t : ℕ) (some : 1 ≤ s) where
  pub le_le : a * s ≤ b * r → b * t ≤ c * s → a * t ≤ c * r
  le_le h i = le_of_mul-le-mul_right {k = s} (omega (arith, mul-le-mul_right t h, mul-le-mul_right r i)) some

  pub le_lt : a * s ≤ b * r → b * t < c * s → 1 ≤ r → a * t < c * r
  le_lt h i x = lt_of_mul-lt-mul_right s (omega (arith, mul-le-mul_right t h, mul-lt-mul_of_pos_right i x))

  pub lt_le : a * s < b * r → b * t ≤ c * s → 1 ≤ t → a * t < c * r
  lt_le h i x = lt_of_mul-lt-mul_right s (omega (arith, mul-lt-mul_of_pos_right h x, mul-le-mul_right r i))
