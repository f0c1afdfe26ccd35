-- What holds of quotients rounded up: the laws that a reader looks for, and that the layers above cite. The definition is in
-- specs/Rounding. Assumes nothing.
use mathlib.Core.Path.{◌≡◌}
use mathlib.Core.Logic.{◌↔◌}
use Prim.Native.Nat.{ℕ, suc, ◌+◌, ◌-◌, ◌*◌, ◌≤◌}
use native.Mathlib.Nat.{le_refl, suc-mul, mul-le-mul, div-zero, div-lt_iff_lt-mul}
use native.Mathlib.Decide.{dec_lt}
use native.Mathlib.Omega.{arith}
use Rattle.rounding.specs.Rounding.{rounded_up}

-- rounded up: the least whole number that, times y, reaches x
pub rounded_least : (x y n : ℕ) → 1 ≤ y → (rounded_up x y ≤ n) ↔ (x ≤ n * y)
unfolding rounded_up
rounded_least x y n h = (
  λ e. let l = (div-lt_iff_lt-mul {k = y} {x = x + (y - 1)} {y = suc n} h).0 (omega arith) in omega (arith, l, suc-mul n y),
  λ e. let l = (div-lt_iff_lt-mul {k = y} {x = x + (y - 1)} {y = suc n} h).1 (omega (arith, suc-mul n y)) in omega (arith, l),
)

-- so it does reach x, and is at most x
pub rounded_reaches : (x y : ℕ) → 1 ≤ y → x ≤ rounded_up x y * y
rounded_reaches x y h = (rounded_least x y (rounded_up x y) h).0 (le_refl (rounded_up x y))

pub rounded_most : (x y : ℕ) → rounded_up x y ≤ x
unfolding rounded_up
rounded_most x y = elim (dec_lt 0 y) [
  | yes h ↦ (rounded_least x y x h).1 (omega (arith, mul-le-mul {n₂ = x} {m₂ = y} (le_refl x) h))
  | no h ↦ let z : y ≡ 0 = omega arith in rw z (omega (arith, div-zero (x + (0 - 1))))
]

-- more to divide by, no greater
pub rounded_falls : (x y z : ℕ) → 1 ≤ y → y ≤ z → rounded_up x z ≤ rounded_up x y
rounded_falls x y z h i =
    let a = rounded_reaches x y h in
    let b : rounded_up x y * y ≤ rounded_up x y * z = mul-le-mul {n₂ = rounded_up x y} {m₂ = z} (le_refl (rounded_up x y)) i in
    (rounded_least x z (rounded_up x y) (omega arith)).1 (omega arith)
