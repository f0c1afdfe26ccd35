-- What is left of a range, one less with each turn. Assumes nothing.
use mathlib.Core.Path.{◌≡◌}
use Prim.Native.Nat.{ℕ, suc, ◌+◌, ◌-◌, ◌≤◌, ◌<◌}
use native.Mathlib.Omega.{arith}

pub left_some : {i n : ℕ} → i < n → n - i ≡ suc (n - (i + 1))
left_some h = omega arith

pub left_none : {i n : ℕ} → n ≤ i → n - i ≡ 0
left_none h = omega arith
