-- Bounds of a coefficient times a number of cores. Assumes nothing.
use Prim.Native.Nat.{ℕ, ◌*◌, ◌≤◌, ◌<◌}
use native.Mathlib.Nat.{mul-le-mul}
use native.Mathlib.Omega.{arith}

pub product_bound : (c n : ℕ) → c < 4294967296 → n < 256 → c * n ≤ 1095216660480
product_bound c n h i = mul-le-mul {n₂ = 4294967296} {m₂ = 255} (omega arith) (omega arith)
