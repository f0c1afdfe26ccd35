-- Bounds of products of bytes and of places in a file. Assumes nothing.
use Prim.Native.Nat.{ℕ, ◌+◌, ◌-◌, ◌*◌, ◌≤◌, ◌<◌}
use native.Mathlib.Nat.{mul-le-mul}
use native.Mathlib.Omega.{arith}

pub product_of_bytes : {x y : ℕ} → x < 256 → y < 256 → x * y ≤ 65025
product_of_bytes h i = mul-le-mul {n₂ = 255} {m₂ = 255} (omega arith) (omega arith)

-- the places before row x, rows counted from 1
pub row_of_bytes : {x y : ℕ} → x < 256 → y < 256 → (x - 1) * y ≤ 65025
row_of_bytes h i = mul-le-mul {n₂ = 255} {m₂ = 255} (omega arith) (omega arith)

-- the sum of all that counts and places are made of: each part of it is at most the whole
pub place_bound : {k p t : ℕ} → k < 256 → p < 256 → t < 256 → 1 + k + k * p + (k - 1) * p + (t - 1) * (p * p) < 33554432
place_bound {k} {p} {t} h i j =
    let a : (t - 1) * (p * p) ≤ 255 * 65025 = mul-le-mul {n₂ = 255} (omega arith) (product_of_bytes i i) in
    omega (arith, product_of_bytes h i, row_of_bytes h i)
