-- `slower` is `slower_of`: the test is the definition's, and a response times a count of copies fits.
use Prim.Native.Nat.{ℕ, ◌*◌, ◌≤◌, ◌<◌}
use native.Mathlib.Nat.{mul-le-mul}
use native.Mathlib.Omega.{arith}
use borrow.Author.Tests.{lt-ltb, le-ltb}
use Rattle.figures.specs.Model.{slower_of}
use Rattle.figures.proofs.plan.slower.Goals as goal

response_by_copies : (x y : ℕ) → x < 8796093022208 → y < 256 → x * y ≤ 8796093022208 * 256
response_by_copies x y h i = mul-le-mul {n₂ = 8796093022208} {m₂ = 256} (omega arith) (omega arith)

pub overflow_mul-left : goal.overflow_mul-left
overflow_mul-left c =
    let a = c.args in
    omega (arith, response_by_copies a.x.response a.y.copies (omega arith) (omega arith))

pub overflow_mul-right : goal.overflow_mul-right
overflow_mul-right c =
    let a = c.args in
    omega (arith, response_by_copies a.y.response a.x.copies (omega arith) (omega arith))

pub returns-then-left-right : goal.returns-then-left-right
unfolding slower_of
returns-then-left-right c = simp (lt-ltb _ _ c.if-left-right.true)

pub returns-else-left-right : goal.returns-else-left-right
unfolding slower_of
returns-else-left-right c = simp (le-ltb _ _ c.if-left-right.false)
