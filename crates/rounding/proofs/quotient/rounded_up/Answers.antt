-- `rounded_up` is the `rounded_up` of specs: by 0 the quotient is 0.
use mathlib.Core.Path.{◌≡◌, refl, sym}
use Prim.Native.Nat.{◌+◌, ◌-◌}
use native.Mathlib.Nat.{div-zero}
use native.Mathlib.Omega.{arith}
use Rattle.rounding.specs.Rounding.{rounded_up}
use Rattle.rounding.proofs.Laws.{rounded_most}
use Rattle.rounding.proofs.quotient.rounded_up.Goals as goal

pub returns-then-y-lt1 : goal.returns-then-y-lt1
unfolding rounded_up
returns-then-y-lt1 c =
    let a = c.args in
    let z : a.y ≡ 0 = omega arith in
    (rw z (sym (div-zero (a.x + (0 - 1)))), omega arith)

pub returns : goal.returns
unfolding rounded_up
returns c =
    let a = c.args in
    (refl, rounded_most a.x a.y)
