-- `put_record` is a run of eight stores.
use mathlib.Core.Path.{◌≡◌}
use Prim.Native.Nat.{suc, ◌+◌, ◌*◌, ◌/◌, ◌%◌}
use native.Mathlib.Omega.{arith}
use Rattle.fitted.specs.Fill.{record_of}
use Rattle.fitted.proofs.fill.put_record.Goals as goal

pub returns : goal.returns
unfolding record_of
returns c =
    let n = c.args.n in
    let v = c.args.value in
    let e₁ : 8 * n + 1 ≡ suc (8 * n) = omega arith in
    let e₂ : 8 * n + 2 ≡ suc (suc (8 * n)) = omega arith in
    let e₃ : 8 * n + 3 ≡ suc (suc (suc (8 * n))) = omega arith in
    let e₄ : 8 * n + 4 ≡ suc (suc (suc (suc (8 * n)))) = omega arith in
    let e₅ : 8 * n + 5 ≡ suc (suc (suc (suc (suc (8 * n))))) = omega arith in
    let e₆ : 8 * n + 6 ≡ suc (suc (suc (suc (suc (suc (8 * n)))))) = omega arith in
    let e₇ : 8 * n + 7 ≡ suc (suc (suc (suc (suc (suc (suc (8 * n))))))) = omega arith in
    let h : v / 16777216 % 256 ≡ v / 16777216 = omega arith in
    rw c.to_le_bytes.ensures (simp (e₁, e₂, e₃, e₄, e₅, e₆, e₇, h))
