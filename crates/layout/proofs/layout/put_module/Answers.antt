-- `put_module` is the `put_module` of specs: the tests are the definition's, and its four stores are a run of stores.
use mathlib.Core.Path.{◌≡◌}
use mathlib.Core.Bool.{and-false}
use Prim.Native.Nat.{suc, ◌+◌, ◌*◌}
use native.Mathlib.Omega.{arith}
use borrow.Author.Tests.{lt-ltb, le-ltb, le-leb, lt-leb}
use Rattle.layout.specs.Layout.{most_modules, put_module}
use Rattle.layout.proofs.layout.put_module.Goals as goal
use Rattle.layout.proofs.layout.put_module.Goals.{else-i-lt-MOST_MODULES-via-then-i-lt-MOST_MODULES+else-plan-ge-PLAN_BYTES, else-i-lt-MOST_MODULES-via-else-i-lt-MOST_MODULES}

pub returns-then-plan-ge-PLAN_BYTES : goal.returns-then-plan-ge-PLAN_BYTES
unfolding put_module
returns-then-plan-ge-PLAN_BYTES c =
    let i = c.args.i in
    let e₁ : 4 * i + 1 ≡ suc (4 * i) = omega arith in
    let e₂ : 4 * i + 2 ≡ suc (suc (4 * i)) = omega arith in
    let e₃ : 4 * i + 3 ≡ suc (suc (suc (4 * i))) = omega arith in
    simp (lt-ltb i most_modules c.if-i-lt-MOST_MODULES.true, le-leb _ _ c.if-plan-ge-PLAN_BYTES.true, e₁, e₂, e₃)

pub returns-else-i-lt-MOST_MODULES : goal.returns-else-i-lt-MOST_MODULES
unfolding put_module
returns-else-i-lt-MOST_MODULES c =
    elim c.else-i-lt-MOST_MODULES.branch [
      | else-i-lt-MOST_MODULES-via-then-i-lt-MOST_MODULES+else-plan-ge-PLAN_BYTES w ↦ simp (lt-leb _ _ w.if-plan-ge-PLAN_BYTES.false, and-false)
      | else-i-lt-MOST_MODULES-via-else-i-lt-MOST_MODULES w ↦ simp (le-ltb _ _ w.if-i-lt-MOST_MODULES.false)
    ]
