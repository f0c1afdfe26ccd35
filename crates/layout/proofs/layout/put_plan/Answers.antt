-- `put_plan` copies a plan to the start of the bytes, where they have room for one.
use mathlib.Core.Path.{◌≡◌, refl}
use native.Mathlib.Omega.{arith}
use borrow.Author.Rules.{rules}
use borrow.Author.Tests.{le-leb, lt-leb}
use lib.ListN.{length}
use Rattle.std.proofs.lemmas.List.{length-take-le}
use Rattle.layout.specs.Layout.{plan_bytes, put_plan}
use Rattle.layout.proofs.layout.put_plan.Goals as goal

pub copy_from_slice-requires : goal.copy_from_slice-requires
copy_from_slice-requires c =
    let a = c.args in
    let long : length a.from ≡ plan_bytes = search rules in
    omega (arith, length-take-le plan_bytes a.plan.now c.if-plan-ge-PLAN_BYTES.true)

pub returns-then-plan-ge-PLAN_BYTES : goal.returns-then-plan-ge-PLAN_BYTES
unfolding put_plan
returns-then-plan-ge-PLAN_BYTES c = rw (le-leb _ _ c.if-plan-ge-PLAN_BYTES.true, c.copy_from_slice.ensures.after) refl

pub returns-else-plan-ge-PLAN_BYTES : goal.returns-else-plan-ge-PLAN_BYTES
unfolding put_plan
returns-else-plan-ge-PLAN_BYTES c = rw (lt-leb _ _ c.if-plan-ge-PLAN_BYTES.false) refl
