-- `added_up` is the sum: what is added up and what is left of it are the whole, and each turn adds a 32-bit value.
use Rattle.std.proofs.Common.{◌<◌, ◌+◌, arith}
use Rattle.modules.proofs.Sums.{gather_first, gather_none}
use Rattle.modules.proofs.cost.added_up.Goals as goal
use Rattle.modules.proofs.cost.added_up.Goals.{else-loop-t-test, then-loop-t-test+else-t-last}

pub overflow_add-sum : goal.overflow_add-sum
overflow_add-sum g c =
    let l = c.loop-t in
    let small : c.value-sum.result < 4294967296 = (c.requires l.t (omega arith)).1 c.value-sum.result c.value-sum.ensures in
    omega arith

pub loop-t-preserved : goal.loop-t-preserved
loop-t-preserved g c =
    let l = c.loop-t in
    let x = c.value-sum.result in
    let small : x < 4294967296 = (c.requires l.t (omega arith)).1 x c.value-sum.ensures in (
      omega arith,
      λ f h. omega (arith, l.invariant.1 f h, h l.t x (omega arith) c.value-sum.ensures, gather_first f l.t c.args.last c.loop-t-test.true),
    )

pub returns : goal.returns
returns g c f h =
    let l = c.loop-t in
    elim c.loop-t-test.branch [
      | else-loop-t-test w ↦ omega (arith, l.invariant.1 f h, gather_none f (λ _. 0) l.t c.args.last (omega arith))
      | then-loop-t-test+else-t-last w ↦ omega (
        arith,
        l.invariant.1 f h,
        h l.t w.value-sum.result (omega arith) w.value-sum.ensures,
        gather_first f l.t c.args.last (omega arith),
        gather_none f (λ _. 0) (l.t + 1) c.args.last (omega arith),
      )
    ]
