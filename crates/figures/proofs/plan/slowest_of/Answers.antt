-- `slowest_of` is `bottleneck`: the slowest of x and what is left is that of the whole, and x is the slower of two bounded.
use mathlib.Core.Path.{sym, ◌∙◌}
use Prim.Native.Nat.{◌<◌}
use native.Mathlib.Omega.{arith}
use Rattle.modules.specs.Model.{chain_of}
use Rattle.layout.specs.Layout.{modules_from}
use Rattle.figures.specs.Model.{bottleneck}
use Rattle.figures.proofs.Listed.{slowest_start, slowest_next, slowest_end, slower_keeps}
use Rattle.figures.proofs.plan.slowest_of.Goals as goal

pub returns-then-count-eq0 : goal.returns-then-count-eq0
unfolding bottleneck modules_from
returns-then-count-eq0 c =
    let (a, (b, d)) = c.default.ensures in
    simp c.if-count-eq0.true (λ j. record { number = a j; response = b j; copies = d j })

pub loop-i-init : goal.loop-i-init
loop-i-init c =
    let a = c.args in
    let start = slowest_start (chain_of a.costs.now a.board) a.plan.now a.count (omega arith) in
    (rw (← c.slowness-x.ensures.0) at start, omega arith, omega arith)

pub slower-x-requires : goal.slower-x-requires
slower-x-requires c = omega arith

pub loop-i-preserved : goal.loop-i-preserved
loop-i-preserved c =
    let a = c.args in
    let l = c.loop-i in
    let y = c.slowness-y in
    let next = slowest_next (chain_of a.costs.now a.board) a.plan.now l.i a.count l.x (omega arith) in
    let h = slower_keeps (λ z. (z.response < 8796093022208) × (z.copies < 256)) l.x y.result (omega arith) (omega arith) in
    rw c.slower-x.ensures (rw y.ensures.0 (l.invariant.0 ∙ next), omega arith, omega arith)

pub returns : goal.returns
returns c =
    let a = c.args in
    let l = c.loop-i in
    sym (l.invariant.0 ∙ slowest_end (chain_of a.costs.now a.board) a.plan.now l.i a.count l.x (omega arith))
