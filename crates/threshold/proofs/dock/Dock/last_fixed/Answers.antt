-- `last_fixed` passes tasks that may have copies from l on downwards: every module up to l from after them may have copies.
use native.Mathlib.Omega.{arith}
use mathlib.Core.Path.{sym, ◌∙◌}
use Rattle.threshold.specs.Docks.{chain}
use Rattle.threshold.proofs.Laying.{free_more, fixed_here}
use Rattle.threshold.proofs.dock.Dock.last_fixed.Goals as goal

pub returns-then-not-copies_allowed : goal.returns-then-not-copies_allowed
returns-then-not-copies_allowed c =
    let o = c.loop-t in
    let a = c.args in
    fixed_here (chain a.self.now) o.t a.l (omega arith) (omega arith) (sym c.copies_allowed.ensures ∙ c.if-not-copies_allowed.true) o.invariant

pub loop-t-preserved : goal.loop-t-preserved
loop-t-preserved c =
    let o = c.loop-t in
    let a = c.args in
    free_more (chain a.self.now) o.t a.l (omega arith) (omega arith) (sym c.copies_allowed.ensures ∙ c.if-not-copies_allowed.false) o.invariant
