-- `slowness` is `slowness_at`: the cores of the module after the i-th are those of the first of the rest.
use mathlib.Core.Path.{◌∙◌}
use native.Mathlib.Omega.{arith}
use Rattle.modules.specs.Model.{chain_of}
use Rattle.layout.proofs.Turns.{record_here}
use Rattle.figures.proofs.Listed.{slowness_made}
use Rattle.figures.proofs.plan.slowness.Goals as goal

pub returns : goal.returns
returns c =
    let a = c.args in
    let k = chain_of a.costs.now a.board in
    let m = c.module_at-m.ensures ∙ record_here a.plan.now a.i (omega arith) in
    let s = c.cores_before-s.ensures in
    let q = c.cores_at-q.ensures in
    (slowness_made k a.plan.now a.count a.i m s q c.response_of.ensures.0, omega arith, omega arith)
