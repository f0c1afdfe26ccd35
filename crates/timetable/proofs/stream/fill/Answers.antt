-- `fill` holds the body and the transfer of each module that it has passed, and runs on those of the plan.
use mathlib.Core.Path.{◌≡◌, ap, ◌∙◌}
use mathlib.Core.List.{List, ◌++◌}
use native.Mathlib.Omega.{arith}
use lib.ListN.{drop, length-set}
use Rattle.modules.specs.declared.Module.{Module}
use Rattle.modules.specs.Model.{chain_of, body}
use Rattle.layout.proofs.Turns.{record_here}
use Rattle.timetable.specs.Stages.{Stage}
use Rattle.timetable.specs.Timetable.{ends}
use Rattle.timetable.proofs.Loading.{each_more, each_done, stages_held}
use Rattle.timetable.proofs.stream.fill.Goals as goal

pub loop-i-preserved : goal.loop-i-preserved
loop-i-preserved c =
    let l = c.loop-i in
    let a = c.args in
    let m = c.module_at-m.ensures ∙ record_here a.plan.now l.i (omega arith) in
    let v = c.body in
    let x = c.send_of in
    let e = v.ensures.0 ∙ ap (λ (y : Module). body (chain_of a.costs.now a.board) y.first y.last y.cores) m in (
      length-set l.bodies l.i v.result ∙ l.invariant.0,
      length-set l.sends l.i x.result ∙ l.invariant.1,
      each_more l.invariant.2 v.result (omega arith) e (omega arith),
      each_more l.invariant.3 x.result (omega arith) x.ensures (omega arith),
    )

pub returns : goal.returns
returns c =
    let a = c.args in
    let l = c.loop-i in
    let e : l.i ≡ a.count = omega arith in
    let same = stages_held (chain_of a.costs.now a.board) a.plan.now l.bodies l.sends a.count (each_done l.invariant.2 e) (each_done l.invariant.3 e) in
    c.run.ensures ∙ ap (λ (ss : List Stage). ends ss 1 a.n ++ drop a.n a.table.now) same
