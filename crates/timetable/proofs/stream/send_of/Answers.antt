-- `send_of` is the stage's transfer, nothing for the last module.
use mathlib.Core.Path.{◌∙◌}
use Prim.Native.Nat.{◌+◌}
use native.Mathlib.Omega.{arith}
use Rattle.modules.specs.Model.{chain_of}
use Rattle.layout.proofs.Turns.{record_here}
use Rattle.timetable.proofs.Loading.{send_next, send_none}
use Rattle.timetable.proofs.stream.send_of.Goals as goal

pub returns-then-count-i : goal.returns-then-count-i
returns-then-count-i c =
    let a = c.args in
    send_none (chain_of a.costs.now a.board) a.plan.now a.count a.i c.if-count-i.true

pub returns : goal.returns
returns c =
    let a = c.args in
    send_next (chain_of a.costs.now a.board) a.plan.now a.count a.i c.if-count-i.false (c.module_at-m.ensures ∙ record_here a.plan.now a.i (omega arith))
    (c.module_at-to.ensures ∙ record_here a.plan.now (a.i + 1) (omega arith)) c.transfer.ensures
