-- `run` writes the ends one by one before what was lent: the times that it keeps are those of the blocks passed.
use mathlib.Core.Path.{refl, ◌∙◌}
use Prim.Native.Nat.{◌+◌, ◌-◌}
use native.Mathlib.Omega.{arith}
use lib.ListN.{take}
use Rattle.std.proofs.lemmas.List.{length-take-le}
use Rattle.layout.specs.Layout.{most_modules}
use Rattle.timetable.specs.Loops.{stages_in}
use Rattle.timetable.specs.Timetable.{ends}
use Rattle.timetable.proofs.Turns.{kept_start, kept_next, kept_end, kept_most, stages_length, table_turn}
use Rattle.timetable.proofs.stream.run.Goals as goal

pub loop-end-init : goal.loop-end-init
unfolding ends
loop-end-init c =
    let a = c.args in
    let ss = stages_in a.bodies.now a.sends.now 0 a.count in
    (refl, kept_start ss (most_modules + 1 - a.count) (most_modules + 1) (omega (arith, stages_length a.bodies.now a.sends.now 0 a.count)), refl)

pub pass-requires : goal.pass-requires
pass-requires c =
    let o = c.loop-end in
    let a = c.args in
    let p = c.requires in
    let few = length-take-le a.n a.table.now p.6 in
    (p.0, omega arith, p.1, p.2, kept_most a.bodies.now a.sends.now p.3 p.4 a.count o.end-index (most_modules + 1 - a.count) p.0 (omega arith) o.invariant.1, p.3, p.4)

pub loop-end-preserved : goal.loop-end-preserved
loop-end-preserved c =
    let o = c.loop-end in
    let a = c.args in
    let ss = stages_in a.bodies.now a.sends.now 0 a.count in
    let k = most_modules + 1 - a.count in
    let p = c.pass in (
      p.auto.through ∙ o.invariant.0,
      kept_next ss o.end-index k o.invariant.1 (p.ensures.0 ∙ rw (stages_length a.bodies.now a.sends.now 0 a.count)),
      table_turn ss (take a.n a.table.now) o.end-items o.end-index p.result c.loop-end-test.true o.invariant.2 (kept_end ss o.end-index k o.invariant.1 p.ensures.1),
    )
