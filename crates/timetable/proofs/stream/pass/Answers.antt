-- `pass` is the `pass` of specs of the definitions: what is passed and what is left make the whole row, and no time outgrows 64 bits.
use mathlib.Core.Path.{◌≡◌, ap, ◌∙◌}
use Prim.Native.Nat.{ℕ, ◌+◌}
use native.Mathlib.Omega.{arith}
use lib.ListN.{get_or, length-set}
use Rattle.timetable.specs.Loops.{most_time}
use Rattle.timetable.proofs.Turns.{row_turn, last_turn, row_done, last_done, ahead, ahead_set, later_most}
use Rattle.timetable.proofs.stream.pass.Goals as goal

pub loop-i-preserved : goal.loop-i-preserved
loop-i-preserved c =
    let o = c.loop-i in
    let p = c.requires in
    let a = c.args in
    let b = a.bodies.now in
    let x = a.sends.now in
    let e = ap (λ (v : ℕ). v + get_or x o.i 0) c.max-start.ensures in (
      length-set o.through o.i _ ∙ o.invariant.0,
      omega (arith, p.6 o.i, later_most most_time o.i o.ready _ _ _ o.invariant.1 (p.5 o.i) (ahead o.through a.through.now o.i 1 o.invariant.2) (p.4 (o.i + 1)), c.max-start.ensures),
      ahead_set o.through a.through.now o.i _ o.invariant.2,
      row_turn b x o.through a.count o.i o.ready _ (omega arith) (omega arith) e ∙ o.invariant.3,
      last_turn b x o.through a.count o.i o.ready _ (omega arith) (omega arith) e ∙ o.invariant.4,
    )

pub returns : goal.returns
returns c =
    let o = c.loop-i in
    let a = c.args in
    let e : o.i ≡ a.count = omega arith in (
      row_done a.bodies.now a.sends.now o.through a.count o.i o.ready e o.invariant.3 o.invariant.2 ∙ rw e,
      last_done a.bodies.now a.sends.now o.through a.count o.i o.ready e o.invariant.4,
    )
