-- `over_last` is the `over_last` of specs by whatever the marked cells say: the least so far over the last tasks, up to the last with which one copy keeps the rules.
use native.Mathlib.Omega.{arith}
use mathlib.Core.Path.{refl, ◌∙◌}
use Rattle.weights.proofs.Cells.{min_is}
use Rattle.weights.specs.Scales.{chain_in}
use Rattle.weights.proofs.Lengthening.{reach_range, lengthened_start, lengthened_tabled, lengthened_reached, lengthened_loaded, lengthened_next, lengthened_end, looked_nothing, spares_few}
use Rattle.weights.proofs.scale.Scale.over_last.Goals as goal

pub returns-then-x : goal.returns-then-x
returns-then-x c =
    let a = c.args in
    let k = chain_in a.self.now in
    looked_nothing k a.self.now.board a.self.now.n a.x a.work.now refl refl c.requires.0 c.requires.1 c.no_plan-m.ensures.0 (spares_few k a.self.now.board a.self.now.n a.x a.work.now refl refl c.requires.0 c.requires.1 c.if-x.true)

pub loop-l-init : goal.loop-l-init
loop-l-init c =
    let a = c.args in
    let k = chain_in a.self.now in
    lengthened_start k a.self.now.board a.self.now.n a.x a.work.now refl refl c.requires.0 c.requires.1 c.no_plan-m.ensures.0

pub longer-stay-requires : goal.longer-stay-requires
longer-stay-requires c =
    let a = c.args in
    let k = chain_in a.self.now in
    let o = c.loop-l in
    let r = reach_range k a.self.now.board a.self.now.n a.x a.work.now refl refl c.requires.0 c.requires.1 in
    let t = lengthened_tabled k a.self.now.board a.self.now.n a.x a.work.now refl refl c.requires.0 c.requires.1 o.work o.m o.stay o.rep o.l o.invariant in
    (t.area.long, o.invariant.later, omega (arith, r.1, c.loop-l-test.true, c.requires.0.area.sized.tasks_most), omega (arith, c.requires.1.room, c.requires.0.area.sized.cores_most), omega (arith, o.invariant.small, r.1, c.loop-l-test.true, c.requires.0.area.sized.tasks_most), lengthened_reached k a.self.now.board a.self.now.n a.x a.work.now refl refl c.requires.0 c.requires.1 o.work o.m o.stay o.rep o.l o.invariant (omega (arith, c.loop-l-test.true)))

pub invariant_of-module-clause-loaded : goal.invariant_of-module-clause-loaded
invariant_of-module-clause-loaded c =
    let a = c.args in
    let k = chain_in a.self.now in
    let o = c.loop-l in
    lengthened_loaded k a.self.now.board a.self.now.n a.x a.work.now refl refl c.requires.0 c.requires.1 o.work o.m o.stay o.rep o.l o.invariant (omega (arith, c.loop-l-test.true)) c.longer-stay.ensures.0 c.longer-stay.ensures.1 c.still_free-rep.ensures (omega arith) c.requires.0.area.sized.tasks_most c.handed-out.ensures (omega arith)

pub over_next-v-requires : goal.over_next-v-requires
over_next-v-requires c =
    let a = c.args in
    let k = chain_in a.self.now in
    let o = c.loop-l in
    lengthened_tabled k a.self.now.board a.self.now.n a.x a.work.now refl refl c.requires.0 c.requires.1 o.work o.m o.stay o.rep o.l o.invariant

pub loop-l-preserved : goal.loop-l-preserved
loop-l-preserved c =
    let a = c.args in
    let k = chain_in a.self.now in
    let o = c.loop-l in
    lengthened_next k a.self.now.board a.self.now.n a.x a.work.now refl refl c.requires.0 c.requires.1 o.work o.m o.stay o.rep o.l o.invariant (omega (arith, c.loop-l-test.true)) c.longer-stay.ensures.0 c.longer-stay.ensures.1 c.still_free-rep.ensures c.over_next-v.ensures (c.min-m.ensures ∙ min_is o.m _)

pub returns : goal.returns
returns c =
    let a = c.args in
    let k = chain_in a.self.now in
    let o = c.loop-l in
    lengthened_end k a.self.now.board a.self.now.n a.x a.work.now refl refl c.requires.0 c.requires.1 o.work o.m o.stay o.rep o.l o.invariant (omega (arith, c.loop-l-test.false))
