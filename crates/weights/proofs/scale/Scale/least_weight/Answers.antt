-- `least_weight` is the least over the first modules: those of more than the fewest cores add nothing.
use native.Mathlib.Omega.{arith}
use mathlib.Core.Path.{refl, ◌∙◌}
use Rattle.weights.specs.Scales.{chain_in}
use Rattle.weights.proofs.Cells.{min_is}
use Rattle.weights.proofs.Beginning.{begun_start, begun_tabled, begun_next, begun_end}
use Rattle.weights.proofs.scale.Scale.least_weight.Goals as goal

pub loop-q-init : goal.loop-q-init
loop-q-init c =
    let a = c.args in
    (omega arith, begun_start (chain_in a.self.now) a.self.now.n a.work.now c.no_plan-m.ensures.0)

pub start_weight-v-requires : goal.start_weight-v-requires
start_weight-v-requires c =
    let a = c.args in
    let o = c.loop-q in
    (begun_tabled (chain_in a.self.now) a.self.now.n a.self.now.board o.invariant.1 refl refl c.requires.0, c.requires.1, c.requires.2, o.auto.q, c.loop-q-test.true)

pub loop-q-preserved : goal.loop-q-preserved
loop-q-preserved c =
    let a = c.args in
    let o = c.loop-q in
    (omega (arith, c.loop-q-test.true, c.requires.2), begun_next (chain_in a.self.now) a.self.now.n o.auto.q o.invariant.1 c.start_weight-v.ensures (c.min-m.ensures ∙ min_is o.m _))

pub returns : goal.returns
returns c =
    let a = c.args in
    let o = c.loop-q in
    begun_end (chain_in a.self.now) a.self.now.n c.requires.0.area.sized.some_tasks (omega (arith, c.loop-q-test.false, c.requires.1)) o.invariant.0 o.invariant.1

pub returns-2 : goal.returns-2
returns-2 c =
    let a = c.args in
    let k = chain_in a.self.now in
    let o = c.loop-q in
    begun_end k a.self.now.n c.requires.0.area.sized.some_tasks (omega (arith, c.requires.1)) (omega (arith, c.requires.2)) (begun_next k a.self.now.n o.auto.q o.invariant.1 c.start_weight-v.ensures (c.min-m.ensures ∙ min_is o.m _))
