-- `weigh_cell` looks at the rest if it is marked, and writes what it weighs.
use Prim.Native.Nat.{ℕ, ◌≤◌}
use native.Mathlib.Omega.{arith}
use mathlib.Core.Path.{◌≡◌}
use Rattle.weights.specs.Scales.{chain_in}
use Rattle.weights.proofs.Sweeping.{swept_unmarked, swept_rest}
use Rattle.weights.proofs.scale.Scale.weigh_cell.Goals as goal

some_word : {v : ℕ} → (v ≡ 0 → ⊥) → 1 ≤ v
some_word h = omega arith

pub returns-then-work-i-eq0 : goal.returns-then-work-i-eq0
returns-then-work-i-eq0 c =
    let a = c.args in
    let k = chain_in a.self.now in
    swept_unmarked k a.self.now.n c.requires.0.area.sized.tasks_most c.requires.0.area.sized.cores_most a.s a.t a.q c.requires.1 a.work.now (rw c.cell_of-i.ensures at c.if-work-i-eq0.true)

pub over_last-v-requires : goal.over_last-v-requires
over_last-v-requires c =
    let a = c.args in
    let k = chain_in a.self.now in
    (c.requires.0, c.rest_after-x.ensures.3 a.self.now.n c.requires.0.slacks)

pub returns : goal.returns
returns c =
    let a = c.args in
    let k = chain_in a.self.now in
    let x = c.rest_after-x in
    let i = c.cell_of-i.ensures in
    let v = c.over_last-v.ensures in
    swept_rest k a.self.now.n c.requires.0.area.sized.tasks_most c.requires.0.area.sized.cores_most a.s a.t a.q x.result.before x.result.from x.result.cores c.cell_of-i.result c.requires.1 x.ensures.0 x.ensures.1 x.ensures.2 i a.work.now _ _
    (omega (arith, i, v.long, c.requires.0.area.long, c.requires.0.area.sized.tasks_most, c.requires.0.area.sized.cores_most, c.requires.1.inside, c.requires.1.before, c.requires.1.first, c.requires.1.room)) (some_word (rw i at c.if-work-i-eq0.false)) v
