-- `weigh_after` weighs the cells one after the other; those of more cores are not on the board.
use Prim.Native.Nat.{ℕ, ◌+◌, ◌≤◌, ◌<◌}
use mathlib.Core.List.{List}
use mathlib.Core.Logic.{inl, inr, ⊎_elim}
use native.Mathlib.Omega.{arith}
use mathlib.Core.Path.{◌≡◌, refl}
use Rattle.modules.specs.Model.{Chain}
use Rattle.weights.specs.Scales.{chain_in}
use Rattle.records.proofs.Cases.{lt_or_le}
use Rattle.weights.specs.Cells.{Swept}
use Rattle.weights.proofs.Sweeping.{swept_none, swept_as, swept_more, swept_tabled}
use Rattle.weights.proofs.scale.Scale.weigh_after.Goals as goal

-- one cell more
after_more : (k : Chain) (n : ℕ) → k.tasks ≤ 12 → k.board ≤ 32 → (t s q : ℕ) {w w₁ w₂ : List ℕ} → Swept k n t w w₁ (λ i j. (i ≡ s) × (j < q)) → Swept k n t w₁ w₂ (λ i j. (i ≡ s) × (j ≡ q))
    → Swept k n t w w₂ (λ i j. (i ≡ s) × (j < q + 1))
after_more k n few small t s q a b =
    swept_more k n few small a b (λ i j h. ⊎_elim (λ (d : j < q). inl (h.0, d)) (λ (d : q ≤ j). inr (h.0, omega (arith, h.1))) (lt_or_le j q))
    (λ i j h. (h.0, omega (arith, h.1))) (λ i j h. (h.0, omega (arith, h.1))) (λ i j h g. omega (arith, h.1, g.1))

pub loop-q-init : goal.loop-q-init
loop-q-init c =
    let a = c.args in
    let k = chain_in a.self.now in
    (c.requires.0, swept_none k a.self.now.n c.requires.0.area.sized.tasks_most c.requires.0.area.sized.cores_most a.t a.work.now (λ i j. (i ≡ a.s) × (j < 1)) (λ i j h d. omega (arith, h.1, d.first)))

pub loop-q-preserved : goal.loop-q-preserved
loop-q-preserved c =
    let a = c.args in
    let k = chain_in a.self.now in
    let o = c.loop-q in
    let v = c.weigh_cell.ensures in
    (swept_tabled k a.self.now.n c.requires.0.area.sized.tasks_most c.requires.0.area.sized.cores_most v a.self.now.board refl refl o.invariant.0, after_more k a.self.now.n c.requires.0.area.sized.tasks_most c.requires.0.area.sized.cores_most a.t a.s o.q o.invariant.1 v)

pub returns-2 : goal.returns-2
returns-2 c =
    let a = c.args in
    let k = chain_in a.self.now in
    let o = c.loop-q in
    swept_as k a.self.now.n c.requires.0.area.sized.tasks_most c.requires.0.area.sized.cores_most (after_more k a.self.now.n c.requires.0.area.sized.tasks_most c.requires.0.area.sized.cores_most a.t a.s o.q o.invariant.1 c.weigh_cell.ensures) (λ i j h. h.0) (λ i j h d. (h, omega (arith, d.room, c.requires.4)))
