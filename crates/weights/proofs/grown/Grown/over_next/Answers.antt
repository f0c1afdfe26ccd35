-- `over_next` is the `over_next` of specs by whatever the marked cells say: one step at the last task, else the least so far over the cores of the module after it,
-- up to those that one copy leaves.
use Prim.Native.Nat.{ℕ, ◌+◌, ◌-◌, ◌≤◌, ◌<◌, min}
use mathlib.Core.List.{List}
use native.Mathlib.Omega.{arith}
use mathlib.Core.Path.{◌≡◌, refl, ap, ◌∙◌}
use mathlib.Core.Logic.{inl, inr, ⊎_elim}
use Rattle.records.proofs.Cases.{lt_or_le}
use Rattle.modules.specs.Model.{Chain}
use Rattle.weights.specs.Scales.{chain_in}
use Rattle.search.specs.Least.{lesser, least}
use Rattle.search.specs.Plan.{cap}
use Rattle.search.specs.Weight.{over_copies, over_next}
use Rattle.search.proofs.Least.{least_more}
use Rattle.search.proofs.Sparing.{need_most}
use Rattle.slack.specs.Problem.{problem, enough_on, need_on, sparing_on}
use Rattle.weights.specs.Cells.{Looked}
use Rattle.weights.proofs.Cells.{min_is}
use Rattle.weights.proofs.Fitting.{reached_inside, spares_facts}
use Rattle.weights.proofs.Looking.{looked_none, looked_all, looked_more, looked_tabled, next_last, next_start, next_few, next_end}
use Rattle.weights.proofs.grown.Grown.over_next.Goals as goal

module _ (k : Chain) (n s t q l i : ℕ) {w w₁ : List ℕ} {m : ℕ}
    (a : Looked k n s t q w w₁ (λ b j. (b ≡ l) × (j < i)) m (λ R. least (cap (problem k)) i (over_copies (problem k) (sparing_on k n) R s t q l))) where
  -- one number of cores more
  next_more : {w₂ : List ℕ} {v x : ℕ} → Looked k n s t q w₁ w₂ (λ b j. (b ≡ l) × (j ≡ i)) v (λ R. over_copies (problem k) (sparing_on k n) R s t q l i) → x ≡ min m v
      → Looked k n s t q w w₂ (λ b j. (b ≡ l) × (j < i + 1)) x (λ R. least (cap (problem k)) (i + 1) (over_copies (problem k) (sparing_on k n) R s t q l))
  next_more {w₂} {v} e is =
      let lower = is ∙ min_is m v in
      looked_more k n s t q a e
      (λ b j h. ⊎_elim (λ (d : j < i). inl (h.0, d)) (λ (d : i ≤ j). inr (h.0, omega (arith, h.1))) (lt_or_le j i))
      (λ b j h. (h.0, omega (arith, h.1))) (λ b j h. (h.0, omega (arith, h.1))) lower
      (λ R reads d f. least_more _ i _ _ _ d (lower ∙ ap (λ (z : ℕ). lesser m z) f))

  -- up to those that one copy leaves: that was all
  next_done : i ≤ k.board + 1 → need_on k n s t q - q < i → Looked k n s t q w w₁ (λ b j. b ≡ l) m (λ R. over_next (problem k) (sparing_on k n) R s t q l)
  next_done most far =
      looked_all k n s t q a (λ b j h. h.0) (λ b r j h u. (h, omega (arith, next_few k n s t q (λ _ _ _. 0) b r j u))) (λ R d. next_end k n s t q R l i m most far d)

pub returns-then-self : goal.returns-then-self
returns-then-self c =
    let a = c.args in
    let k = chain_in a.self.now.scale in
    let x = a.self.now.rest in
    let v = c.over_copies.ensures in
    let e = c.if-self.true in
    looked_all k a.self.now.scale.n x.before x.from x.cores v (λ i j h. h.0)
    (λ i r j h u. (h, (spares_facts k a.self.now.scale.n x.before x.from i r x.cores j u).ends (h ∙ e)))
    (λ R d. next_last k a.self.now.scale.n x.before x.from x.cores R a.self.now.last e d v.most)

pub loop-i-init : goal.loop-i-init
loop-i-init c =
    let a = c.args in
    let k = chain_in a.self.now.scale in
    let x = a.self.now.rest in
    let more : a.self.now.last < k.tasks = omega (arith, c.if-self.false, reached_inside c.args.self.now.loaded.reached) in
    let e = c.no_plan-m.ensures.0 in (
      omega arith,
      looked_none k a.self.now.scale.n x.before x.from x.cores a.work.now (λ i j. (i ≡ a.self.now.last) × (j < 1)) _ e
          (λ i r j h u. omega (arith, h.1, (spares_facts k a.self.now.scale.n x.before x.from i r x.cores j u).goes (omega (arith, h.0))))
          (λ R. e ∙ next_start k a.self.now.scale.n x.before x.from x.cores R a.self.now.last more),
    )

pub over_copies-v-requires : goal.over_copies-v-requires
over_copies-v-requires c =
    let a = c.args in
    let k = chain_in a.self.now.scale in (
      looked_tabled k a.self.now.scale.n a.self.now.rest.before a.self.now.rest.from a.self.now.rest.cores c.loop-i.invariant.1 a.self.now.scale.board refl refl c.requires,
      omega (arith, c.loop-i-test.true, c.args.self.now.stands.left, c.args.self.now.stands.one_core, need_most a.self.now.scale.board.cores (enough_on k a.self.now.scale.n) a.self.now.rest.before a.self.now.rest.from a.self.now.rest.cores),
    )

pub loop-i-preserved : goal.loop-i-preserved
loop-i-preserved c =
    let a = c.args in
    let k = chain_in a.self.now.scale in
    let x = a.self.now.rest in
    let most = need_most a.self.now.scale.board.cores (enough_on k a.self.now.scale.n) x.before x.from x.cores in
    (omega (arith, c.loop-i-test.true, c.args.self.now.stands.left, c.args.self.now.stands.one_core), next_more k a.self.now.scale.n x.before x.from x.cores a.self.now.last c.loop-i.i c.loop-i.invariant.1 c.over_copies-v.ensures c.min-m.ensures)

pub returns-else-self : goal.returns-else-self
returns-else-self c =
    let a = c.args in
    let k = chain_in a.self.now.scale in
    let x = a.self.now.rest in
    next_done k a.self.now.scale.n x.before x.from x.cores a.self.now.last c.loop-i.i c.loop-i.invariant.1 c.loop-i.invariant.0 (omega (arith, c.loop-i-test.false, c.args.self.now.stands.left))

pub returns-else-self-2 : goal.returns-else-self-2
returns-else-self-2 c =
    let a = c.args in
    let k = chain_in a.self.now.scale in
    let x = a.self.now.rest in
    let i = c.loop-i.i in
    let most = need_most a.self.now.scale.board.cores (enough_on k a.self.now.scale.n) x.before x.from x.cores in
    next_done k a.self.now.scale.n x.before x.from x.cores a.self.now.last (i + 1) (next_more k a.self.now.scale.n x.before x.from x.cores a.self.now.last i c.loop-i.invariant.1 c.over_copies-v.ensures c.min-m.ensures)
    (omega (arith, c.loop-i-test.true, c.args.self.now.stands.left, c.args.self.now.stands.one_core)) (omega (arith, c.args.self.now.stands.left))
