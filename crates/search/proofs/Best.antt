-- The plan of the least feasible threshold beats every plan that keeps the rules: within the threshold all bottlenecks are equal,
-- beyond it they are greater, and the walk gives the first of the lightest plans within it.
use Prim.Native.Nat.{ℕ, zero, suc, ◌*◌, ◌≤◌, ◌<◌}
use native.Mathlib.Omega.{arith}
use native.Mathlib.Nat.{le_trans, eq-or-lt_of_le, mul-le-mul_left, le-mul_of_pos_right}
use mathlib.Core.Path.{◌≡◌}
use mathlib.Core.Logic.{◌⊎◌, inl, inr}
use mathlib.Core.List.{List}
use lib.Dec.{T, T_not}
use Rattle.modules.specs.declared.Module.{Module}
use Rattle.figures.specs.Model.{head_cores}
use Rattle.figures.specs.Plan.{Before}
use Rattle.search.specs.Plan.{Problem, valid, cap, Priced}
use Rattle.search.specs.Fraction.{Under, Same}
use Rattle.search.specs.Bottleneck.{rules, within, plan_bottleneck, PlanWithin, Keeps, Small}
use Rattle.search.specs.Order.{Beats}
use Rattle.search.specs.Walk.{First}
use Rattle.search.specs.Best.{plan_weight, fits_at, table_at, light, room_at, plan, Feasible, Bottom, Laws}
use Rattle.search.proofs.Tests.{passed, failed, test}
use Rattle.search.proofs.Least.{least_le, least_at}
use Rattle.search.proofs.Plan.{valid_map, Fair, head_le, tight_fits, tight_fair, valid_tight, on_board}
use Rattle.search.proofs.Weight.{attained, table_le}
use Rattle.search.proofs.Bottleneck.{rules_fair, within_fair, within_rules, den_pos, bottleneck_out, threshold, threshold_zero, beyond}
use Rattle.search.proofs.Walk.{walk_is}

pub fits_fair : (X : Problem) (n : ℕ) → Fair X.tasks (fits_at X n)
fits_fair X n = tight_fair X.board (within X n) X.tasks (within_fair X n)

module _ (X : Problem) where
  -- the pruned rule loses no plan that keeps the board
  pub prune : (n : ℕ) (b : List Module) → Keeps X b → PlanWithin X n b → T (valid X.tasks (fits_at X n) 0 0 b)
  prune n b h v = valid_tight X.board (within X n) X.tasks (within_fair X n) 0 0 b v (omega (arith, h.1))

  module _ (A : Priced X) where
    -- no plan within n that weighs less than the cap weighs less than the least
    light_under : (n : ℕ) (b : List Module) → Keeps X b → PlanWithin X n b → plan_weight X b < cap X → light X n ≤ plan_weight X b
    unfolding light
    light_under n b h v w =
        le_trans (least_le (cap X) (suc X.board) (table_at X n 0 0) (head_cores b)
        (omega (arith, head_le X.tasks (rules X) (rules_fair X) 0 0 b h.0, h.1)))
        (table_le X (fits_at X n) (fits_fair X n) A 0 0 b (prune n b h v) w)

    -- ---- the plan of a feasible threshold

    pub plan_is : (n : ℕ) → Feasible X n → First X (fits_at X n) 0 0 (room_at X n) (plan X n)
    unfolding light plan
    plan_is n h =
        let (q, hq, e) = least_at (cap X) (suc X.board) (table_at X n 0 0) h in
        let a = attained X (fits_at X n) X.tasks 0 0 q (omega arith) in
        walk_is X (fits_at X n) (table_at X n) (fits_fair X n) A
        (table_le X (fits_at X n) (fits_fair X n) A) (attained X (fits_at X n) X.tasks)
        X.tasks 0 0 (room_at X n) (omega arith) (λ q. h) a.modules (record { ok = a.ok; light = omega (arith, a.weighs) })

    module _ (n : ℕ) (feasible : Feasible X n) where
      pub plan_within : PlanWithin X n (plan X n)
      plan_within =
          valid_map X.tasks (fits_at X n) (within X n) (tight_fits X.board (within X n)) 0 0 (plan X n) (plan_is n feasible).fine.ok

      plan_light : plan_weight X (plan X n) < cap X
      plan_light = omega (arith, (plan_is n feasible).fine.light)

      pub plan_keeps : Keeps X (plan X n)
      plan_keeps = (within_rules X n 0 0 (plan X n) plan_within, on_board X A 0 0 (plan X n) plan_light)

      pub plan_weighs : plan_weight X (plan X n) ≡ light X n
      plan_weighs = omega (arith, (plan_is n feasible).fine.light, light_under n (plan X n) plan_keeps plan_within plan_light)

module _ (X : Problem) (L : Laws X) where
  -- a plan that keeps the board weighs less than the cap (the converse is `on_board`)
  pub board_weight : (ms : List Module) → Keeps X ms → plan_weight X ms < cap X
  unfolding cap
  board_weight ms h = le_trans (L.level ms h) (mul-le-mul_left X.unit (omega (arith, h.1)))

  pub light_le : (n : ℕ) (b : List Module) → Keeps X b → PlanWithin X n b → light X n ≤ plan_weight X b
  light_le n b h v = light_under X L.priced n b h v (board_weight b h)

  -- ---- the plan of the least feasible threshold

  module _ (small : Small X) (n : ℕ) (feasible : Feasible X n) (bottom : Bottom X n) where
    same_bottleneck : (m : ℕ) (b : List Module) → Keeps X b → Bottom X m → PlanWithin X m (plan X n)
        → PlanWithin X m b → Same (plan_bottleneck X (plan X n)) (plan_bottleneck X b)
    same_bottleneck zero b h d v u = threshold_zero X small (plan X n) b v u
    same_bottleneck (suc m) b h d v u =
        threshold X small m (λ ms g w. omega (arith, light_le m ms g w, board_weight ms g))
        (plan X n) b (plan_keeps X L.priced n feasible) h v u

    first_lightest : (b : List Module) → Keeps X b → PlanWithin X n b
        → (plan_weight X (plan X n) < plan_weight X b)
        ⊎ ((plan_weight X (plan X n) ≡ plan_weight X b) × ((plan X n ≡ b) ⊎ Before (plan X n) b))
    first_lightest b h v =
        let w = plan_weighs X L.priced n feasible in
        let l = light_le n b h v in
        let c : plan_weight X (plan X n) ≤ plan_weight X b = omega arith in
        elim (eq-or-lt_of_le c) [
          | inr d ↦ inl d
          | inl e ↦ inr (e, (plan_is X L.priced n feasible).first b (record { ok = prune X n b h v; light = omega arith }))
        ]

    pub best : (b : List Module) → Keeps X b → Beats (plan_bottleneck X) (plan_weight X) (plan X n) b
    unfolding Beats
    best b h = elim (test (valid X.tasks (within X n) 0 0 b)) [
      | passed v ↦ inr (same_bottleneck n b h bottom (plan_within X L.priced n feasible) v, first_lightest b h v)
      | failed v ↦
          let out : PlanWithin X n b → ⊥ = T_not (valid X.tasks (within X n) 0 0 b) v in
          inl (beyond X small n (plan X n) b (plan_keeps X L.priced n feasible) h (plan_within X L.priced n feasible) out)
    ]

  -- ---- which thresholds are feasible

  -- each that is at least the bottleneck of a plan
  pub feasible_by : (n : ℕ) (b : List Module) → Keeps X b → Under X.grain n (plan_bottleneck X b) → Feasible X n
  feasible_by n b h u = omega (arith, light_le n b h (bottleneck_out X n 0 0 b h.0 u), board_weight b h)

  pub feasible_some : (n : ℕ) (b : List Module) → Keeps X b → (plan_bottleneck X b).num * X.grain ≤ n → Feasible X n
  feasible_some n b h e = feasible_by n b h (omega (arith, le-mul_of_pos_right n (den_pos X 0 0 b h.0)))
