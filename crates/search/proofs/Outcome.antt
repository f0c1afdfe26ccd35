-- The planner's answer is the best plan, or no plan keeps the rules; so its bottleneck is the least of all. With it, how the
-- answers to two problems compare, from how their plans do.
use Prim.Native.Nat.{ℕ, ◌*◌, ◌≤◌}
use native.Mathlib.Omega.{arith}
use mathlib.Core.Path.{refl, ap}
use mathlib.Core.List.{List}
use mathlib.Core.Option.{Option, none, some}
use lib.Dec.{ltb→lt, nltb→le}
use Rattle.modules.specs.declared.Module.{Module}
use Rattle.search.specs.Plan.{Problem, cap}
use Rattle.search.specs.Fraction.{Frac, AtMost, plus}
use Rattle.search.specs.Bottleneck.{plan_bottleneck, Keeps, Small}
use Rattle.search.specs.Best.{plan_weight, light, plan, Laws}
use Rattle.search.specs.Answer.{feasible, first_feasible, answer}
use Rattle.search.specs.Outcome.{NoPlan, Best, Searched, without_plan, with_best, Least, bottleneck_of, Outcome, nothing, found, Differ, NoMore}
use Rattle.search.proofs.Tests.{cond_case}
use Rattle.search.proofs.Fraction.{AtMost-trans}
use Rattle.search.proofs.Bottleneck.{den_pos}
use Rattle.search.proofs.Order.{beats_at_most}
use Rattle.search.proofs.Best.{plan_keeps, best, feasible_some}
use Rattle.search.proofs.Answer.{first_has, first_bottom}

-- ---- the best plan has the least bottleneck

best_least : (X : Problem) (g : List Module → ℕ) (a : List Module) → Best X g a → Least X (plan_bottleneck X a)
best_least X g a B = record {
  by = a;
  keeps = B.keeps;
  is = refl;
  low = λ b k. beats_at_most (plan_bottleneck X) g a b (B.beats b k);
}

-- so what an answer says of the plan it says of the bottleneck
pub searched_outcome : (X : Problem) (g : List Module → ℕ) (o : Option (List Module)) → Searched X g o → Outcome X (bottleneck_of X o)
unfolding bottleneck_of
searched_outcome X g o (without_plan e n) = nothing (ap (bottleneck_of X) e) n
searched_outcome X g o (with_best a e B) = found (plan_bottleneck X a) (ap (bottleneck_of X) e) (best_least X g a B)

-- ---- the planner's answer, with a bound U on every bottleneck times the grain

module _ (X : Problem) (L : Laws X) (small : Small X) (U : ℕ)
    (bound : (ms : List Module) → Keeps X ms → (plan_bottleneck X ms).num * X.grain ≤ U) where
  pub answer_best : Searched X (plan_weight X) (answer X U)
  unfolding answer
  answer_best = cond_case (feasible X U) (Searched X (plan_weight X)) (some (plan X (first_feasible X U))) none
      (λ u.
      let g = ltb→lt (light X U) (cap X) u in
      let n = first_feasible X U in
      let f = first_has X U g in
      with_best (plan X n) refl (record { keeps = plan_keeps X L.priced n f; beats = best X L small n f (first_bottom X U n g refl) }))
      (λ u. without_plan refl (λ y k. omega (arith, nltb→le (light X U) (cap X) u, feasible_some X L U y k (bound y k))))

  pub outcome : Outcome X (bottleneck_of X (answer X U))
  outcome = searched_outcome X (plan_weight X) (answer X U) answer_best

-- ---- the answers to two problems

pub least_pos : (X : Problem) (z : Frac) → Least X z → 1 ≤ z.den
least_pos X z L = rw L.is at (den_pos X 0 0 L.by L.keeps.0)

-- where each plan of Y gives a plan of X whose bottleneck is at most m more, the least bottlenecks are so too
module _ (X Y : Problem) (m : ℕ) (f : List Module → List Module)
    (keep : (b : List Module) → Keeps Y b → Keeps X (f b))
    (near : (b : List Module) → Keeps Y b → AtMost (plan_bottleneck X (f b)) (plus (plan_bottleneck Y b) m)) where
  pub none_from_none : NoPlan X → NoPlan Y
  none_from_none h b k = h (f b) (keep b k)

  pub least_near : (x y : Frac) → Least X x → Least Y y → AtMost x (plus y m)
  least_near x y L M =
      let b = M.by in
      let k = keep b M.keeps in
      rw M.is at
      (AtMost-trans x (plan_bottleneck X (f b)) (plus (plan_bottleneck Y b) m) (den_pos X 0 0 (f b) k.0)
      (L.low (f b) k) (near b M.keeps))

module _ (X Y : Problem) (o w : Option Frac) where
  pub differ : (m : ℕ) → (NoPlan X → NoPlan Y) → (NoPlan Y → NoPlan X)
      → ((x y : Frac) → Least X x → Least Y y → AtMost x (plus y m) × AtMost y (plus x m)) → Outcome X o → Outcome Y w → Differ m o w
  unfolding Differ
  differ m f g h (nothing d n) (nothing e k) = rw (d, e) tt
  differ m f g h (nothing d n) (found y e M) = absurd (f n M.by M.keeps)
  differ m f g h (found x d L) (nothing e k) = absurd (g k L.by L.keeps)
  differ m f g h (found x d L) (found y e M) = rw (d, e) (h x y L M)

  pub no_more : (NoPlan X → NoPlan Y) → ((x y : Frac) → Least X x → Least Y y → AtMost x y) → Outcome X o → Outcome Y w → NoMore o w
  unfolding NoMore
  no_more f h (nothing d n) (nothing e k) = rw (d, e) tt
  no_more f h (nothing d n) (found y e M) = absurd (f n M.by M.keeps)
  no_more f h (found x d L) (nothing e k) = rw (d, e) tt
  no_more f h (found x d L) (found y e M) = rw (d, e) (h x y L M)
