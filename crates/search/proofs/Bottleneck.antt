-- The threshold's argument: a plan is within n just if its bottleneck is at most n / grain; so where no plan is within n, all plans
-- within n + 1 have one bottleneck, and every other plan a greater one. Module by module, then by the spacing of fractions.
use Prim.Native.Nat.{ℕ, suc, ◌*◌, ◌≤◌}
use native.Mathlib.Omega.{arith}
use native.Mathlib.Nat.{le_refl, le_trans, le_antisymm, mul-le-mul}
use mathlib.Core.Path.{◌≡◌}
use mathlib.Core.List.{List, [], ◌∷◌}
use lib.Dec.{T, leb, leb→le, le→leb, ltb→lt}
use Rattle.modules.specs.declared.Module.{Module}
use Rattle.figures.specs.Model.{head_cores, cores_of}
use Rattle.search.specs.Plan.{Problem, valid}
use Rattle.search.specs.Fraction.{AtMost, Below, Same, Under}
use Rattle.search.specs.Bottleneck.{rules, within, load, bottleneck, plan_bottleneck, PlanWithin, Keeps, Small}
use Rattle.search.proofs.Tests.{and_l, and_r, and_i}
use Rattle.search.proofs.Fraction.{greater_case, greater_ge, Under-down, above, close_le}
use Rattle.search.proofs.Plan.{valid_first, valid_head, valid_tail, valid_cons, valid_map, Fair, fair_at, copies_le}

module _ (X : Problem) where
  -- ---- the rules, and a module within n

  pub rules_fair : Fair X.tasks (rules X)
  rules_fair = record {
    fair = λ s t l r p q u. (
      ltb→lt t l (search (and_l, and_r)),
      leb→le l X.tasks (search (and_l, and_r)),
      leb→le 1 r (search (and_l, and_r)),
      leb→le 1 p (search (and_l, and_r)),
    );
  }

  pub within_l : (n s t l r p q : ℕ) → T (within X n s t l r p q) → T (rules X s t l r p q)
  within_l n s t l r p q u = and_l (rules X s t l r p q) (leb (X.response s t l r p q * X.grain) (n * r)) u

  pub within_r : (n s t l r p q : ℕ) → T (within X n s t l r p q) → X.response s t l r p q * X.grain ≤ n * r
  within_r n s t l r p q u = leb→le _ _ (and_r (rules X s t l r p q) (leb (X.response s t l r p q * X.grain) (n * r)) u)

  pub within_i : (n s t l r p q : ℕ) → T (rules X s t l r p q) → X.response s t l r p q * X.grain ≤ n * r
      → T (within X n s t l r p q)
  within_i n s t l r p q u h = and_i (rules X s t l r p q) (leb (X.response s t l r p q * X.grain) (n * r)) u (le→leb _ _ h)

  pub within_fair : (n : ℕ) → Fair X.tasks (within X n)
  within_fair n = record { fair = λ s t l r p q u. rules_fair.fair s t l r p q (within_l n s t l r p q u) }

  pub within_rules : (n s t : ℕ) (ms : List Module) → T (valid X.tasks (within X n) s t ms)
      → T (valid X.tasks (rules X) s t ms)
  within_rules n s t ms v = valid_map X.tasks (within X n) (rules X) (within_l n) s t ms v

  -- ---- the bottleneck's denominator is a module's copies

  pub den_pos : (s t : ℕ) (ms : List Module) → T (valid X.tasks (rules X) s t ms) → 1 ≤ (bottleneck X s t ms).den
  unfolding bottleneck
  den_pos s t [] v = le_refl 1
  den_pos s t (x ∷ ms) v = greater_case _ _ (λ z. 1 ≤ z.den)
      (λ h. den_pos x.cores x.last ms (valid_tail X.tasks (rules X) s t x ms v))
      (λ h. (fair_at X.tasks (rules X) rules_fair s t x ms v).2)

  pub den_le : (b s t : ℕ) (ms : List Module) → T (valid X.tasks (rules X) s t ms) → cores_of ms ≤ b → 1 ≤ b
      → (bottleneck X s t ms).den ≤ b
  unfolding bottleneck cores_of
  den_le b s t [] v w e = e
  den_le b s t (x ∷ ms) v w e = greater_case _ _ (λ z. z.den ≤ b)
      (λ h. den_le b x.cores x.last ms (valid_tail X.tasks (rules X) s t x ms v) (omega arith) e)
      (λ h. omega (arith, copies_le X.tasks (rules X) rules_fair s t x ms v))

  -- ---- a plan's modules are within n just if its bottleneck is

  pub bottleneck_in : (n s t : ℕ) (ms : List Module) → T (valid X.tasks (within X n) s t ms)
      → Under X.grain n (bottleneck X s t ms)
  unfolding bottleneck
  bottleneck_in n s t [] v = omega arith
  bottleneck_in n s t (x ∷ ms) v = greater_case _ _ (λ z. Under X.grain n z)
      (λ h. bottleneck_in n x.cores x.last ms (valid_tail X.tasks (within X n) s t x ms v))
      (λ h. within_r n s t x.last x.copies x.cores (head_cores ms) (valid_head X.tasks (within X n) s t x ms v))

  pub bottleneck_out : (n s t : ℕ) (ms : List Module) → T (valid X.tasks (rules X) s t ms)
      → Under X.grain n (bottleneck X s t ms) → T (valid X.tasks (within X n) s t ms)
  unfolding bottleneck
  bottleneck_out n s t [] v u = v
  bottleneck_out n s t (x ∷ ms) v u =
      let d = den_pos s t (x ∷ ms) v in
      let g = greater_ge (load X s t x (head_cores ms)) (bottleneck X x.cores x.last ms) in
      valid_cons X.tasks (within X n) s t x ms (valid_first X.tasks (rules X) s t x ms v)
      (within_i n s t x.last x.copies x.cores (head_cores ms) (valid_head X.tasks (rules X) s t x ms v)
      (Under-down X.grain n _ _ g.0 d u))
      (bottleneck_out n x.cores x.last ms (valid_tail X.tasks (rules X) s t x ms v)
      (Under-down X.grain n _ _ g.1 d u))

  -- ---- plans on either side of a threshold

  module _ (small : Small X) where
    grain_positive : 1 ≤ X.grain
    grain_positive = le_trans (mul-le-mul small.positive small.positive) small.square

    den_small : (ms : List Module) → Keeps X ms → (plan_bottleneck X ms).den ≤ small.bound
    den_small ms h = den_le small.bound 0 0 ms h.0 (le_trans h.1 small.holds) small.positive

    -- where no plan is within n, any two within n + 1 have one bottleneck
    pub threshold : (n : ℕ) → ((ms : List Module) → Keeps X ms → PlanWithin X n ms → ⊥)
        → (a b : List Module) → Keeps X a → Keeps X b → PlanWithin X (suc n) a → PlanWithin X (suc n) b
        → Same (plan_bottleneck X a) (plan_bottleneck X b)
    threshold n miss a b ka kb va vb = le_antisymm (no_greater a b ka kb va) (no_greater b a kb ka vb)
      where
        no_greater : (x y : List Module) → Keeps X x → Keeps X y → PlanWithin X (suc n) x
            → AtMost (plan_bottleneck X x) (plan_bottleneck X y)
        no_greater x y kx ky vx =
            close_le X.grain n (plan_bottleneck X x) (plan_bottleneck X y)
            (le_trans (mul-le-mul (den_small x kx) (den_small y ky)) small.square) (den_pos 0 0 x kx.0)
            (bottleneck_in (suc n) 0 0 x vx) (λ u. miss y ky (bottleneck_out n 0 0 y ky.0 u))

    -- and any two within 0 have the bottleneck 0
    num_zero : (ms : List Module) → PlanWithin X 0 ms → (plan_bottleneck X ms).num ≡ 0
    num_zero ms v = omega (arith, bottleneck_in 0 0 0 ms v, mul-le-mul (le_refl (plan_bottleneck X ms).num) grain_positive)

    pub threshold_zero : (a b : List Module) → PlanWithin X 0 a → PlanWithin X 0 b → Same (plan_bottleneck X a) (plan_bottleneck X b)
    threshold_zero a b va vb = rw (num_zero a va, num_zero b vb) (omega arith)

    -- a plan not within n has a strictly greater bottleneck than one that is
    pub beyond : (n : ℕ) (a b : List Module) → Keeps X a → Keeps X b → PlanWithin X n a → (PlanWithin X n b → ⊥)
        → Below (plan_bottleneck X a) (plan_bottleneck X b)
    beyond n a b ka kb va nb =
        above X.grain n (plan_bottleneck X a) (plan_bottleneck X b) grain_positive (den_pos 0 0 a ka.0)
        (bottleneck_in n 0 0 a va) (λ u. nb (bottleneck_out n 0 0 b kb.0 u))
