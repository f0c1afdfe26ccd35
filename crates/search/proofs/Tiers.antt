-- Where a price has two tiers, a unit for each core and a measure f: cores are paid for, a plan weighs its cores' units and its f, and
-- where f stays below one unit over every plan that keeps the rules, weights compare by cores first and then by f.
use Prim.Native.Nat.{ℕ, ◌+◌, ◌*◌, ◌≤◌, ◌<◌}
use native.Mathlib.Omega.{arith}
use native.Mathlib.Nat.{mul-le-mul_left, mul-le-mul_right, eq-or-lt_of_le}
use mathlib.Core.Path.{◌≡◌, ap}
use mathlib.Core.Logic.{◌⊎◌, inl, inr, ◌↔◌}
use mathlib.Core.List.{List, [], ◌∷◌}
use Rattle.records.proofs.Cases.{lt_or_le}
use Rattle.modules.specs.declared.Module.{Module}
use Rattle.figures.specs.Model.{head_cores, cores_of}
use Rattle.search.specs.Plan.{Measure, Problem, total, weight, Priced}
use Rattle.search.specs.Bottleneck.{Keeps}
use Rattle.search.specs.Best.{plan_weight, Laws}
use Rattle.search.specs.Tiers.{Tiered}

-- ---- a units and x below one, against b and y

module _ (u a b x y : ℕ) (low : x < u) (low' : y < u) where
  more_units : u * a + x ≤ u * b + y → a ≤ b
  more_units h = elim (lt_or_le b a) [
    | inl l ↦ absurd (omega (arith, mul-le-mul_left u l))
    | inr l ↦ l
  ]

  fewer_first : u * a + x < u * b + y → (a < b) ⊎ ((a ≡ b) × (x < y))
  fewer_first h = elim (eq-or-lt_of_le (more_units (omega arith))) [
    | inl e ↦ inr (e, omega (arith, ap (λ z. u * z) e))
    | inr l ↦ inl l
  ]

  first_fewer : (a < b) ⊎ ((a ≡ b) × (x < y)) → u * a + x < u * b + y
  first_fewer (inl l) = omega (arith, mul-le-mul_left u l)
  first_fewer (inr (e, l)) = omega (arith, ap (λ z. u * z) e)

  pub units_exactly : (u * a + x < u * b + y) ↔ ((a < b) ⊎ ((a ≡ b) × (x < y)))
  units_exactly = (fewer_first, first_fewer)

-- the same weight is the same of both
pub same_units : (u a b x y : ℕ) → x < u → y < u → u * a + x ≡ u * b + y → (a ≡ b) × (x ≡ y)
same_units u a b x y low low' h =
    let e : a ≡ b = omega (arith, more_units u a b x y low low' (omega arith), more_units u b a y x low' low (omega arith)) in
    (e, omega (arith, ap (λ z. u * z) e))

-- ---- the weight of a plan

module _ (X : Problem) (f : Measure) (tiered : Tiered X f) where
  pub tiered_priced : Priced X
  tiered_priced = record { covers = λ s t l r p q. omega (arith, tiered.price_is s t l r p q) }

  pub tiered_weight : (s t : ℕ) (ms : List Module) → weight X s t ms ≡ X.unit * cores_of ms + total f s t ms
  unfolding cores_of
  tiered_weight s t [] = omega arith
  tiered_weight s t (x ∷ ms) =
      omega (arith, tiered.price_is s t x.last x.copies x.cores (head_cores ms), tiered_weight x.cores x.last ms)

  -- more copies do not cost less, where they do not make f less
  pub tiered_rises : (s t l r r' p q : ℕ) → f s t l r p q ≤ f s t l r' p q → r ≤ r' → X.price s t l r p q ≤ X.price s t l r' p q
  tiered_rises s t l r r' p q h g =
      omega (arith, tiered.price_is s t l r p q, tiered.price_is s t l r' p q, mul-le-mul_left X.unit (mul-le-mul_right p g))

  -- ---- where f stays below one unit

  module _ (low : (ms : List Module) → Keeps X ms → total f 0 0 ms < X.unit) where
    pub tiered_laws : Laws X
    tiered_laws = record { priced = tiered_priced; level = λ ms h. omega (arith, low ms h, tiered_weight 0 0 ms) }

    module _ (a b : List Module) (ka : Keeps X a) (kb : Keeps X b) where
      pub lighter_exactly : (plan_weight X a < plan_weight X b) ↔ ((cores_of a < cores_of b) ⊎ ((cores_of a ≡ cores_of b) × (total f 0 0 a < total f 0 0 b)))
      lighter_exactly = rw (tiered_weight 0 0 a, tiered_weight 0 0 b)
          (units_exactly X.unit (cores_of a) (cores_of b) (total f 0 0 a) (total f 0 0 b) (low a ka) (low b kb))

      pub same_weight : plan_weight X a ≡ plan_weight X b → (cores_of a ≡ cores_of b) × (total f 0 0 a ≡ total f 0 0 b)
      same_weight h =
          same_units X.unit (cores_of a) (cores_of b) (total f 0 0 a) (total f 0 0 b) (low a ka) (low b kb)
          (omega (arith, tiered_weight 0 0 a, tiered_weight 0 0 b))
