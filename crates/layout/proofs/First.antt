-- What plan bytes say, their first 48 bytes say: by induction along the records, of which no more than twelve are read. Assumes
-- nothing.
use mathlib.Core.Path.{◌≡◌, refl, ap}
use mathlib.Core.Bool.{true, false, cond}
use mathlib.Core.List.{List, ◌∷◌}
use Prim.Native.Nat.{ℕ, zero, suc, ◌+◌, ◌*◌, ◌≤◌, ◌<◌}
use native.Mathlib.Omega.{arith}
use lib.ListN.{take}
use lib.Dec.{eqb}
use lib.Seq.{get_or-take}
use Rattle.modules.specs.declared.Module.{Module}
use Rattle.layout.specs.Layout.{most_modules, plan_bytes, module_at, count_from, module_count, modules_from, modules_of}

module _ (w : List ℕ) where
  pub module_first : (i : ℕ) → i < most_modules → module_at (take plan_bytes w) i ≡ module_at w i
  module_first i h =
      let a₀ = get_or-take plan_bytes w (4 * i) 0 (omega arith) in
      let a₁ = get_or-take plan_bytes w (4 * i + 1) 0 (omega arith) in
      let a₂ = get_or-take plan_bytes w (4 * i + 2) 0 (omega arith) in
      let a₃ = get_or-take plan_bytes w (4 * i + 3) 0 (omega arith) in
      λ j. record { first = a₀ j; last = a₁ j; copies = a₂ j; cores = a₃ j }

  count_first : (k n i : ℕ) → i + n ≤ most_modules → count_from (take plan_bytes w) k i n ≡ count_from w k i n
  unfolding count_from
  count_first k zero i h = refl
  count_first k (suc n) i h = rw (ap (λ (m : Module). m.last) (module_first i (omega arith)), count_first k n (i + 1) (omega arith))

  modules_first : (n i : ℕ) → i + n ≤ most_modules → modules_from (take plan_bytes w) i n ≡ modules_from w i n
  unfolding modules_from
  modules_first zero i h = refl
  modules_first (suc n) i h = let m = module_first i (omega arith) in let ms = modules_first n (i + 1) (omega arith) in λ j. m j ∷ ms j

  count_most : (k n i : ℕ) → count_from w k i n ≤ i + n
  unfolding count_from
  count_most k zero i = omega arith
  count_most k (suc n) i =
      elim (eqb (module_at w i).last k) as (λ t. cond t (i + 1) (count_from w k (i + 1) n) ≤ i + suc n) [ true ↦ omega arith | false ↦ omega (arith, count_most k n (i + 1)) ]

  -- the modules of plan bytes are those of their first 48 bytes
  pub plan_first : (k : ℕ) → modules_of (take plan_bytes w) k ≡ modules_of w k
  unfolding modules_of module_count
  plan_first k = rw (count_first k most_modules 0 (omega arith), modules_first (count_from w k 0 most_modules) 0 (omega (arith, count_most k most_modules 0)))
