-- How two plans compare (document 01, "Three services"; document 02, M-104: least bottleneck, then fewest cores, then least single-block
-- time, then module order): by a bottleneck f, then by a measure g such as a weight of both, then in module order. Assumes nothing.
use Rattle.std.specs.Prelude.{ℕ, ◌<◌, ◌≡◌, ◌⊎◌, List}
use Rattle.modules.specs.declared.Module.{Module}
use Rattle.figures.specs.Plan.{Before}
use Rattle.search.specs.Fraction.{Frac, Below, Same}

-- a is b, or b comes after it: by the bottleneck, then by the measure, then in module order
unfoldable pub Beats : (List Module → Frac) → (List Module → ℕ) → List Module → List Module → Type 0
Beats f g a b = Below (f a) (f b) ⊎ (Same (f a) (f b) × ((g a < g b) ⊎ ((g a ≡ g b) × ((a ≡ b) ⊎ Before a b))))
