-- A price in two tiers: a unit for each core, and a measure below it (document 02, M-104: what is added to the single-block time). Assumes
-- nothing.
use Rattle.std.specs.Prelude.{ℕ, ◌+◌, ◌*◌, ◌≡◌}
use Rattle.search.specs.Plan.{Measure, Problem}

-- the price of a module is a unit for each of its cores, and f
pub record Tiered (X : Problem) (f : Measure) : Type 0 where
  pub price_is : (s t l r p q : ℕ) → X.price s t l r p q ≡ X.unit * (r * p) + f s t l r p q
