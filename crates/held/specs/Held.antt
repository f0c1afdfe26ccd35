-- Cost records held in a struct with k and P (document 01, "Cost records": they stay in the caller's bytes). Assumes nothing.
use Rattle.std.specs.Prelude.{ℕ, ◌≡◌, List}
use Rattle.std.specs.Borrow.{Bor}
use Rattle.held.specs.declared.held.Costs.{Costs}

-- c holds the slice s with k tasks and p cores
abbrev pub Holds : Bor (List ℕ) → ℕ → ℕ → Costs → Type 0
Holds s k p c = (c.records ≡ s) × (c.tasks ≡ k) × (c.cores ≡ p)
