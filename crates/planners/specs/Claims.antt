-- Demand 3 in the documents' words (document 01; document 02, M-104): a plan comes before a rival. Assumes nothing.
use Rattle.std.specs.Prelude.{ℕ, ◌<◌, ◌≡◌, true, List, ◌++◌, ◌⊎◌, drop, Ok}
use Rattle.records.specs.Costs.{board_in, read_costs}
use Rattle.modules.specs.declared.Module.{Module}
use Rattle.modules.specs.Model.{Chain, chain_of}
use Rattle.layout.specs.Layout.{plan_bytes, encode_plan}
use Rattle.figures.specs.Model.{cores_of, bottleneck, block_time}
use Rattle.figures.specs.Rules.{keeps_rules}
use Rattle.figures.specs.Plan.{figures_of, Before}
use Rattle.figures.specs.Claims.{AtMost, Below}
use Rattle.planners.specs.Best.{best_answer, best_bytes}

-- a comes before b: its bottleneck is smaller; or they are equal (each at most the other), and it has fewer cores; or as many, and its
-- single-block time is smaller (M-104); or that is equal too, and it is b or comes before b in module order
unfoldable pub ComesFirst : Chain → List Module → List Module → Type 0
ComesFirst c a b =
    Below (bottleneck c a) (bottleneck c b)
    ⊎ (AtMost (bottleneck c a) (bottleneck c b) × AtMost (bottleneck c b) (bottleneck c a)
    × ((cores_of a < cores_of b)
    ⊎ ((cores_of a ≡ cores_of b)
    × ((block_time c a < block_time c b) ⊎ ((block_time c a ≡ block_time c b) × ((a ≡ b) ⊎ Before a b))))))

-- the plan a is filled in for the costs s: the first 48 bytes are its, the rest as lent, the answer is its figures on the chain c; on c
-- it keeps the rules, and comes before every plan that does
pub record BestFor (c : Chain) (s w work : List ℕ) (a : List Module) : Type 0 where
  pub bytes : best_bytes s w work ≡ encode_plan a ++ drop plan_bytes w
  pub figures : best_answer s w work ≡ Ok (figures_of c a)
  pub keeps : keeps_rules c a ≡ true
  pub first : (b : List Module) → keeps_rules c b ≡ true → ComesFirst c a b

-- the same on the chain of these costs
abbrev pub Filled : List ℕ → List ℕ → List ℕ → List Module → Type 0
Filled s = BestFor (chain_of s (board_in (read_costs s))) s
