-- The lightest plans within the least threshold: what the service promises. Assumes nothing.
use Rattle.std.specs.Prelude.{ℕ, ◌+◌, ◌≤◌, ◌≡◌, List, Option, None, MatchOption, length}
use Rattle.records.specs.declared.Board.{Board}
use Rattle.modules.specs.Model.{Chain}
use Rattle.slack.specs.Problem.{top_threshold, fewest_on}
use Rattle.offers.specs.Words.{Area}
use Rattle.threshold.specs.Words.{Laid, KeptBeyond}
use Rattle.threshold.specs.Threshold.{Decided}
use Rattle.weights.specs.declared.lightest.Lightest.{Lightest}
use Rattle.weights.specs.Places.{Tabled}
use Rattle.weights.specs.Cells.{Weighed, light_on}

-- the tables of the threshold that is answered, the weighed cells, the fewest cores of a plan within it, and the least weight of
-- those that have so many, or what stands for none where that is less
pub record Lightened (c : Chain) (b : Board) (w : List ℕ) (x : Lightest) : Type 0 where
  pub tabled : Tabled c b x.threshold w
  pub weighed : Weighed c x.threshold w
  pub fewest : x.cores ≡ fewest_on c x.threshold
  pub few : x.cores ≤ c.board
  pub weight : x.weight ≡ light_on c x.threshold

-- what is answered to a board and words, and what the words are afterwards: what is laid and, where some plan is within the greatest
-- threshold, the tables of the least; where none is, nothing is answered. The words are as lent where the board is out of
-- range or they are too few, and behind the tables in each case
pub record LightestOf (c : Chain) (b : Board) (w w' : List ℕ) (x : Option Lightest) : Type 0 where
  pub long : length w' ≡ length w
  pub answered : MatchOption x (Area b w → Decided c (top_threshold + 1))
      (λ y. Area b w × (y.threshold ≤ top_threshold) × Decided c y.threshold × Lightened c b w' y)
  pub laid : Area b w → Laid c w'
  pub refused : (Area b w → ⊥) → (x ≡ None) × (w' ≡ w)
  pub kept : KeptBeyond w w'
