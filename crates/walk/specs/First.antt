-- The first of the lightest plans: what the service promises. Assumes nothing.
use Rattle.std.specs.Prelude.{ℕ, ◌≤◌, ◌<◌, ◌≡◌, List, ◌⊎◌, Option, Some, None, length}
use Rattle.records.specs.declared.Board.{Board}
use Rattle.modules.specs.Model.{Chain}
use Rattle.layout.specs.Layout.{encode_plan}
use Rattle.slack.specs.Problem.{top_threshold}
use Rattle.offers.specs.Words.{Area}
use Rattle.threshold.specs.Words.{KeptBeyond}
use Rattle.threshold.specs.Threshold.{Decided}
use Rattle.weights.specs.Cells.{no_plan, light_on}
use Rattle.walk.specs.Walk.{plan_on}

-- what is answered to a board and words, and what the words are afterwards. Where some plan is within the greatest threshold and the lightest
-- within the least weigh less than what stands for none, the first of these; else nothing. The words are as lent where the board is out of range
-- or they are too few; behind the tables they are as lent in each case
pub record WalkedTo (c : Chain) (b : Board) (w w' : List ℕ) (x : Option (List ℕ)) : Type 0 where
  pub least : ℕ
  pub decided : Area b w → Decided c least
  pub some : Area b w → least ≤ top_threshold → light_on c least < no_plan c.board → x ≡ Some (encode_plan (plan_on c least))
  pub none : (Area b w → (top_threshold < least) ⊎ (no_plan c.board ≤ light_on c least)) → x ≡ None
  pub long : length w' ≡ length w
  pub refused : (Area b w → ⊥) → w' ≡ w
  pub kept : KeptBeyond w w'
