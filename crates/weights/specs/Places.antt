-- A rest of a plan of the fewest cores in its place, by the tables of the least threshold. Assumes nothing.
use Rattle.std.specs.Prelude.{ℕ, ◌+◌, ◌≤◌, ◌<◌, ◌≡◌, List}
use Rattle.records.specs.declared.Board.{Board}
use Rattle.modules.specs.Model.{Chain, transfer}
use Rattle.slack.specs.Problem.{top_threshold, need_on}
use Rattle.offers.specs.Words.{Area}
use Rattle.threshold.specs.Words.{Laid, AllFilled}
use Rattle.weights.specs.declared.after.Rest.{Rest}

-- the words hold what is laid and the slack table of the threshold n
pub record Tabled (c : Chain) (b : Board) (n : ℕ) (w : List ℕ) : Type 0 where
  pub area : Area b w
  pub low : n ≤ top_threshold
  pub laid : Laid c w
  pub slacks : AllFilled c n w

-- the rest x, after a module of its own cores: what it receives, and its fewest cores
pub record Stands (c : Chain) (n : ℕ) (x : Rest) : Type 0 where
  pub inside : x.from < c.tasks
  pub one_core : 1 ≤ x.cores
  pub room : x.before + x.cores ≤ c.board
  pub receives : x.received ≡ transfer c x.from x.before x.cores
  pub left : x.left ≡ need_on c n x.before x.from x.cores

-- at whatever threshold the words hold the slacks of
abbrev pub StandsBy : Chain → List ℕ → Rest → Type 0
StandsBy c w x = (n : ℕ) → AllFilled c n w → Stands c n x
