-- The plan of a threshold: the first in module order of the lightest plans within it. Assumes nothing.
use Rattle.std.specs.Prelude.{ℕ, zero, suc, ◌*◌, ◌≤◌, ◌<◌, List}
use Rattle.modules.specs.declared.Module.{Module}
use Rattle.figures.specs.Model.{cores_of}
use Rattle.search.specs.Least.{least}
use Rattle.search.specs.Plan.{Rule, Problem, weight, cap, tight, Priced}
use Rattle.search.specs.Weight.{Table, table}
use Rattle.search.specs.Bottleneck.{within, Keeps}
use Rattle.search.specs.Walk.{Room, walk}

module _ (X : Problem) where
  -- the weight of a whole plan
  abbrev pub plan_weight : List Module → ℕ
  plan_weight = weight X 0 0

  -- at the threshold n: a module is within n and has room beside its neighbours
  abbrev pub fits_at : ℕ → Rule
  fits_at n = tight X.board (within X n)

  -- the table at the threshold n
  abbrev pub table_at : ℕ → Table
  table_at n = table X (fits_at n)

  -- the least weight of a plan within n, the cap where there is none
  unfoldable pub light : ℕ → ℕ
  light n = least (cap X) (suc X.board) (table_at n 0 0)

  -- the room for the lightest plans within n
  abbrev pub room_at : ℕ → Room
  room_at n q = suc (light n)

  -- the first of the lightest plans within n
  unfoldable pub plan : ℕ → List Module
  plan n = walk X (fits_at n) (table_at n) X.tasks 0 0 (room_at n)

  -- some plan is within n
  abbrev pub Feasible : ℕ → Type 0
  Feasible n = light n < cap X

  -- no plan is within n - 1
  abbrev pub Bottom : ℕ → Type 0
  Bottom zero = Unit {0}
  Bottom (suc n) = cap X ≤ light n

  -- what a price must keep: it covers the cores, and what it adds to them stays below one unit in all
  pub record Laws : Type 0 where
    pub priced : Priced X
    pub level : (ms : List Module) → Keeps X ms → plan_weight ms < X.unit * suc (cores_of ms)
