-- What stays true in the planner's walk. Assumes nothing.
use Rattle.std.specs.Prelude.{ℕ, ◌+◌, ◌≤◌, ◌≡◌, List, ◌++◌}
use Rattle.modules.specs.declared.Module.{Module}
use Rattle.search.specs.Plan.{Rule, Problem, cap}
use Rattle.search.specs.Weight.{table}
use Rattle.search.specs.Walk.{Room, walk, Fine}

module _ (X : Problem) (fits : Rule) where
  -- the walk to the plan whole among modules that fit: done is the plan so far, t its last task, s the cores of its last module, room
  -- what is left, and m modules are enough for the rest
  pub record Walking (whole : List Module) (done : List Module) (m s t : ℕ) (room : Room) : Type 0 where
    pub enough : X.tasks ≤ t + m
    pub inside : t ≤ X.tasks
    pub capped : (q : ℕ) → room q ≤ cap X
    pub so_far : done ++ walk X fits (table X fits) m s t room ≡ whole
    pub fine : Fine X fits s t room (walk X fits (table X fits) m s t room)
