-- The least weight of a plan of the tasks that are left: a least over each module's last task, the cores of the module after it,
-- and its copies, each level a definition of its own. Assumes nothing.
use Rattle.std.specs.Prelude.{ℕ, zero, suc, ◌+◌, ◌&&◌, eqb}
use Rattle.search.specs.Least.{pick, lesser, least}
use Rattle.search.specs.Plan.{Rule, Problem, cap}

-- what the rest weighs at least: after a module of s cores and the task t, its first module having q cores (0: there is no rest)
abbrev pub Table : Type 0
Table = (s t q : ℕ) → ℕ

-- the weight of no rest: 0 where no task is left and no module is to come, else the cap
unfoldable pub ends : Problem → (t q : ℕ) → ℕ
ends X t q = pick (eqb t X.tasks && eqb q 0) 0 (cap X)

module _ (X : Problem) (fits : Rule) where
  -- one module of q cores, last task l and r copies, and the rest after it, whose first module has q' cores
  unfoldable pub one_way : Table → (s t q l q' r : ℕ) → ℕ
  one_way rest s t q l q' r = pick (fits s t l r q q') (X.price s t l r q q' + rest q l q') (cap X)

  -- the least over its copies
  unfoldable pub over_copies : Table → (s t q l q' : ℕ) → ℕ
  over_copies rest s t q l q' = least (cap X) (suc X.board) (one_way rest s t q l q')

  -- and over the cores of the module after it
  unfoldable pub over_next : Table → (s t q l : ℕ) → ℕ
  over_next rest s t q l = least (cap X) (suc X.board) (over_copies rest s t q l)

  -- and over its last task
  unfoldable pub over_last : Table → (s t q : ℕ) → ℕ
  over_last rest s t q = least (cap X) (suc X.tasks) (over_next rest s t q)

  -- the least weight of a rest of at most m modules, the cap where there is none
  unfoldable pub least_weight : ℕ → Table
  least_weight zero s t q = ends X t q
  least_weight (suc m) s t q = lesser (ends X t q) (over_last (least_weight m) s t q)

  -- that of any rest: there are no more modules than tasks
  abbrev pub table : Table
  table = least_weight X.tasks
