-- The rules of a problem, the bottleneck of a plan, and the thresholds n / grain. Assumes nothing.
use Rattle.std.specs.Prelude.{ℕ, ◌*◌, ◌≤◌, ◌&&◌, List, [], ◌∷◌, T, ltb, leb}
use Rattle.modules.specs.declared.Module.{Module}
use Rattle.figures.specs.Model.{head_cores, cores_of}
use Rattle.search.specs.Plan.{Rule, Problem, of, valid}
use Rattle.search.specs.Fraction.{Frac, greater}

module _ (X : Problem) where
  -- a module keeps the rules: it has a task and none past the last, a copy and a core, and is allowed
  abbrev pub rules : Rule
  rules s t l r p q = ltb t l && leb l X.tasks && leb 1 r && leb 1 p && X.allowed s t l r p q

  -- and is within n: its response over its copies is at most n / grain
  abbrev pub within : ℕ → Rule
  within n s t l r p q = rules s t l r p q && leb (X.response s t l r p q * X.grain) (n * r)

  -- a module's response over its copies
  abbrev pub load : (s t : ℕ) → Module → ℕ → Frac
  load s t x q = record { num = of X.response s t x q; den = x.copies }

  -- the greatest load of modules that stand after s and t
  unfoldable pub bottleneck : (s t : ℕ) → List Module → Frac
  bottleneck s t [] = record { num = 0; den = 1 }
  bottleneck s t (x ∷ ms) = greater (load s t x (head_cores ms)) (bottleneck x.cores x.last ms)

  -- the bottleneck of a whole plan
  abbrev pub plan_bottleneck : List Module → Frac
  plan_bottleneck = bottleneck 0 0

  -- a plan of all tasks keeps the rules and is within n
  abbrev pub PlanWithin : ℕ → List Module → Type 0
  PlanWithin n ms = T (valid X.tasks (within n) 0 0 ms)

  -- a plan of all tasks keeps the rules, and the cores of the board
  abbrev pub Keeps : List Module → Type 0
  Keeps ms = T (valid X.tasks rules 0 0 ms) × (cores_of ms ≤ X.board)

  -- the grain is fine enough: fractions whose denominators are at most the board's cores are equal or at least 1 / grain apart
  pub record Small : Type 0 where
    pub bound : ℕ
    pub positive : 1 ≤ bound
    pub holds : X.board ≤ bound
    pub square : bound * bound ≤ X.grain
