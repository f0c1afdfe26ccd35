-- A problem, its plans, and what a plan weighs. Assumes nothing.
--
-- A module in its place is s t l r p q everywhere: s the cores of a copy of the module before it (0: none), t the last task
-- before it, l its own last task, r its copies, p the cores of a copy, q the cores of a copy of the module after it (0: none).
use Rattle.std.specs.Prelude.{ℕ, suc, ◌+◌, ◌*◌, ◌≤◌, Bool, ◌&&◌, List, [], ◌∷◌, leb, eqb}
use Rattle.modules.specs.declared.Module.{Module}
use Rattle.figures.specs.Model.{head_cores}

-- a test of a module in its place
abbrev pub Rule : Type 0
Rule = (s t l r p q : ℕ) → Bool

-- a number for a module in its place
abbrev pub Measure : Type 0
Measure = (s t l r p q : ℕ) → ℕ

-- tasks are numbered 1 to tasks; board is the number of cores; a threshold n stands for the bottleneck n / grain; price is what
-- a module costs, and unit what one core costs at least
pub record Problem : Type 0 where
  pub tasks : ℕ
  pub board : ℕ
  pub allowed : Rule
  pub response : Measure
  pub grain : ℕ
  pub unit : ℕ
  pub price : Measure

-- ---- modules and plans

-- the module of the tasks t + 1 to l, in r copies of p cores
abbrev pub module_after : (t l r p : ℕ) → Module
module_after t l r p = record { first = t + 1; last = l; copies = r; cores = p }

-- a rule or a measure of the module x
abbrev pub of : {A : Type 0} → ((s t l r p q : ℕ) → A) → (s t : ℕ) → Module → ℕ → A
of f s t x q = f s t x.last x.copies x.cores q

-- the modules cover the tasks t + 1 to k, after a module of s cores, and each fits
abbrev pub valid : (k : ℕ) → Rule → (s t : ℕ) → List Module → Bool
valid k fits s t [] = eqb t k
valid k fits s t (x ∷ ms) = eqb x.first (t + 1) && of fits s t x (head_cores ms) && valid k fits x.cores x.last ms

-- a module fits, and has room on a board of P cores beside one copy of the module before and one of the module after
abbrev pub tight : (P : ℕ) → Rule → Rule
tight P fits s t l r p q = fits s t l r p q && leb (s + r * p + q) P

-- ---- weight

-- the sum of a measure over modules that stand after s and t
abbrev pub total : Measure → (s t : ℕ) → List Module → ℕ
total f s t [] = 0
total f s t (x ∷ ms) = of f s t x (head_cores ms) + total f x.cores x.last ms

-- the sum of the prices
abbrev pub weight : Problem → (s t : ℕ) → List Module → ℕ
weight X = total X.price

-- the first weight that is too much for the board
unfoldable pub cap : Problem → ℕ
cap X = X.unit * suc X.board

-- what a price must keep: the cores of a module are paid for
pub record Priced (X : Problem) : Type 0 where
  pub covers : (s t l r p q : ℕ) → X.unit * (r * p) ≤ X.price s t l r p q
