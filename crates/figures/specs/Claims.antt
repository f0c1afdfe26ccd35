-- The documents' words on the bottleneck (document 01) and on the single-block time (document 02, M-104 and M-106) as direct statements,
-- beside the definitions that run. Assumes nothing.
use mathlib.Core.List.{List, [], ◌∷◌, Memᴰ}
use Rattle.std.specs.Prelude.{Bool, false, cond, ltb, leb, eqb, ℕ, ◌+◌, ◌*◌, ◌≤◌, ◌<◌}
use Rattle.modules.specs.declared.Module.{Module}
use Rattle.modules.specs.Model.{Chain, gather, transfer}
use Rattle.figures.specs.declared.Slowest.{Slowest}
use Rattle.figures.specs.Model.{head_cores, response_of}

-- the modules of a plan that stand after one of s cores: number, counted from n on, response and copies
unfoldable pub loads : Chain → ℕ → ℕ → List Module → List Slowest
loads c s n [] = []
loads c s n (m ∷ ms) = record { number = n; response = response_of c s m ms; copies = m.copies } ∷ loads c m.cores (n + 1) ms

-- x ÷ is at most y ÷, and below it
abbrev pub AtMost : Slowest → Slowest → Type 0
AtMost x y = x.response * y.copies ≤ y.response * x.copies

abbrev pub Below : Slowest → Slowest → Type 0
Below x y = x.response * y.copies < y.response * x.copies

-- x is the first of them that reaches the greatest response ÷ copies
pub record IsBottleneck (all : List Slowest) (x : Slowest) : Type 0 where
  pub one : Memᴰ x all
  pub most : (y : Slowest) → Memᴰ y all → AtMost y x
  pub first : (y : Slowest) → Memᴰ y all → y.number < x.number → Below y x

-- ---- M-104: the single-block time

-- the cores of a copy of the module that has task t
unfoldable pub cores_at : List Module → ℕ → ℕ
cores_at [] t = 0
cores_at (m ∷ ms) t = cond (leb t m.last) m.cores (cores_at ms t)

-- task t is the last one of its module
unfoldable pub ends_at : List Module → ℕ → Bool
ends_at [] t = false
ends_at (m ∷ ms) t = cond (leb t m.last) (eqb t m.last) (ends_at ms t)

-- "each task's execution .. at the plan's cores"
abbrev pub execution_in : Chain → List Module → ℕ → ℕ
execution_in c ms t = c.execution t (cores_at ms t)

-- "each transfer .. at the plan's cores": from task t to the next one, external where its module ends and internal within it
abbrev pub transfer_in : Chain → List Module → ℕ → ℕ
transfer_in c ms t = cond (ends_at ms t) (c.external t (cores_at ms t) (cores_at ms (t + 1))) (c.internal t (cores_at ms t))

-- "adds each task's execution and each transfer once"
abbrev pub once_each : Chain → List Module → ℕ
once_each c ms = gather (execution_in c ms) (transfer_in c ms) 1 c.tasks

-- M-106: the modules whose "r is above 1", counted
unfoldable pub copied_of : List Module → ℕ
copied_of [] = 0
copied_of (m ∷ ms) = cond (ltb 1 m.copies) 1 0 + copied_of ms

-- the sum of numbers
unfoldable pub sum : List ℕ → ℕ
sum [] = 0
sum (x ∷ xs) = x + sum xs

-- the external transfers of a plan, from each module to the next
unfoldable pub externals : Chain → List Module → ℕ
externals c [] = 0
externals c (m ∷ ms) = transfer c m.last m.cores (head_cores ms) + externals c ms
