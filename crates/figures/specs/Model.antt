-- A plan in the chain model (document 01, "The chain and the board"; document 02, M-104 and M-106; source document 000, 2.1 and 2.2): a list
-- of modules. Assumes nothing.
use Rattle.std.specs.Prelude.{ℕ, ◌+◌, ◌*◌, List, [], ◌∷◌, cond, ltb}
use Rattle.modules.specs.declared.Module.{Module}
use Rattle.modules.specs.Model.{Chain, response, passage}
use Rattle.figures.specs.declared.Slowest.{Slowest}

-- the cores of a copy of the first module, 0 where there is none
abbrev pub head_cores : List Module → ℕ
head_cores [] = 0
head_cores (m ∷ ms) = m.cores

-- the response of the module m after one of s cores and before the modules ms
abbrev pub response_of : Chain → ℕ → Module → List Module → ℕ
response_of c s m ms = response c s m.first m.last m.copies m.cores (head_cores ms)

-- the responses of modules that stand after one of s cores
unfoldable pub responses : Chain → ℕ → List Module → List ℕ
responses c s [] = []
responses c s (m ∷ ms) = response_of c s m ms ∷ responses c m.cores ms

-- the cores of a plan
unfoldable pub cores_of : List Module → ℕ
cores_of [] = 0
cores_of (m ∷ ms) = m.copies * m.cores + cores_of ms

-- the slower of two modules, by response ÷ copies as exact fractions: y only if x's is below it
unfoldable pub slower_of : Slowest → Slowest → Slowest
slower_of x y = cond (ltb (x.response * y.copies) (y.response * x.copies)) y x

-- the slowest of x and the modules from number n on, which stand after one of s cores
unfoldable pub slowest_from : Chain → ℕ → ℕ → Slowest → List Module → Slowest
slowest_from c s n x [] = x
slowest_from c s n x (m ∷ ms) =
    slowest_from c m.cores (n + 1) (slower_of x (record { number = n; response = response_of c s m ms; copies = m.copies })) ms

-- the bottleneck of a plan: the first module that reaches the greatest response ÷ copies
unfoldable pub bottleneck : Chain → List Module → Slowest
bottleneck c [] = record { number = 0; response = 0; copies = 0 }
bottleneck c (m ∷ ms) = slowest_from c m.cores 2 (record { number = 1; response = response_of c 0 m ms; copies = m.copies }) ms

-- M-104: the single-block time of a plan, which adds each task's execution and each transfer, within a module or between two, once, at
-- the plan's cores, and by M-106 D for each module whose r is above 1
unfoldable pub block_time : Chain → List Module → ℕ
block_time c [] = 0
block_time c (m ∷ ms) = passage c m.first m.last m.copies m.cores (head_cores ms) + block_time c ms
