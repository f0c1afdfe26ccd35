-- The rules of a plan (document 01, "The chain and the board"). Assumes nothing.
use Rattle.std.specs.Prelude.{ℕ, ◌+◌, List, [], ◌∷◌, Bool, true, ◌&&◌, leb, eqb}
use Rattle.modules.specs.declared.Module.{Module}
use Rattle.modules.specs.Model.{Chain}
use Rattle.modules.specs.Rules.{module_rules}
use Rattle.figures.specs.Model.{cores_of}

-- the modules are unbroken runs that cover the tasks from t to k in order, each with a copy and a core
unfoldable pub covers : ℕ → ℕ → List Module → Bool
covers k t [] = eqb t (k + 1)
covers k t (m ∷ ms) =
    eqb m.first t && leb m.first m.last && leb m.last k && leb 1 m.copies && leb 1 m.cores && covers k (m.last + 1) ms

-- each module keeps its rules
unfoldable pub each_allowed : Chain → List Module → Bool
each_allowed c [] = true
each_allowed c (m ∷ ms) = module_rules c m.first m.last m.copies m.cores && each_allowed c ms

-- the plan keeps the rules, M-100's limits and M-103's memory among those of each module
unfoldable pub keeps_rules : Chain → List Module → Bool
keeps_rules c ms = covers c.tasks 1 ms && each_allowed c ms && leb (cores_of ms) c.board
