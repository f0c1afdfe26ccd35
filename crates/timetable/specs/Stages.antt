-- A plan as a line of stages (document 02, M-105): what each of its modules does with a block, through layer 2's body and transfer.
-- Assumes nothing.
use Rattle.std.specs.Prelude.{ℕ, List, [], ◌∷◌, get_or}
use Rattle.modules.specs.declared.Module.{Module}
use Rattle.modules.specs.Model.{Chain, body, transfer}
use Rattle.figures.specs.Model.{head_cores}

-- for how long a module executes a block, and for how long it then sends it to the next module, 0 for the last
pub record Stage : Type 0 where
  pub body : ℕ
  pub send : ℕ

-- what the module m does before the modules ms
abbrev pub stage_of : Chain → Module → List Module → Stage
stage_of c m ms = record { body = body c m.first m.last m.cores; send = transfer c m.last m.cores (head_cores ms) }

-- what each module of a plan does
unfoldable pub stages : Chain → List Module → List Stage
stages c [] = []
stages c (m ∷ ms) = stage_of c m ms ∷ stages c ms

-- the i-th stage, counted from 0
abbrev pub stage_at : List Stage → ℕ → Stage
stage_at ss i = get_or ss i (record { body = 0; send = 0 })
