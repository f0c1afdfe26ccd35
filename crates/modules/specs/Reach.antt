-- How far a module can go (document 02, M-102): a task's reach, by memory alone, through the fewest cores that a module's memory
-- allows. Assumes nothing.
use Rattle.std.specs.Prelude.{ℕ, zero, suc, ◌+◌, ◌-◌, cond, List, leb, eqb, Result, Ok}
use Rattle.records.specs.declared.refusal.Refusal.{Refusal}
use Rattle.records.specs.Refusals.{and_then}
use Rattle.records.specs.Costs.{read_costs}
use Rattle.modules.specs.Model.{Chain, chain_of}
use Rattle.modules.specs.Rules.{fewest_cores}

-- of the modules of n, n - 1, .. 1 tasks from first on, the last task of the longest that needs at most P cores; 0 where none does
unfoldable pub reach_of : Chain → (first n : ℕ) → ℕ
reach_of c first zero = 0
reach_of c first (suc n) =
    let shorter = reach_of c first n in
    cond (leb (fewest_cores c first (first + n)) c.board) (first + n) shorter

-- the reach of a first task: the last task of its longest module in the chain that needs at most P cores, 0 if there is none, and 0
-- for a task that is not the chain's
unfoldable pub reach : Chain → (first : ℕ) → ℕ
reach c first = cond (eqb first 0) 0 (reach_of c first (c.tasks + 1 - first))

-- the service: the reach of a task by a cost file, or refusals 1 to 6
unfoldable pub reach_answer : List ℕ → (first : ℕ) → Result ℕ Refusal
reach_answer s first = and_then (λ b. Ok (reach (chain_of s b) first)) (read_costs s)
