-- The single-block time of plan bytes as a service (document 02, M-104): Judge's refusals, or the time. Assumes nothing.
use Rattle.std.specs.Prelude.{ℕ, List, Result, Ok}
use Rattle.records.specs.declared.refusal.Refusal.{Refusal}
use Rattle.records.specs.Refusals.{and_then}
use Rattle.records.specs.Costs.{board_in, read_costs}
use Rattle.modules.specs.Model.{chain_of}
use Rattle.layout.specs.Layout.{modules_of}
use Rattle.figures.specs.Model.{block_time}
use Rattle.judge.specs.Judge.{judged}

-- what the service answers to costs and plan bytes: the time of the plan that Judge passes, else Judge's refusal with its place
unfoldable pub block_time_answer : List ℕ → List ℕ → Result ℕ Refusal
block_time_answer s w =
    let c = chain_of s (board_in (read_costs s)) in
    and_then (λ f. Ok (block_time c (modules_of w c.tasks))) (judged s w)
