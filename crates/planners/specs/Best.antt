-- Best plan (document 01, "Three services"; document 02, M-104): the definition tries every plan. Least bottleneck, then fewest cores,
-- then least single-block time, then module order. Assumes nothing.
use Rattle.std.specs.Prelude.{ℕ, ◌*◌, List, ◌++◌, Bool, cond, ◌&&◌, ◌||◌, length, drop, replicate, ltb, leb, eqb, Result, Ok, Err}
use Rattle.std.proofs.Math.Option.{Option, none, some}
use Rattle.records.specs.declared.refusal.Refusal.{Refusal}
use Rattle.records.specs.declared.refusal.Refusal.TheVariants.{ShortPlan, ShortWork, NoPlan}
use Rattle.records.specs.Refusals.{number_in, and_then}
use Rattle.records.specs.Costs.{board_in, read_costs}
use Rattle.modules.specs.declared.Module.{Module}
use Rattle.modules.specs.Model.{Chain, chain_of}
use Rattle.layout.specs.Layout.{plan_bytes, encode_plan}
use Rattle.figures.specs.declared.PlanFigures.{PlanFigures}
use Rattle.figures.specs.Model.{cores_of, bottleneck, block_time}
use Rattle.figures.specs.Rules.{keeps_rules}
use Rattle.figures.specs.Plan.{figures_of}
use Rattle.search.specs.Every.{every, scan}

-- the words that the work area must have; M-104: it "is as large as before"
abbrev pub work_words : ℕ
work_words = 16384

-- a has fewer cores than b, or as many and a smaller single-block time (M-104)
unfoldable pub is_lighter : Chain → List Module → List Module → Bool
is_lighter c a b = ltb (cores_of a) (cores_of b) || (eqb (cores_of a) (cores_of b) && ltb (block_time c a) (block_time c b))

-- a has a smaller bottleneck than b, as exact fractions, or an equal one and is lighter
unfoldable pub is_better : Chain → List Module → List Module → Bool
is_better c a b =
    let x = bottleneck c a in
    let y = bottleneck c b in
    ltb (x.response * y.copies) (y.response * x.copies)
    || (eqb (x.response * y.copies) (y.response * x.copies) && is_lighter c a b)

-- of all plans of at most P cores in module order, the first of the best that keep the rules
unfoldable pub best_plan : Chain → Option (List Module)
best_plan c = scan (keeps_rules c) (is_better c) none (every c.tasks c.tasks 0 c.board)

-- ---- the service

-- the answer to a found plan, or to none
unfoldable pub found_answer : Chain → Option (List Module) → Result PlanFigures Refusal
found_answer c none = Err NoPlan
found_answer c (some ms) = Ok (figures_of c ms)

unfoldable pub found_bytes : Option (List Module) → List ℕ → List ℕ
found_bytes none w = w
found_bytes (some ms) w = encode_plan ms ++ drop plan_bytes w

-- costs are accepted, and the plan bytes and the work area are large enough: the search begins
unfoldable pub begins : List ℕ → List ℕ → List ℕ → Bool
begins s w work = eqb (number_in (read_costs s)) 0 && leb plan_bytes (length w) && leb work_words (length work)

-- what the service answers on accepted costs to plan bytes and a work area; of the work area only its length counts
unfoldable pub answer_on : Chain → List ℕ → List ℕ → Result PlanFigures Refusal
answer_on c w work = cond (leb plan_bytes (length w)) (cond (leb work_words (length work)) (found_answer c (best_plan c)) (Err ShortWork)) (Err ShortPlan)

-- and to costs
unfoldable pub best_answer : List ℕ → List ℕ → List ℕ → Result PlanFigures Refusal
best_answer s w work = and_then (λ b. answer_on (chain_of s b) w work) (read_costs s)

-- what the plan bytes are afterwards: as lent where it refuses
unfoldable pub best_bytes : List ℕ → List ℕ → List ℕ → List ℕ
best_bytes s w work = cond (begins s w work) (found_bytes (best_plan (chain_of s (board_in (read_costs s)))) w) w

-- what the work area is afterwards: all zero once a search has begun, else as lent
unfoldable pub best_work : List ℕ → List ℕ → List ℕ → List ℕ
best_work s w work = cond (begins s w work) (replicate (length work) 0) work
