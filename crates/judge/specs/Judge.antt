-- The service Judge (document 01, "Three services", refusals 7 and 12 to 15; document 02, M-100, refusal 16). Assumes nothing.
use Rattle.std.specs.Prelude.{ℕ, zero, suc, ◌+◌, List, [], ◌∷◌, Bool, cond, ◌&&◌, length, leb, eqb, Option, None, Some, Result, Ok, Err}
use Rattle.records.specs.declared.refusal.Refusal.{Refusal}
use Rattle.records.specs.declared.refusal.Refusal.TheVariants.{ShortPlan, BadShape, NoCopies, OverMemory, OverCores, AboveLimit}
use Rattle.records.specs.Refusals.{and_then}
use Rattle.records.specs.Costs.{read_costs}
use Rattle.modules.specs.declared.Module.{Module}
use Rattle.modules.specs.Model.{Chain, chain_of}
use Rattle.modules.specs.Rules.{copies_allowed, memory_fits, within_limit}
use Rattle.layout.specs.Layout.{most_modules, plan_bytes, module_at, modules_of}
use Rattle.figures.specs.declared.PlanFigures.{PlanFigures}
use Rattle.figures.specs.Model.{cores_of}
use Rattle.figures.specs.Plan.{figures_of}
use Rattle.judge.specs.declared.verdict.Rule.{Rule}
use Rattle.judge.specs.declared.verdict.Rule.TheVariants.{Copies, Memory, Limit}

-- ---- 12: the shape of the twelve records

-- a record behind the one that ends at k is all 0
unfoldable pub is_blank : Module → Bool
is_blank m = eqb m.first 0 && eqb m.last 0 && eqb m.copies 0 && eqb m.cores 0

-- a record up to that one starts with the due task, ends at it or later and at most at k, and has a copy and a core
unfoldable pub is_module : ℕ → ℕ → Module → Bool
is_module k due m = eqb m.first due && leb m.first m.last && leb m.last k && leb 1 m.copies && leb 1 m.cores

-- the first fault among n records from the i-th on, counted from 1; 0 for none
unfoldable pub blank_fault : List ℕ → ℕ → ℕ → ℕ
blank_fault w i zero = 0
blank_fault w i (suc n) = let rest = blank_fault w (i + 1) n in cond (is_blank (module_at w i)) rest (i + 1)

-- the same up to the record that ends at k and behind it; due is the first task that is not covered yet
unfoldable pub shape_fault : ℕ → List ℕ → ℕ → ℕ → ℕ → ℕ
shape_fault k w due i zero = i + 1
shape_fault k w due i (suc n) =
    let m = module_at w i in
    let rest = cond (eqb m.last k) (blank_fault w (i + 1) n) (shape_fault k w (m.last + 1) (i + 1) n) in
    cond (is_module k due m) rest (i + 1)

-- ---- 13, 14, 16, 15: each over all modules before the next

-- the number of the first module, counted from n, that fails the test; 0 for none
unfoldable pub first_failing : (Module → Bool) → ℕ → List Module → ℕ
first_failing f n [] = 0
first_failing f n (m ∷ ms) = let rest = first_failing f (n + 1) ms in cond (f m) rest n

abbrev pub copies_test : Chain → Module → Bool
copies_test c m = copies_allowed c m.first m.last m.copies

abbrev pub memory_test : Chain → Module → Bool
memory_test c m = memory_fits c m.first m.last m.cores

-- M-100: the module is within its limit
abbrev pub limit_test : Chain → Module → Bool
limit_test c m = within_limit c m.first m.last m.cores

-- the test of a module that each rule is
abbrev pub rule_test : Chain → Rule → Module → Bool
rule_test c Copies = copies_test c
rule_test c Memory = memory_test c
rule_test c Limit = limit_test c

-- a place, none where it is 0
abbrev pub at_place : ℕ → Option ℕ
at_place n = cond (eqb n 0) None (Some n)

-- the tests in their order, on a plan of the right shape: document 01's, and 16 after 14 and before 15 (M-100)
unfoldable pub judged_plan : Chain → List Module → Result PlanFigures Refusal
judged_plan c ms =
    let copies = first_failing (copies_test c) 1 ms in
    let memory = first_failing (memory_test c) 1 ms in
    let limit = first_failing (limit_test c) 1 ms in
    cond (eqb copies 0)
    (cond (eqb memory 0)
    (cond (eqb limit 0)
    (cond (leb (cores_of ms) c.board) (Ok (figures_of c ms)) (Err OverCores))
    (Err (AboveLimit limit)))
    (Err (OverMemory memory)))
    (Err (NoCopies copies))

unfoldable pub judged_bytes : Chain → List ℕ → Result PlanFigures Refusal
judged_bytes c w =
    let shape = shape_fault c.tasks w 1 0 most_modules in
    cond (leb plan_bytes (length w)) (cond (eqb shape 0) (judged_plan c (modules_of w c.tasks)) (Err (BadShape shape))) (Err ShortPlan)

-- what Judge answers to costs and plan bytes
unfoldable pub judged : List ℕ → List ℕ → Result PlanFigures Refusal
judged s w = and_then (λ b. judged_bytes (chain_of s b) w) (read_costs s)
