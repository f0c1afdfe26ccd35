-- Demand 3 for costs filled in from laws (document 02, M-101): Best plan on them is best for the laws themselves, against every list
-- of modules. Assumes nothing.
use mathlib.Core.Path.{◌≡◌, ap, subst}
use mathlib.Core.Bool.{true}
use mathlib.Core.List.{List}
use mathlib.Core.Logic.{◌↔◌}
use Prim.Native.Nat.{ℕ, ◌≤◌}
use lib.ListN.{length}
use Rattle.std.specs.Prelude.{Result, Err}
use Rattle.records.specs.declared.refusal.Refusal.{Refusal}
use Rattle.records.specs.Filled.{filled_of}
use Rattle.figures.specs.declared.PlanFigures.{PlanFigures}
use Rattle.figures.specs.Plan.{answer_of, refusal}
use Rattle.records.specs.declared.refusal.Refusal.TheVariants.{NoPlan}
use Rattle.records.specs.Refusals.{number_of, place_of, number_in}
use Rattle.records.specs.Costs.{board_in, read_costs}
use Rattle.modules.specs.declared.Module.{Module}
use Rattle.modules.specs.Model.{Chain, chain_of}
use Rattle.layout.specs.Layout.{plan_bytes}
use Rattle.figures.specs.Rules.{keeps_rules}
use Rattle.planners.specs.Best.{work_words, begins, best_answer}
use Rattle.planners.specs.Claims.{BestFor}
use Rattle.planners.proofs.Theorems as planners
use Rattle.fitted.specs.Fill.{read_first, fill_answer}
use Rattle.fitted.proofs.Laws.{fill_follows}
use Rattle.zombreki.specs.Fitted.{filled_costs, law_chain}
use Rattle.zombreki.proofs.Numbers as numbers
use Rattle.zombreki.proofs.Lawful.{chain_read, begun}

module _ (head l out : List ℕ) (filled : number_in (fill_answer head l out) ≡ 0) where
  -- the chain of the costs filled in is the laws' own
  pub chain_of_laws : chain_of (filled_costs head l out) (board_in (read_costs (filled_costs head l out))) ≡ law_chain head l (board_in (read_first head))
  chain_of_laws = chain_read (filled_costs head l out) head l (board_in (read_first head)) (fill_follows head l out filled)

  module _ (w work : List ℕ) (room : plan_bytes ≤ length w) (words : work_words ≤ length work) where
    -- a plan is filled in exactly if some plan keeps the rules of the laws' chain
    pub fills_exactly : (number_in (best_answer (filled_costs head l out) w work) ≡ 0) ↔ ((ms : List Module) × (keeps_rules (law_chain head l (board_in (read_first head))) ms ≡ true))
    fills_exactly =
        subst (λ (c : Chain). (number_in (best_answer (filled_costs head l out) w work) ≡ 0) ↔ ((ms : List Module) × (keeps_rules c ms ≡ true))) chain_of_laws
        (planners.fills_exactly (filled_costs head l out) w work (begun head l out filled w work room words))

    -- refusal 9 exactly if none does
    pub refuses_exactly : (best_answer (filled_costs head l out) w work ≡ Err NoPlan) ↔ ((ms : List Module) → keeps_rules (law_chain head l (board_in (read_first head))) ms ≡ true → ⊥)
    refuses_exactly =
        subst (λ (c : Chain). (best_answer (filled_costs head l out) w work ≡ Err NoPlan) ↔ ((ms : List Module) → keeps_rules c ms ≡ true → ⊥)) chain_of_laws
        (planners.refuses_exactly (filled_costs head l out) w work (begun head l out filled w work room words))

    -- the plan filled in keeps the rules of the laws' chain, and comes before every plan that does
    pub fills_best : number_in (best_answer (filled_costs head l out) w work) ≡ 0 → (a : List Module) × BestFor (law_chain head l (board_in (read_first head))) (filled_costs head l out) w work a
    fills_best e =
        let (a, f) = planners.fills_best (filled_costs head l out) w work (begun head l out filled w work room words) e in
        (a, subst (λ (c : Chain). BestFor c (filled_costs head l out) w work a) chain_of_laws f)

-- ---- in the numbers that the exports give: they tell which answer it is, of Judge, the greedy way and Best plan (`answers_tell`) and of the
-- services that answer a number (`filled_tell`); so number 9 is answered exactly where no plan keeps the rules

pub numbers_tell : (e f : Refusal) → number_of e ≡ number_of f → place_of e ≡ place_of f → e ≡ f
numbers_tell = numbers.numbers_tell

pub answers_tell : (a b : Result PlanFigures Refusal) → answer_of a ≡ answer_of b → a ≡ b
answers_tell = numbers.answers_tell

pub filled_tell : (a b : Result ℕ Refusal) → filled_of a ≡ filled_of b → a ≡ b
filled_tell = numbers.filled_tell

pub refuses_number : (s w work : List ℕ) → begins s w work ≡ true
    → (answer_of (best_answer s w work) ≡ refusal 9 0) ↔ ((ms : List Module) → keeps_rules (chain_of s (board_in (read_costs s))) ms ≡ true → ⊥)
refuses_number s w work began =
    let t = planners.refuses_exactly s w work began in
    (λ e. t.0 (answers_tell (best_answer s w work) (Err NoPlan) e), λ n. ap answer_of (t.1 n))
