-- No service answers a response above 23,000,255 ticks, so each answer fits 32-bit numbers: a refusal has none, and a plan that
-- keeps the rules of accepted costs is bounded by them. Assumes nothing.
use mathlib.Core.Path.{◌≡◌, sym, subst, ap}
use mathlib.Core.List.{List}
use Prim.Native.Nat.{ℕ, ◌≤◌, ◌<◌}
use native.Mathlib.Omega.{arith}
use Rattle.records.specs.Costs.{board_in, read_costs}
use Rattle.records.proofs.Laws.{accepted_costs}
use Rattle.std.specs.Prelude.{Result}
use Rattle.records.specs.declared.refusal.Refusal.{Refusal}
use Rattle.records.specs.Refusals.{number_in}
use Rattle.figures.specs.declared.PlanFigures.{PlanFigures}
use Rattle.figures.specs.declared.answer.Answer.{Answer}
use Rattle.figures.specs.Plan.{figures_of, answer_of}
use Rattle.figures.proofs.Laws.{plan_bottleneck_lem}
use Rattle.figures.proofs.Served.{zero_figures, Served, Served.refuses, Served.fills}
use Rattle.judge.specs.Judge.{judged}
use Rattle.judge.specs.Claims.{Passes}
use Rattle.judge.proofs.Laws.{judge_passes, judge_figures}
use Rattle.judge.proofs.Passing.{judge_served}
use Rattle.greedy.specs.Greedy.{greedy_answer, greedy_bytes}
use Rattle.greedy.proofs.Laws.{greedy_judged}
use Rattle.greedy.proofs.Lending.{greedy_served}
use Rattle.planners.specs.Best.{best_answer, best_bytes}
use Rattle.planners.proofs.Lending.{best_served, number_begun}
use Rattle.planners.proofs.Theorems.{judge_same}
use Rattle.zombreki.specs.Exported.{words}

pub record Small (a : Result PlanFigures Refusal) : Type 0 where
  pub few : (answer_of a).response ≤ 23000255

-- an answer that is a small one fits
pub fits : {a : Answer} {b : Result PlanFigures Refusal} → a ≡ answer_of b → Small b → a.response < words
fits e h = omega (arith, ap (λ (x : Answer). x.response) e, h.few)

-- a refusal has no response, so an answer is small if it is where it has a plan
served_small : {a : Result PlanFigures Refusal} {w v : List ℕ} → Served a w v → (number_in a ≡ 0 → Small a) → Small a
served_small {a} (refuses n k) h = record { few = omega (arith, ap (λ (x : Answer). x.response) (zero_figures a n)) }
served_small (fills z ms e) h = h z

module _ (s w : List ℕ) where
  passes_small : Passes s w → Small (judged s w)
  unfolding figures_of
  passes_small p =
      let costs = accepted_costs s p.readable.accepted in
      subst Small (sym (judge_figures s w p)) (record { few = plan_bottleneck_lem s (board_in (read_costs s)) costs p.modules p.keeps })

  pub judged_small : Small (judged s w)
  judged_small = served_small (judge_served s w) (λ z. passes_small ((judge_passes s w).0 z))

-- the figures of a plan that is filled in are Judge's
pub greedy_small : (s w : List ℕ) (g : ℕ) → Small (greedy_answer s g w)
greedy_small s w g = served_small (greedy_served s w g) (λ z. subst Small (greedy_judged s w g z) (judged_small s (greedy_bytes s g w)))

pub best_small : (s w work : List ℕ) → Small (best_answer s w work)
best_small s w work =
    served_small (best_served s w work) (λ z. subst Small (judge_same s w work (number_begun s w work z) z) (judged_small s (best_bytes s w work)))
