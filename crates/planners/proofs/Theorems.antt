-- Demand 3: for all costs, plan bytes and work areas with which a search begins (accepted costs, buffers large enough, whatever
-- they held), over layer 2's rules, bottleneck, cores, single-block time and module order, with every list of modules as a rival.
-- `best_answer` and `best_bytes` are what the promise of `best_plan` says of its answer and of the plan bytes. Assumes nothing.
use mathlib.Core.Path.{◌≡◌}
use mathlib.Core.Bool.{true}
use mathlib.Core.List.{List}
use mathlib.Core.Logic.{◌↔◌, ◌⊎◌}
use Prim.Native.Nat.{ℕ, ◌+◌, ◌*◌, ◌<◌}
use Rattle.std.specs.Prelude.{Ok, Err}
use Rattle.records.specs.declared.refusal.Refusal.TheVariants.{NoPlan}
use Rattle.records.specs.Refusals.{number_in}
use Rattle.modules.specs.declared.Module.{Module}
use Rattle.modules.specs.Model.{Chain, response}
use Rattle.modules.specs.Rules.{copies_allowed}
use Rattle.figures.specs.Model.{block_time}
use Rattle.figures.specs.Rules.{keeps_rules}
use Rattle.judge.specs.Judge.{judged}
use Rattle.judge.specs.Timed.{block_time_answer}
use Rattle.judge.specs.Claims.{chain, Passes}
use Rattle.search.specs.Copies.{fewest}
use Rattle.search.specs.Best.{fits_at}
use Rattle.slack.specs.Problem.{grain, price, problem}
use Rattle.planners.specs.Best.{begins, best_answer, best_bytes}
use Rattle.planners.specs.Claims.{ComesFirst, Filled}
use Rattle.weights.proofs.Copies as copies
use Rattle.planners.proofs.Outcomes as outcomes

module _ (s w work : List ℕ) (began : begins s w work ≡ true) where
  -- a plan is filled in exactly if some plan keeps the rules
  pub fills_exactly : (number_in (best_answer s w work) ≡ 0) ↔ ((ms : List Module) × (keeps_rules (chain s w) ms ≡ true))
  fills_exactly = (
    λ e. let (a, f) = outcomes.plan_of s w work began (outcomes.outcome s w work began) e in (a, f.keeps),
    λ p. outcomes.some_plan s w work began (outcomes.outcome s w work began) p.0 p.1,
  )

  -- refusal 9 exactly if none does
  pub refuses_exactly : (best_answer s w work ≡ Err NoPlan) ↔ ((ms : List Module) → keeps_rules (chain s w) ms ≡ true → ⊥)
  refuses_exactly = (outcomes.refused_none s w work began (outcomes.outcome s w work began), outcomes.none_of s w work began (outcomes.outcome s w work began))

  -- the plan filled in keeps the rules and comes before every plan that does: smaller bottleneck, or equal and fewer cores, or equal
  -- and smaller single-block time (M-104), or equal and earlier in module order (`Filled`, `ComesFirst`)
  pub fills_best : number_in (best_answer s w work) ≡ 0 → (a : List Module) × Filled s w work a
  fills_best = outcomes.plan_of s w work began (outcomes.outcome s w work began)

  -- the same as services: whatever plan bytes v Judge passes for these costs, the plan filled in is theirs or comes before it
  pub before_judged : (v : List ℕ) → number_in (judged s v) ≡ 0 → (a : List Module) × (p : Passes s v) × Filled s w work a × ComesFirst (chain s w) a p.modules
  before_judged v e = outcomes.before_judged s w work began v e

  -- and Judge passes it and answers the same figures
  pub judge_same : number_in (best_answer s w work) ≡ 0 → judged s (best_bytes s w work) ≡ best_answer s w work
  judge_same e = let (a, f) = fills_best e in outcomes.judge_agrees s w work began a f

  -- and the single-block time that is answered for it is the one by which it comes first (M-104)
  pub time_same : number_in (best_answer s w work) ≡ 0 → (a : List Module) × Filled s w work a × (block_time_answer s (best_bytes s w work) ≡ Ok (block_time (chain s w) a))
  time_same e = let (a, f) = fills_best e in (a, f, outcomes.time_agrees s w work began a f)

-- ---- M-106: once D counts, one copy of a module may be within a threshold, two not, and three again; still the fewest that are within it are the
-- best ones

-- where r copies fit at the threshold n, so do the fewest, which one division finds: they are the r copies, or have fewer copies and cores and weigh
-- less. So at p cores of a copy the least over r is theirs (`search` `over_copies_first`) and no tie is left; between plans that differ in p too, module
-- order still puts the smaller r first (`fills_best`)
pub copies_best : (c : Chain) (n s t l r p q : ℕ) → fits_at (problem c) n s t l r p q ≡ true
    → (let f = fewest (copies_allowed c (t + 1) l 2) (response c s (t + 1) l 1 p q * grain) (response c s (t + 1) l 2 p q * grain) n in
    (fits_at (problem c) n s t l f p q ≡ true) × ((f ≡ r) ⊎ ((f < r) × (f * p < r * p) × (price c t l f p q < price c t l r p q))))
copies_best c n s t l r p q = copies.copies_best c s t l p q n r
