-- From the definition of the best plan to the service: what it answers and leaves once a search has begun, and that Judge agrees.
-- Assumes nothing.
use mathlib.Core.Path.{◌≡◌, refl, sym, ap, ◌∙◌}
use mathlib.Core.Bool.{true}
use mathlib.Core.List.{List}
use mathlib.Core.Option.{Option, none, some}
use Prim.Native.Nat.{ℕ, ◌≤◌}
use native.Mathlib.Omega.{arith}
use lib.ListN.{length, take, drop, length-append}
use lib.Seq.{take_at}
use borrow.Author.Tests.{le-leb, eqb-true, leb-true}
use Rattle.std.specs.Prelude.{Result, Ok, Err}
use Rattle.records.specs.declared.refusal.Refusal.{Refusal}
use Rattle.records.specs.declared.refusal.Refusal.TheVariants.{NoPlan}
use Rattle.records.specs.Refusals.{number_in}
use Rattle.records.proofs.Refusing.{goes_on}
use Rattle.records.specs.Costs.{board_in, read_costs}
use Rattle.records.specs.Format.{IsCosts}
use Rattle.records.proofs.Cases.{and-true}
use Rattle.records.proofs.Laws.{accepted_costs}
use Rattle.modules.specs.declared.Module.{Module}
use Rattle.modules.specs.Model.{Chain, chain_of}
use Rattle.layout.specs.Layout.{most_modules, plan_bytes, encode_plan}
use Rattle.layout.proofs.Placing.{encode_length}
use Rattle.figures.specs.declared.PlanFigures.{PlanFigures}
use Rattle.figures.specs.Model.{block_time}
use Rattle.figures.specs.Rules.{keeps_rules}
use Rattle.figures.specs.Plan.{figures_of}
use Rattle.judge.specs.Judge.{judged}
use Rattle.judge.specs.Timed.{block_time_answer}
use Rattle.judge.specs.Claims.{Passes, Times.timed}
use Rattle.judge.proofs.Laws.{judge_passes, judge_figures, block_time_exactly}
use Rattle.planners.specs.Best.{work_words, best_plan, found_answer, found_bytes, begins, answer_on, best_answer, best_bytes}
use Rattle.planners.specs.Claims.{ComesFirst, Filled}
use Rattle.planners.proofs.Optimal.{found_best, found_none}

module _ (s w work : List ℕ) (began : begins s w work ≡ true) where
  -- the chain of the costs
  abbrev c : Chain
  c = chain_of s (board_in (read_costs s))

  begun : (number_in (read_costs s) ≡ 0) × (plan_bytes ≤ length w) × (work_words ≤ length work)
  unfolding begins
  begun = let h = and-true _ _ began in let g = and-true _ _ h.0 in (eqb-true _ _ g.0, leb-true _ _ g.1, leb-true _ _ h.1)

  pub costs : IsCosts s (board_in (read_costs s))
  costs = accepted_costs s begun.0

  pub answer_is : best_answer s w work ≡ found_answer c (best_plan c)
  unfolding answer_on best_answer
  answer_is =
      goes_on (λ b. answer_on (chain_of s b) w work) (read_costs s) begun.0
      ∙ simp (le-leb plan_bytes (length w) begun.1, le-leb work_words (length work) begun.2)

  pub bytes_are : best_bytes s w work ≡ found_bytes (best_plan c) w
  unfolding best_bytes
  bytes_are = simp began

  -- the two outcomes
  pub data Outcome : Type 0 where
    without_plan : best_answer s w work ≡ Err NoPlan → ((ms : List Module) → keeps_rules c ms ≡ true → ⊥) → Outcome
    plan : (a : List Module) → Filled s w work a → Outcome

  outcome_of : (o : Option (List Module)) → best_plan c ≡ o → Outcome
  unfolding found_answer found_bytes
  outcome_of none e = without_plan (answer_is ∙ ap (found_answer c) e) (found_none s (board_in (read_costs s)) costs e)
  outcome_of (some a) e =
      let h = found_best s (board_in (read_costs s)) costs a e in
      plan a (record { bytes = bytes_are ∙ ap (λ (o : Option (List Module)). found_bytes o w) e; figures = answer_is ∙ ap (found_answer c) e; keeps = h.0; first = h.1 })

  pub outcome : Outcome
  outcome = outcome_of (best_plan c) refl

  -- Judge passes the plan filled in, and answers its figures; its single-block time is answered too (M-104)
  module _ (a : List Module) (f : Filled s w work a) where
    filled_passes : Passes s (best_bytes s w work)
    filled_passes =
        let l = encode_length most_modules a in
        let e : take plan_bytes (best_bytes s w work) ≡ encode_plan a = ap (take plan_bytes) f.bytes ∙ take_at (encode_plan a) (drop plan_bytes w) plan_bytes l in
        let long : plan_bytes ≤ length (best_bytes s w work) = omega (arith, ap length f.bytes, length-append (encode_plan a) (drop plan_bytes w)) in
        record { readable = record { accepted = begun.0; long = long }; modules = a; bytes = sym e; keeps = f.keeps }

    pub judge_agrees : judged s (best_bytes s w work) ≡ best_answer s w work
    unfolding filled_passes
    judge_agrees = judge_figures s (best_bytes s w work) filled_passes ∙ sym f.figures

    pub time_agrees : block_time_answer s (best_bytes s w work) ≡ Ok (block_time c a)
    unfolding filled_passes
    time_agrees = (block_time_exactly s (best_bytes s w work) _).1 (timed filled_passes)

-- what each outcome says of the answer's number
module _ (s w work : List ℕ) (began : begins s w work ≡ true) where
  pub plan_of : Outcome s w work began → number_in (best_answer s w work) ≡ 0 → (a : List Module) × Filled s w work a
  plan_of (without_plan e n) z = absurd (omega (arith, sym (ap (λ (x : Result PlanFigures Refusal). number_in x) e) ∙ z))
  plan_of (plan a f) z = (a, f)

  pub number_of : (a : List Module) → Filled s w work a → number_in (best_answer s w work) ≡ 0
  unfolding figures_of
  number_of a f = ap (λ (x : Result PlanFigures Refusal). number_in x) f.figures

  pub some_plan : Outcome s w work began → (ms : List Module) → keeps_rules (c s w work began) ms ≡ true → number_in (best_answer s w work) ≡ 0
  some_plan (without_plan e n) ms k = absurd (n ms k)
  some_plan (plan a f) ms k = number_of a f

  pub none_of : Outcome s w work began → ((ms : List Module) → keeps_rules (c s w work began) ms ≡ true → ⊥) → best_answer s w work ≡ Err NoPlan
  none_of (without_plan e n) h = e
  none_of (plan a f) h = absurd (h a f.keeps)

  pub refused_none : Outcome s w work began → best_answer s w work ≡ Err NoPlan → (ms : List Module) → keeps_rules (c s w work began) ms ≡ true → ⊥
  refused_none (without_plan e n) r ms k = n ms k
  refused_none (plan a f) r ms k = omega (arith, sym (ap (λ (x : Result PlanFigures Refusal). number_in x) r) ∙ number_of a f)

  pub before_judged : (v : List ℕ) → number_in (judged s v) ≡ 0 → (a : List Module) × (p : Passes s v) × Filled s w work a × ComesFirst (c s w work began) a p.modules
  before_judged v e =
      let p = (judge_passes s v).0 e in
      let (a, f) = plan_of (outcome s w work began) (some_plan (outcome s w work began) p.modules p.keeps) in
      (a, p, f, f.first p.modules p.keeps)
