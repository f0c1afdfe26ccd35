-- The definition that tries every plan finds the search's answer, and that is the best plan in the documents' words. By the
-- search's theorems at the problem of a chain. Assumes nothing.
use mathlib.Core.Path.{◌≡◌, refl, sym, ◌∙◌}
use mathlib.Core.Bool.{true}
use mathlib.Core.List.{List, [], ◌∷◌, Memᴰ}
use mathlib.Core.Logic.{inl, inr}
use mathlib.Core.Option.{none, some}
use Prim.Native.Nat.{ℕ, ◌+◌, ◌*◌, ◌≤◌}
use native.Mathlib.Omega.{arith}
use lib.Dec.{T}
use Rattle.records.specs.declared.Board.{Board}
use Rattle.records.specs.Format.{IsCosts}
use Rattle.modules.specs.declared.Module.{Module}
use Rattle.modules.specs.Model.{Chain, chain_of}
use Rattle.figures.specs.declared.Slowest.{Slowest}
use Rattle.figures.specs.Model.{head_cores, response_of, bottleneck}
use Rattle.figures.specs.Rules.{keeps_rules}
use Rattle.figures.specs.Claims.{loads}
use Rattle.figures.proofs.Laws.{plan_responses, plan_block_time}
use Rattle.search.specs.Plan.{valid}
use Rattle.search.specs.Bottleneck as abstract
use Rattle.search.specs.Bottleneck.{rules, Keeps, plan_bottleneck}
use Rattle.search.specs.Order.{Beats}
use Rattle.search.specs.Best.{plan_weight}
use Rattle.search.specs.Answer.{answer}
use Rattle.search.specs.Outcome.{Searched, Searched.without_plan, Searched.with_best}
use Rattle.search.proofs.Plan.{valid_first, valid_tail}
use Rattle.search.proofs.Fraction.{greater_case}
use Rattle.search.proofs.Answer.{answer_is}
use Rattle.search.proofs.Outcome.{answer_best}
use Rattle.slack.specs.Problem.{grain, problem, top_threshold}
use Rattle.planners.specs.Best.{is_better, best_plan}
use Rattle.planners.specs.Claims.{ComesFirst}
use Rattle.slack.proofs.Instance.{problem_small, rules_kept, rules_keeps, less_same, more_same}
use Rattle.planners.proofs.Weighing.{Quick, problem_laws, matched, weight_order, better_decides, best_searched}

-- where no load of a plan is above most, the search's numerator is not
numerator_most : (c : Chain) (most s t n : ℕ) (ms : List Module) → T (valid c.tasks (rules (problem c)) s t ms) → ((y : Slowest) → Memᴰ y (loads c s n ms) → y.response ≤ most)
    → (abstract.bottleneck (problem c) s t ms).num ≤ most
unfolding loads abstract.bottleneck
numerator_most c most s t n [] v h = omega arith
numerator_most c most s t n (m ∷ ms) v h =
    let e = valid_first c.tasks (rules (problem c)) s t m ms v in
    greater_case (abstract.load (problem c) s t m (head_cores ms)) (abstract.bottleneck (problem c) m.cores m.last ms) (λ z. z.num ≤ most)
    (λ _. numerator_most c most m.cores m.last (n + 1) ms (valid_tail c.tasks (rules (problem c)) s t m ms v) (λ y i. h y (Memᴰ.tail i)))
    (λ _. rw (← e) (h (record { number = n; response = response_of c s m ms; copies = m.copies }) (Memᴰ.head refl)))

module _ (s : List ℕ) (b : Board) (costs : IsCosts s b) where
  c : Chain
  c = chain_of s b

  -- no plan's single-block time is above 23,003,060 ticks, and a core weighs more (M-104, M-106)
  pub quick : Quick (chain_of s b)
  quick = record { time = λ ms k. omega (arith, plan_block_time s b costs ms k) }

  pub below_top : (ms : List Module) → Keeps (problem (chain_of s b)) ms → (plan_bottleneck (problem (chain_of s b)) ms).num * grain ≤ top_threshold
  unfolding c
  below_top ms h = omega (arith, numerator_most c 23000255 0 0 1 ms h.0 (plan_responses s b costs ms (rules_kept c ms h)))

  pub best_answer_lem : best_plan (chain_of s b) ≡ answer (problem (chain_of s b)) top_threshold
  unfolding c
  best_answer_lem =
      best_searched c costs.ranged.some_tasks
      ∙ answer_is (problem c) (problem_laws c quick) (is_better c) (better_decides c costs.ranged.some_tasks quick) (problem_small c costs.ranged.cores_most) top_threshold below_top

  searched : Searched (problem c) (plan_weight (problem c)) (best_plan c)
  unfolding c
  searched = rw best_answer_lem (answer_best (problem c) (problem_laws c quick) (problem_small c costs.ranged.cores_most) top_threshold below_top)

  comes_first : (x y : List Module) → Keeps (problem c) x → Keeps (problem c) y → Beats (plan_bottleneck (problem c)) (plan_weight (problem c)) x y → ComesFirst c x y
  unfolding Beats ComesFirst c
  comes_first x y kx ky h =
      let f = matched c costs.ranged.some_tasks x kx in
      let g = matched c costs.ranged.some_tasks y ky in
      let p = bottleneck c x in
      let q = bottleneck c y in
      let z = plan_bottleneck (problem c) x in
      let w = plan_bottleneck (problem c) y in
      elim h [
        | inl l ↦ inl (less_same z.num z.den p.response p.copies w.num w.den q.response q.copies f.divided f.copied g.divided g.copied (sym f.same) (sym g.same) l)
        | inr (e, l) ↦ inr (
          more_same z.num z.den p.response p.copies w.num w.den q.response q.copies f.divided f.copied g.divided g.copied (sym f.same) (sym g.same) (omega arith),
          more_same w.num w.den q.response q.copies z.num z.den p.response p.copies g.divided g.copied f.divided f.copied (sym g.same) (sym f.same) (omega arith),
          weight_order c quick x y kx ky l,
        )
      ]

  -- found: it keeps the rules, and every plan that does is it or comes after it
  pub found_best : (a : List Module) → best_plan (chain_of s b) ≡ some a → (keeps_rules (chain_of s b) a ≡ true) × ((x : List Module) → keeps_rules (chain_of s b) x ≡ true → ComesFirst (chain_of s b) a x)
  unfolding c
  found_best a e = from searched
    where
      from : Searched (problem c) (plan_weight (problem c)) (best_plan c) → (keeps_rules c a ≡ true) × ((x : List Module) → keeps_rules c x ≡ true → ComesFirst c a x)
      from (without_plan d n) = let z : ◌≡◌ {A = ℕ} 0 1 = cc in absurd (omega arith)
      from (with_best x d h) =
          let q : x ≡ a = cc in
          rw (← q) (rules_kept c x h.keeps, λ y k. comes_first x y h.keeps (rules_keeps c y k) (h.beats y (rules_keeps c y k)))

  -- nothing found: no plan keeps the rules
  pub found_none : best_plan (chain_of s b) ≡ none → (x : List Module) → keeps_rules (chain_of s b) x ≡ true → ⊥
  unfolding c
  found_none e = from searched
    where
      from : Searched (problem c) (plan_weight (problem c)) (best_plan c) → (x : List Module) → keeps_rules c x ≡ true → ⊥
      from (without_plan d n) = λ x k. n x (rules_keeps c x k)
      from (with_best y d h) = let z : ◌≡◌ {A = ℕ} 0 1 = cc in absurd (omega arith)
