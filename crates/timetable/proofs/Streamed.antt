-- The ends of a stream (document 02, M-105) by the plan's bottleneck and single-block time: with one copy of each module the bottleneck's response is the
-- greatest response. Assumes nothing.
use Prim.Native.Nat.{ℕ, zero, suc, ◌+◌, ◌*◌, ◌-◌, ◌≤◌}
use native.Mathlib.Nat.{not-suc-le-zero, suc-mul}
use native.Mathlib.Omega.{arith}
use mathlib.Core.Path.{◌≡◌, refl, ap, ◌∙◌}
use mathlib.Core.Bool.{true}
use mathlib.Core.List.Memᴰ
use mathlib.Core.List.{List, [], ◌∷◌, Memᴰ}
use mathlib.Core.Logic.{⊎_elim}
use lib.ListN.{length, get_or}
use borrow.Author.Tests.{le-ltb}
use Rattle.std.specs.Prelude.{Result}
use Rattle.records.specs.declared.refusal.Refusal.{Refusal}
use Rattle.records.specs.Refusals.{number_in}
use Rattle.records.specs.Filled.{count_in}
use Rattle.records.specs.Costs.{board_in, read_costs}
use Rattle.records.proofs.Refusing.{number_some}
use Rattle.records.proofs.Laws.{accepted_costs}
use Rattle.modules.specs.declared.Module.{Module}
use Rattle.modules.specs.Model.{Chain}
use Rattle.figures.specs.declared.PlanFigures.{PlanFigures}
use Rattle.figures.specs.declared.Slowest.{Slowest}
use Rattle.figures.specs.Model.{bottleneck, block_time}
use Rattle.figures.specs.Rules.{covers}
use Rattle.figures.specs.Claims.{loads, IsBottleneck, copied_of}
use Rattle.figures.specs.Plan.{figures_of, answer_of}
use Rattle.figures.proofs.Covering.{covers_head}
use Rattle.figures.proofs.Kept.{keeps_parts}
use Rattle.figures.proofs.Laws.{bottleneck_is, plan_bottleneck_one, plan_time_one}
use Rattle.judge.specs.Judge.{judged}
use Rattle.judge.specs.Timed.{block_time_answer}
use Rattle.judge.specs.Claims.{AllPass, chain, Passes}
use Rattle.judge.proofs.Passing.{passes_figures}
use Rattle.judge.proofs.Timing.{time_passed}
use Rattle.timetable.specs.Claims.{Tables, Tables.refused, Tables.copied, Tables.unasked, Tables.filled}
use Rattle.timetable.specs.Machine.{Schedule, through, Runs}
use Rattle.timetable.specs.Stages.{stages}
use Rattle.timetable.specs.Timetable.{end_of, single_test}
use Rattle.timetable.proofs.Bounds.{single_first, single_rest, end_after, end_before, response_alone}
use Rattle.timetable.proofs.Tabled.{end_through, passes_some}

-- each module has one copy
loads_single : (c : Chain) (k s t n : ℕ) (ms : List Module) → covers k t ms ≡ true → AllPass single_test ms → (x : Slowest) → Memᴰ x (loads c s n ms) → x.copies ≡ 1
unfolding loads
loads_single c k s t n [] e all x i = absurd (Memᴰ.not-nil i)
loads_single c k s t n (m ∷ ms) e all x i =
    let z = covers_head k t m ms e in
    ⊎_elim
    (λ d. omega (arith, ap (λ (y : Slowest). y.copies) d, single_first m ms all, z.3))
    (λ l. loads_single c k m.cores (m.last + 1) (n + 1) ms z.5 (single_rest m ms all) x l)
    (Memᴰ.cases_cons i)

single_copied : (ms : List Module) → AllPass single_test ms → copied_of ms ≡ 0
unfolding copied_of
single_copied [] all = refl
single_copied (m ∷ ms) all = rw (le-ltb 1 m.copies (single_first m ms all)) (omega (arith, single_copied ms (single_rest m ms all)))

module _ (c : Chain) (ms : List Module) (some : 1 ≤ length ms) (covered : covers c.tasks 1 ms ≡ true) (single : AllPass single_test ms) where
  is_bottleneck : IsBottleneck (loads c 0 1 ms) (bottleneck c ms)
  is_bottleneck = top ms some covered
    where
      top : (ms : List Module) → 1 ≤ length ms → covers c.tasks 1 ms ≡ true → IsBottleneck (loads c 0 1 ms) (bottleneck c ms)
      top [] l e = absurd (not-suc-le-zero l)
      top (m ∷ ms) l e = bottleneck_is c c.tasks 1 m ms e

  -- so the bottleneck's response is the greatest
  most_response : (x : Slowest) → Memᴰ x (loads c 0 1 ms) → x.response ≤ (bottleneck c ms).response
  most_response x i =
      let one = loads_single c c.tasks 0 1 1 ms covered single in
      omega (
        arith,
        is_bottleneck.most x i,
        ap (λ (r : ℕ). x.response * r) (one (bottleneck c ms) is_bottleneck.one),
        ap (λ (r : ℕ). (bottleneck c ms).response * r) (one x i),
      )

  -- and it is divided by 1
  pub bottleneck_single : (bottleneck c ms).copies ≡ 1
  bottleneck_single = loads_single c c.tasks 0 1 1 ms covered single (bottleneck c ms) is_bottleneck.one

  -- a single block's time, and a bottleneck for each block before it
  end_is : (n : ℕ) → end_of (stages c ms) (suc n) ≡ n * (bottleneck c ms).response + block_time c ms
  end_is n =
      omega (
        arith,
        end_after c c.tasks n ms covered single (bottleneck c ms) is_bottleneck.one,
        end_before c c.tasks (bottleneck c ms).response n ms covered single most_response,
      )

  pub stream_ends : {t : Schedule} → Runs (stages c ms) t → (n : ℕ) → 1 ≤ n
      → through (stages c ms) t (length (stages c ms) - 1) n ≡ (n - 1) * (bottleneck c ms).response + block_time c ms
  stream_ends r zero h = absurd (not-suc-le-zero h)
  stream_ends r (suc n) h = let e : suc n - 1 ≡ n = omega arith in rw e (end_through c ms some r n ∙ end_is n)

  pub bottleneck_alone : (bottleneck c ms).response ≤ block_time c ms
  bottleneck_alone = response_alone c c.tasks ms covered single (bottleneck c ms) is_bottleneck.one

-- n bottlenecks are n - 1 and one
pub bottlenecks : (n b l : ℕ) → 1 ≤ n → b ≤ l → n * b ≤ (n - 1) * b + l
bottlenecks zero b l h g = absurd (not-suc-le-zero h)
bottlenecks (suc n) b l h g = let e : suc n - 1 ≡ n = omega arith in rw e (omega (arith, suc-mul n b))

-- ---- by Judge's response and the time that is answered

judged_response : (s w : List ℕ) (p : Passes s w) → (answer_of (judged s w)).response ≡ (bottleneck (chain s w) p.modules).response
unfolding figures_of
judged_response s w p = ap (λ (a : Result PlanFigures Refusal). (answer_of a).response) (passes_figures s w p)

judged_copies : (s w : List ℕ) (p : Passes s w) → (answer_of (judged s w)).copies ≡ (bottleneck (chain s w) p.modules).copies
unfolding figures_of
judged_copies s w p = ap (λ (a : Result PlanFigures Refusal). (answer_of a).copies) (passes_figures s w p)

-- what a table holds, of each block
module _ (s w : List ℕ) (n : ℕ) (table : List ℕ) where
  pub tables_ends : (a : Result ℕ Refusal) (after : List ℕ) → Tables s w n table a after → number_in a ≡ 0 → (b : ℕ) → 1 ≤ b → b ≤ n
      → (get_or after (b - 1) 0 ≡ (b - 1) * (answer_of (judged s w)).response + count_in (block_time_answer s w)) × ((answer_of (judged s w)).response ≤ count_in (block_time_answer s w)) × ((answer_of (judged s w)).response ≤ 23000000)
      × (count_in (block_time_answer s w) ≤ 23000000)
  tables_ends a after (refused x j) e b l h = absurd (number_some x e)
  tables_ends a after (copied p i f) e b l h = absurd (omega arith)
  tables_ends a after (unasked p all f) e b l h = absurd (omega arith)
  tables_ends a after (filled p all asked t r k holds) e b l h =
      let c = chain s w in
      let covered = (keeps_parts c p.modules p.keeps).0 in
      let some = passes_some s w p in
      rw (holds.ends b l h, judged_response s w p, time_passed s w p) (
        stream_ends c p.modules some covered all r b l,
        bottleneck_alone c p.modules some covered all,
        plan_bottleneck_one s (board_in (read_costs s)) (accepted_costs s p.readable.accepted) p.modules p.keeps (omega (arith, bottleneck_single c p.modules some covered all)),
        plan_time_one s (board_in (read_costs s)) (accepted_costs s p.readable.accepted) p.modules p.keeps (single_copied p.modules all),
      )

  pub tables_single : (a : Result ℕ Refusal) (after : List ℕ) → Tables s w n table a after → number_in a ≡ 0 → (answer_of (judged s w)).copies ≡ 1
  tables_single a after (refused x j) e = absurd (number_some x e)
  tables_single a after (copied p i f) e = absurd (omega arith)
  tables_single a after (unasked p all f) e = absurd (omega arith)
  tables_single a after (filled p all asked t r k holds) e =
      judged_copies s w p ∙ bottleneck_single (chain s w) p.modules (passes_some s w p) (keeps_parts (chain s w) p.modules p.keeps).0 all
