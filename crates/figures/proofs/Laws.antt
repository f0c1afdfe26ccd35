-- What holds of plans (document 01, "The chain and the board", "Plan bytes"; document 02, M-102, M-104 and M-106): the laws that a
-- reader looks for, and that the layers above cite. The definitions are in specs/; `Claims` has the direct statements. Assumes nothing.
use mathlib.Core.Path.{◌≡◌, refl, ap}
use mathlib.Core.Bool.{true}
use mathlib.Core.List.{List, ◌∷◌, Memᴰ}
use Prim.Native.Nat.{ℕ, ◌+◌, ◌-◌, ◌*◌, ◌≤◌}
use native.Mathlib.Nat.{mul-le-mul, mul-le-mul_right}
use native.Mathlib.Omega.{arith}
use lib.ListN.{length}
use Rattle.std.specs.Prelude.{Result, Ok, Err}
use Rattle.records.specs.declared.Board.{Board}
use Rattle.records.specs.declared.refusal.Refusal.{Refusal}
use Rattle.records.specs.Refusals.{number_in, place_in}
use Rattle.records.specs.Costs.{most_cores, most_value}
use Rattle.records.specs.Format.{IsCosts}
use Rattle.lookups.specs.Lookups.{hand_out_of}
use Rattle.lookups.proofs.Laws.{hand_out_most}
use Rattle.modules.specs.declared.Module.{Module}
use Rattle.modules.specs.Model.{Chain, chain_of, handed}
use Rattle.modules.specs.Reach.{reach}
use Rattle.modules.proofs.Laws.{handed_none, handed_most}
use Rattle.layout.specs.Layout.{most_modules, plan_bytes, modules_of, encode_plan}
use Rattle.layout.proofs.Placing as placing
use Rattle.figures.specs.declared.PlanFigures.{PlanFigures}
use Rattle.figures.specs.declared.Slowest.{Slowest}
use Rattle.figures.specs.Plan.{answer_of}
use Rattle.figures.specs.Model.{responses, bottleneck, block_time}
use Rattle.figures.specs.Rules.{covers, keeps_rules}
use Rattle.figures.specs.Claims.{loads, IsBottleneck, once_each, copied_of, sum, externals}
use Rattle.figures.proofs.Bounds as bounds
use Rattle.figures.proofs.Covering as covering
use Rattle.figures.proofs.Decoding as decoding
use Rattle.figures.proofs.Kept as kept
use Rattle.figures.proofs.Reaching as reaching
use Rattle.figures.proofs.Timing as timing
use Rattle.figures.proofs.Tops as tops

-- ---- plans that keep the rules of accepted costs: few modules, whose bytes say them again, and bounded responses and times

module _ (s : List ℕ) (b : Board) (c : IsCosts s b) (ms : List Module) (keeps : keeps_rules (chain_of s b) ms ≡ true) where
  covered : covers b.tasks 1 ms ≡ true
  covered = (kept.keeps_parts (chain_of s b) ms keeps).0

  pub plan_modules : length ms ≤ most_modules
  plan_modules = omega (arith, covering.covers_length b.tasks 1 ms covered, c.ranged.tasks_most)

  pub plan_bytes_lem : length (encode_plan ms) ≡ plan_bytes
  plan_bytes_lem = placing.encode_length most_modules ms

  pub decode_encode : modules_of (encode_plan ms) b.tasks ≡ ms
  decode_encode = decoding.decode_encode b.tasks ms c.ranged.some_tasks c.ranged.tasks_most covered

  -- r and p are at most 32
  pub plan_bounds : (m : Module) → Memᴰ m ms → (m.copies ≤ most_cores) × (m.cores ≤ most_cores)
  plan_bounds m i =
      let h = bounds.module_cores b.tasks 1 ms covered m i in
      let g = (kept.keeps_parts (chain_of s b) ms keeps).2 in
      omega (arith, c.ranged.cores_most)

  few : (2 * b.tasks - 1) * most_value ≤ 23000000
  few = mul-le-mul_right {m = 2 * b.tasks - 1} {n = 23} most_value (omega (arith, c.ranged.tasks_most))

  -- no response is above 23 values and what handing out to its copies costs, so none is above 23,000,255 (M-106)
  response_most : (x : Slowest) → Memᴰ x (loads (chain_of s b) 0 1 ms) → x.response ≤ 23000000 + handed (chain_of s b) x.copies
  response_most x i =
      omega (arith, few, bounds.loads_most (chain_of s b) most_value (bounds.costs_most s b c) b.tasks 1 ms 0 1 covered (omega arith) (λ _. refl) x i)

  pub plan_responses : (x : Slowest) → Memᴰ x (loads (chain_of s b) 0 1 ms) → x.response ≤ 23000255
  plan_responses x i = omega (arith, response_most x i, handed_most (chain_of s b) x.copies, hand_out_most s)

  bottleneck_most : (bottleneck (chain_of s b) ms).response ≤ 23000000 + handed (chain_of s b) (bottleneck (chain_of s b) ms).copies
  bottleneck_most = omega (arith, few, bounds.bottleneck_most (chain_of s b) most_value b.tasks ms (bounds.costs_most s b c) covered)

  pub plan_bottleneck_lem : (bottleneck (chain_of s b) ms).response ≤ 23000255
  plan_bottleneck_lem = omega (arith, bottleneck_most, handed_most (chain_of s b) (bottleneck (chain_of s b) ms).copies, hand_out_most s)

  pub plan_bottleneck_one : (bottleneck (chain_of s b) ms).copies ≤ 1 → (bottleneck (chain_of s b) ms).response ≤ 23000000
  plan_bottleneck_one h = omega (arith, bottleneck_most, handed_none (chain_of s b) (bottleneck (chain_of s b) ms).copies h)

  -- M-104 and M-106: no single-block time is above 23 values and the greatest D for each of twelve modules, so it is below 2²⁵
  time_most : block_time (chain_of s b) ms ≤ 23000000 + copied_of ms * hand_out_of s
  time_most =
      omega (
        arith,
        timing.time_most (chain_of s b) most_value b.tasks ms (bounds.costs_most s b c) covered,
        mul-le-mul_right {m = 2 * (b.tasks - 1) + 1} {n = 23} most_value (omega (arith, c.ranged.tasks_most)),
      )

  pub plan_block_time : block_time (chain_of s b) ms ≤ 23003060
  plan_block_time =
      let modules : copied_of ms ≤ 12 = omega (arith, timing.copied_most ms, plan_modules) in
      omega (arith, time_most, mul-le-mul {n₁ = copied_of ms} {m₁ = hand_out_of s} {n₂ = 12} {m₂ = 255} modules (hand_out_most s))

  pub plan_time_one : copied_of ms ≡ 0 → block_time (chain_of s b) ms ≤ 23000000
  plan_time_one h = omega (arith, time_most, ap (λ (x : ℕ). x * hand_out_of s) h)

-- ---- M-104: the single-block time "adds each task's execution and each transfer once, at the plan's cores", and rises "by D for each such
-- module" whose r is above 1 (M-106), of every plan of the whole chain, whatever rules it breaks besides

module _ (c : Chain) (ms : List Module) (covered : covers c.tasks 1 ms ≡ true) where
  pub block_time_tasks : block_time c ms ≡ once_each c ms + copied_of ms * c.hand_out
  block_time_tasks = timing.time_tasks c c.tasks 1 ms covered

  -- it is the sum of the modules' responses less each external transfer once
  pub block_time_responses : block_time c ms + externals c ms ≡ sum (responses c 0 ms)
  block_time_responses = timing.time_responses c c.tasks ms covered

-- ---- M-102: no module of a plan that keeps the rules goes beyond its reach

pub plan_reach : (c : Chain) (ms : List Module) → keeps_rules c ms ≡ true → (m : Module) → Memᴰ m ms → m.last ≤ reach c m.first
plan_reach = reaching.plan_reach

-- ---- the bottleneck is the first module that reaches the greatest response ÷ copies

pub bottleneck_is : (c : Chain) (k t : ℕ) (m : Module) (ms : List Module) → covers k t (m ∷ ms) ≡ true → IsBottleneck (loads c 0 1 (m ∷ ms)) (bottleneck c (m ∷ ms))
bottleneck_is = tops.bottleneck_is

-- ---- an answer in numbers, as callers outside get it: its number and place are what the laws of the services say of the answer itself

pub answer_says : (a : Result PlanFigures Refusal) → ((answer_of a).number ≡ number_in a) × ((answer_of a).place ≡ place_in a)
answer_says (Ok f) = (refl, refl)
answer_says (Err e) = (refl, refl)
