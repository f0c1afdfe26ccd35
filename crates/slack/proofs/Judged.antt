-- A plan that keeps the rules is within every threshold that is at least its bottleneck. By the search's bottleneck of the plan, which is
-- the same fraction. Assumes nothing.
use mathlib.Core.Path.{◌≡◌}
use mathlib.Core.Bool.{true}
use mathlib.Core.List.{List}
use Prim.Native.Nat.{ℕ, ◌*◌, ◌≤◌}
use native.Mathlib.Omega.{arith}
use Rattle.modules.specs.declared.Module.{Module}
use Rattle.modules.specs.Model.{Chain}
use Rattle.figures.specs.Model.{bottleneck}
use Rattle.figures.specs.Rules.{keeps_rules}
use Rattle.figures.proofs.Fractions.{le_le}
use Rattle.search.specs.Bottleneck.{plan_bottleneck}
use Rattle.search.proofs.Bottleneck.{bottleneck_out}
use Rattle.slack.specs.Problem.{grain, problem}
use Rattle.slack.specs.Splits.{Found}
use Rattle.slack.proofs.Instance.{rules_keeps, Matched, bottleneck_matched}

module _ (c : Chain) (some : 1 ≤ c.tasks) (ms : List Module) (kept : keeps_rules c ms ≡ true) where
  matched : Matched c ms
  matched = bottleneck_matched c some ms (rules_keeps c ms kept).0

  -- its bottleneck is a fraction
  pub judged_copies : 1 ≤ (bottleneck c ms).copies
  judged_copies = matched.copied

  -- it is within the threshold m
  pub judged_found : (m : ℕ) → (bottleneck c ms).response * grain ≤ m * (bottleneck c ms).copies → Found (problem c) m c.board
  judged_found m h =
      let k = rules_keeps c ms kept in
      let x = bottleneck c ms in
      let z = plan_bottleneck (problem c) ms in
      let u = le_le z.num z.den x.response x.copies m grain judged_copies (omega (arith, matched.same)) h in
      record { modules = ms; ok = bottleneck_out (problem c) m 0 0 ms k.0 u; cores = k.1 }
