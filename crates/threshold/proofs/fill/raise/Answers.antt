-- `raise` raises the words that it passes and leaves all others; a body above every word counts as the greatest number of 32 bits, which
-- leaves nothing either.
use Prim.Native.Nat.{ℕ, max, ◌+◌, ◌-◌, ◌≤◌, ◌<◌}
use native.Mathlib.Nat.{le_refl}
use native.Mathlib.Omega.{arith}
use mathlib.Core.Path.{◌≡◌, ap, ◌∙◌}
use mathlib.Core.Logic.{⊎_elim, inl, inr}
use mathlib.Core.List.{List}
use lib.ListN.{length, get_or, set, length-set}
use lib.Seq.{get_or-set_same, get_or-set_other}
use Rattle.records.proofs.Cases.{lt_or_le}
use Rattle.slack.specs.Greatest.{larger}
use Rattle.threshold.proofs.fill.raise.Goals as goal
use Rattle.threshold.proofs.fill.raise.Goals.{After-max}
use Rattle.slack.proofs.Greatest.{larger_max}
use Rattle.threshold.proofs.fill.raise.Invariants.{Passed}

passed_more : (w w' : List ℕ) (row : ℕ → ℕ) (at own low high b v : ℕ) → low ≤ b → b ≤ high → at + b < length w' → v ≡ max (get_or w' (at + b) 0) (row b - own)
    → Passed w w' row at own low high b → Passed w (set w' (at + b) v) row at own low high (b + 1)
passed_more w w' row at own low high b v start turn inside e h = record {
  made = λ j p l. ⊎_elim
      (λ d. get_or-set_other w' (at + b) (at + j) v 0 (omega arith) ∙ h.made j p d)
      (λ d.
      let same : j ≡ b = omega arith in
      rw same (get_or-set_same w' (at + b) v 0 inside ∙ e ∙ larger_max _ _ ∙ ap (λ x. larger x (row b - own)) (h.later (at + b) (le_refl _))))
      (lt_or_le j b);
  later = λ j x. get_or-set_other w' (at + b) j v 0 (omega arith) ∙ h.later j (omega arith);
  kept = λ j x. ⊎_elim
      (λ d. get_or-set_other w' (at + b) j v 0 (omega arith) ∙ h.kept j (inl d))
      (λ d. get_or-set_other w' (at + b) j v 0 (omega arith) ∙ h.kept j (inr d))
      x;
}

-- what is left beside a capped body is what is left beside the body
raised : (c : After-max) → Passed c.args.work.now (set c.loop-b.work (c.args.at + c.loop-b.b) c.max.result) (λ j. get_or c.args.left.now (c.args.from + j) 0) c.args.at c.args.own c.args.low c.args.high (c.loop-b.b + 1)
raised c = passed_more _ _ _ _ _ _ _ _ _ (omega arith) (omega arith) (omega arith) (omega (arith, c.type_inv.left (c.args.from + c.loop-b.b))) c.loop-b.invariant

pub loop-b-preserved : goal.loop-b-preserved
loop-b-preserved c = raised (goal.at.loop-b-preserved c).After-max

pub returns-2 : goal.returns-2
returns-2 c =
    let i = raised (goal.at.returns-2 c).After-max in
    record { long = length-set c.loop-b.work _ _ ∙ c.loop-b.auto.work; made = λ b p l. i.made b p (omega arith); kept = i.kept }
