-- The threshold of a plan that Judge passes: the plan is within it. By Judge's figures of what it passes, and by the threshold of their
-- response. Assumes nothing.
use mathlib.Core.Path.{◌≡◌, sym, subst, ◌∙◌}
use mathlib.Core.List.{List}
use Prim.Native.Nat.{ℕ, ◌*◌, ◌≤◌}
use native.Mathlib.Omega.{arith}
use Rattle.modules.specs.Model.{Chain}
use Rattle.layout.specs.Layout.{modules_of}
use Rattle.std.specs.Prelude.{Ok}
use Rattle.records.proofs.Cases.{same_value}
use Rattle.figures.specs.declared.PlanFigures.{PlanFigures}
use Rattle.figures.specs.Plan.{figures_of}
use Rattle.judge.specs.Judge.{judged_bytes}
use Rattle.judge.proofs.Laws.{bytes_pass}
use Rattle.slack.specs.Problem.{grain, top_threshold, SomeWithin}
use Rattle.slack.proofs.Judged.{judged_found, judged_copies}
use Rattle.guess.specs.Guess.{threshold_of}
use Rattle.guess.proofs.Laws.{threshold_reaches}

module _ (c : Chain) (some : 1 ≤ c.tasks) where
  -- bytes that Judge passes are a plan within the threshold of its answer's response, where that is up to the greatest
  pub judged_within : (w : List ℕ) {f : PlanFigures} {r : ℕ} → judged_bytes c w ≡ Ok f → r ≡ threshold_of f.response f.copies → r ≤ top_threshold
      → SomeWithin c r
  unfolding figures_of
  judged_within w {f} {r} e t h =
      let p = bytes_pass c w (rw e) in
      let ms = modules_of w c.tasks in
      let same : f ≡ figures_of c ms = same_value (sym e ∙ p.1) in
      let copied : 1 ≤ f.copies = subst (λ (x : PlanFigures). 1 ≤ x.copies) (sym same) (judged_copies c some ms p.0) in
      let low : threshold_of f.response f.copies ≤ top_threshold = omega arith in
      let reached : f.response * grain ≤ r * f.copies = rw t (threshold_reaches f.response f.copies copied low) in
      judged_found c some ms p.0 r (subst (λ (x : PlanFigures). x.response * grain ≤ r * x.copies) same reached)
