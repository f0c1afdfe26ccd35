-- Bytes that Judge passes say a plan that keeps the rules, and the answer is its figures, for every chain. Test by test: one that fails
-- gives a refusal, whose number is not 0. Assumes nothing.
use mathlib.Core.Path.{◌≡◌, refl, ◌∙◌}
use mathlib.Core.Bool.{Bool, true, false, cond}
use mathlib.Core.List.{List}
use Prim.Native.Nat.{ℕ}
use native.Mathlib.Omega.{arith}
use lib.ListN.{length}
use lib.Dec.{eqb, leb}
use borrow.Author.Tests.{eqb-true, leb-true}
use Rattle.std.specs.Prelude.{Result, Ok, Err}
use Rattle.records.specs.declared.refusal.Refusal.{Refusal}
use Rattle.records.specs.declared.refusal.Refusal.TheVariants.{ShortPlan, BadShape, NoCopies, OverMemory, OverCores, AboveLimit}
use Rattle.records.specs.Refusals.{number_in}
use Rattle.modules.specs.declared.Module.{Module}
use Rattle.modules.specs.Model.{Chain}
use Rattle.layout.specs.Layout.{most_modules, plan_bytes, modules_of}
use Rattle.figures.specs.declared.PlanFigures.{PlanFigures}
use Rattle.figures.specs.Model.{cores_of}
use Rattle.figures.specs.Rules.{covers, keeps_rules}
use Rattle.figures.specs.Plan.{figures_of}
use Rattle.judge.specs.Judge.{shape_fault, first_failing, copies_test, memory_test, limit_test, judged_plan, judged_bytes}
use Rattle.judge.proofs.Faults.{none_fails}
use Rattle.judge.proofs.Passing.{all_allowed}
use Rattle.judge.proofs.Shapes.{shape_plan}

-- where the answer is no refusal, the test holds, and what follows it answers
record Passed (t : Bool) (a x : Result PlanFigures Refusal) : Type 0 where
  pub holds : t ≡ true
  pub same : a ≡ x
  pub number : number_in x ≡ 0

passed_test : (t : Bool) (x y : Result PlanFigures Refusal) → (number_in y ≡ 0 → ⊥) → number_in (cond t x y) ≡ 0 → Passed t (cond t x y) x
passed_test true x y n e = record { holds = refl; same = refl; number = e }
passed_test false x y n e = absurd (n e)

-- the tests of a plan of the right shape
plan_passes : (c : Chain) (ms : List Module) → covers c.tasks 1 ms ≡ true → number_in (judged_plan c ms) ≡ 0 → (keeps_rules c ms ≡ true) × (judged_plan c ms ≡ Ok (figures_of c ms))
unfolding judged_plan keeps_rules
plan_passes c ms h e =
    let copies = first_failing (copies_test c) 1 ms in
    let memory = first_failing (memory_test c) 1 ms in
    let limit = first_failing (limit_test c) 1 ms in
    let t₁ = passed_test (eqb copies 0) _ (Err (NoCopies copies)) (λ z. omega arith) e in
    let t₂ = passed_test (eqb memory 0) _ (Err (OverMemory memory)) (λ z. omega arith) t₁.number in
    let t₃ = passed_test (eqb limit 0) _ (Err (AboveLimit limit)) (λ z. omega arith) t₂.number in
    let t₄ = passed_test (leb (cores_of ms) c.board) (Ok (figures_of c ms)) (Err OverCores) (λ z. omega arith) t₃.number in
    let x = (none_fails (copies_test c) ms).0 (eqb-true copies 0 t₁.holds) in
    let y = (none_fails (memory_test c) ms).0 (eqb-true memory 0 t₂.holds) in
    let z = (none_fails (limit_test c) ms).0 (eqb-true limit 0 t₃.holds) in
    (simp (h, all_allowed c ms x y z, t₄.holds), t₁.same ∙ t₂.same ∙ t₃.same ∙ t₄.same)

pub bytes_pass : (c : Chain) (w : List ℕ) → number_in (judged_bytes c w) ≡ 0
    → (keeps_rules c (modules_of w c.tasks) ≡ true) × (judged_bytes c w ≡ Ok (figures_of c (modules_of w c.tasks)))
unfolding judged_bytes
bytes_pass c w e =
    let ms = modules_of w c.tasks in
    let shape = shape_fault c.tasks w 1 0 most_modules in
    let t₁ = passed_test (leb plan_bytes (length w)) (cond (eqb shape 0) (judged_plan c ms) (Err (BadShape shape))) (Err ShortPlan) (λ z. omega arith) e in
    let t₂ = passed_test (eqb shape 0) (judged_plan c ms) (Err (BadShape shape)) (λ z. omega arith) t₁.number in
    let g = shape_plan c.tasks w (leb-true _ _ t₁.holds) (eqb-true shape 0 t₂.holds) in
    let p = plan_passes c ms g.0 t₂.number in
    (p.0, t₁.same ∙ t₂.same ∙ p.1)
