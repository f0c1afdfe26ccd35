-- What Best plan does with lent plan bytes and a lent work area: before a search it refuses with 1 to 8 and writes nothing, and a search
-- ends with a plan or with refusal 9. Assumes nothing.
use mathlib.Core.Path.{◌≡◌, refl, sym, ap, ◌∙◌}
use mathlib.Core.Bool.{true, false}
use mathlib.Core.List.{List}
use mathlib.Core.Logic.{◌⊎◌, inl, inr, ⊎_elim}
use mathlib.Core.Option.{Option, none, some}
use Prim.Native.Nat.{ℕ, ◌≤◌}
use native.Mathlib.Omega.{arith}
use lib.ListN.{length, take, replicate}
use lib.Dec.{leb}
use Rattle.std.specs.Prelude.{Result, Ok, Err}
use Rattle.records.specs.declared.refusal.Refusal.{Refusal}
use Rattle.records.specs.declared.refusal.Refusal.TheVariants.{ShortPlan, ShortWork}
use Rattle.records.specs.Refusals.{number_of as number_for, number_in}
use Rattle.records.proofs.Refusing.{refused_or_not, number_some, then_same}
use Rattle.records.specs.declared.Board.{Board}
use Rattle.records.specs.Costs.{read_costs}
use Rattle.records.proofs.Cases.{true_or_false, true_not_false}
use Rattle.records.proofs.Laws.{refused_most}
use Rattle.modules.specs.declared.Module.{Module}
use Rattle.layout.specs.Layout.{plan_bytes}
use Rattle.figures.specs.declared.PlanFigures.{PlanFigures}
use Rattle.figures.specs.Plan.{figures_of}
use Rattle.figures.proofs.Served.{Served, Served.fills, served_refusal, bytes_first}
use Rattle.planners.specs.Best.{work_words, best_plan, found_answer, found_bytes, begins, answer_on, best_answer, best_bytes, best_work}
use Rattle.judge.specs.Claims.{chain}
use Rattle.planners.proofs.Outcomes.{Outcome, Outcome.without_plan, Outcome.plan, outcome, number_of, answer_is, bytes_are}

-- a refusal before any search
record Unbegun (s w work : List ℕ) : Type 0 where
  refused : Refusal
  most : number_for refused ≤ 8
  answer : best_answer s w work ≡ Err refused

module _ (s w work : List ℕ) where
  unbegun : begins s w work ≡ false → Unbegun s w work
  unfolding begins answer_on best_answer
  unbegun e = ⊎_elim
      (λ (t : (b : Board) × (read_costs s ≡ Ok b)). ⊎_elim
      (λ (u : leb plan_bytes (length w) ≡ true). ⊎_elim
      (λ (v : leb work_words (length work) ≡ true). true_not_false _ (rw (t.1, u, v) (refl)) e)
      (λ (v : leb work_words (length work) ≡ false). record { refused = ShortWork; most = omega arith; answer = simp (t.1, u, v) })
      (true_or_false (leb work_words (length work))))
      (λ (u : leb plan_bytes (length w) ≡ false). record { refused = ShortPlan; most = omega arith; answer = simp (t.1, u) })
      (true_or_false (leb plan_bytes (length w))))
      (λ (t : (x : Refusal) × (read_costs s ≡ Err x)).
      let m : number_for t.0 ≤ 6 = rw t.1 at (refused_most s) in
      record { refused = t.0; most = omega arith; answer = simp t.1 })
      (refused_or_not (read_costs s))

  -- the answer's number tells whether a search has begun: 0 and 9 come of one, and nothing else does
  begun_number : begins s w work ≡ true → (number_in (best_answer s w work) ≡ 0) ⊎ (number_in (best_answer s w work) ≡ 9)
  begun_number b = of (outcome s w work b)
    where
      of : Outcome s w work b → (number_in (best_answer s w work) ≡ 0) ⊎ (number_in (best_answer s w work) ≡ 9)
      of (without_plan e n) = inr (ap (λ (a : Result PlanFigures Refusal). number_in a) e)
      of (plan a f) = inl (number_of s w work b a f)

  unbegun_number : begins s w work ≡ false → (number_in (best_answer s w work) ≡ 0 → ⊥) × (number_in (best_answer s w work) ≡ 9 → ⊥)
  unbegun_number b =
      let u = unbegun b in
      let n : number_in (best_answer s w work) ≡ number_for u.refused = ap (λ (a : Result PlanFigures Refusal). number_in a) u.answer in
      (λ z. number_some u.refused (sym n ∙ z), λ z. omega (arith, u.most))

  pub number_begun : number_in (best_answer s w work) ≡ 0 → begins s w work ≡ true
  number_begun z = ⊎_elim (λ b. b) (λ b. absurd ((unbegun_number b).0 z)) (true_or_false (begins s w work))

  -- ---- plan bytes

  found_served : begins s w work ≡ true → (o : Option (List Module)) → best_plan (chain s w) ≡ o → Served (best_answer s w work) w (best_bytes s w work)
  unfolding found_answer found_bytes figures_of
  found_served b none e = served_refusal (answer_is s w work b ∙ ap (found_answer (chain s w)) e) (bytes_are s w work b ∙ ap (λ (o : Option (List Module)). found_bytes o w) e)
  found_served b (some ms) e =
      fills (ap (λ (a : Result PlanFigures Refusal). number_in a) (answer_is s w work b ∙ ap (found_answer (chain s w)) e)) ms (bytes_are s w work b ∙ ap (λ (o : Option (List Module)). found_bytes o w) e)

  pub best_served : Served (best_answer s w work) w (best_bytes s w work)
  unfolding best_bytes
  best_served = ⊎_elim
      (λ (b : begins s w work ≡ true). found_served b (best_plan (chain s w)) refl)
      (λ (b : begins s w work ≡ false). let u = unbegun b in served_refusal u.answer (rw b))
      (true_or_false (begins s w work))

  -- ---- the work area

  pub work_kept : (number_in (best_answer s w work) ≡ 0 → ⊥) → (number_in (best_answer s w work) ≡ 9 → ⊥) → best_work s w work ≡ work
  unfolding best_work
  work_kept m n = ⊎_elim
      (λ (b : begins s w work ≡ true). absurd (⊎_elim m n (begun_number b)))
      (λ (b : begins s w work ≡ false). rw b)
      (true_or_false (begins s w work))

  pub work_zero : (number_in (best_answer s w work) ≡ 0) ⊎ (number_in (best_answer s w work) ≡ 9) → best_work s w work ≡ replicate (length work) 0
  unfolding best_work
  work_zero z = ⊎_elim
      (λ (b : begins s w work ≡ true). rw b)
      (λ (b : begins s w work ≡ false). let u = unbegun_number b in absurd (⊎_elim u.0 u.1 z))
      (true_or_false (begins s w work))

  -- ---- only the lengths of what was lent count

  module _ (w' work' : List ℕ) (same : length w ≡ length w') (same_work : length work ≡ length work') where
    begins_same : begins s w work ≡ begins s w' work'
    unfolding begins
    begins_same = rw (same, same_work)

    pub best_same : best_answer s w work ≡ best_answer s w' work'
    unfolding answer_on best_answer
    best_same = then_same (λ b. rw (same, same_work) refl) (read_costs s)

    found_same : begins s w work ≡ true → number_in (best_answer s w work) ≡ 0 → (o : Option (List Module)) → best_plan (chain s w) ≡ o
        → take plan_bytes (best_bytes s w work) ≡ take plan_bytes (best_bytes s w' work')
    unfolding found_answer found_bytes
    found_same b z none e = absurd (omega (arith, sym z ∙ ap (λ (a : Result PlanFigures Refusal). number_in a) (answer_is s w work b ∙ ap (found_answer (chain s w)) e)))
    found_same b z (some ms) e =
        let bytes = ap (λ (o : Option (List Module)). found_bytes o w) e in
        let bytes' = ap (λ (o : Option (List Module)). found_bytes o w') e in
        bytes_first ms w (bytes_are s w work b ∙ bytes) ∙ sym (bytes_first ms w' (bytes_are s w' work' (sym begins_same ∙ b) ∙ bytes'))

    pub plan_same : number_in (best_answer s w work) ≡ 0 → take plan_bytes (best_bytes s w work) ≡ take plan_bytes (best_bytes s w' work')
    plan_same z = found_same (number_begun z) z (best_plan (chain s w)) refl
