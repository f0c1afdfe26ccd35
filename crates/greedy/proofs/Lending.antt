-- What the Bench way does with lent plan bytes: refusal by refusal, and where it fills in a plan. Assumes nothing.
use mathlib.Core.Path.{◌≡◌, sym, ap, ◌∙◌}
use mathlib.Core.List.{List}
use mathlib.Core.Logic.{⊎_elim}
use Prim.Native.Nat.{ℕ, ◌-◌, ◌^◌}
use lib.ListN.{length, take}
use Rattle.std.specs.Prelude.{Result, Ok, Err}
use Rattle.records.specs.declared.Board.{Board}
use Rattle.records.specs.declared.refusal.Refusal.{Refusal}
use Rattle.records.specs.Refusals.{number_in}
use Rattle.records.specs.Costs.{read_costs}
use Rattle.records.proofs.Refusing.{refused_or_not}
use Rattle.records.proofs.Cases.{lt_or_le, true_or_false}
use Rattle.layout.specs.Layout.{plan_bytes}
use Rattle.figures.specs.declared.PlanFigures.{PlanFigures}
use Rattle.figures.proofs.Served.{Served, Served.fills, served_refusal, bytes_first}
use Rattle.judge.specs.Claims.{Readable, chain}
use Rattle.greedy.specs.Greedy.{start_fits, greedy_plan, greedy_answer, greedy_bytes}
use Rattle.greedy.proofs.Answering.{answer_costs, answer_short, answer_on_lem, on_grouping, on_unfit, on_plan, bytes_kept, bytes_filled, readable, answer_bytes}

module _ (s w : List ℕ) (g : ℕ) where
  read_served : Readable s w → Served (greedy_answer s g w) w (greedy_bytes s g w)
  read_served r =
      let c = chain s w in
      let on = answer_on_lem s w g r in
      ⊎_elim
      (λ h. ⊎_elim
      (λ l. let e = on_plan c g h l in fills (ap (λ (a : Result PlanFigures Refusal). number_in a) (on.0 ∙ e)) (greedy_plan c g) (on.1 ∙ bytes_filled c g w e))
      (λ l. let e = on_unfit c g h l in served_refusal (on.0 ∙ e) (on.1 ∙ bytes_kept c g w e))
      (true_or_false (start_fits c g)))
      (λ h. let e = on_grouping c g h in served_refusal (on.0 ∙ e) (on.1 ∙ bytes_kept c g w e))
      (lt_or_le g (2 ^ (c.tasks - 1)))

  pub greedy_served : Served (greedy_answer s g w) w (greedy_bytes s g w)
  greedy_served = ⊎_elim
      (λ (t : (b : Board) × (read_costs s ≡ Ok b)).
      let e : number_in (read_costs s) ≡ 0 = rw t.1 in
      ⊎_elim
      (λ l. let a = answer_short s w g e l in served_refusal a.0 a.1)
      (λ l. read_served (record { accepted = e; long = l }))
      (lt_or_le (length w) plan_bytes))
      (λ (t : (e : Refusal) × (read_costs s ≡ Err e)). let a = answer_costs s w g t.1 in served_refusal a.0 a.1)
      (refused_or_not (read_costs s))

  -- only the length of what was lent counts
  module _ (w' : List ℕ) (same : length w ≡ length w') where
    pub greedy_same : greedy_answer s g w ≡ greedy_answer s g w'
    unfolding greedy_answer
    greedy_same = rw same

    pub plan_same : number_in (greedy_answer s g w) ≡ 0 → take plan_bytes (greedy_bytes s g w) ≡ take plan_bytes (greedy_bytes s g w')
    plan_same z =
        let z' = ap (λ (a : Result PlanFigures Refusal). number_in a) (sym greedy_same) ∙ z in
        let a = bytes_first (greedy_plan (chain s w) g) w (answer_bytes s w g (readable s w g z) z) in
        let b = bytes_first (greedy_plan (chain s w') g) w' (answer_bytes s w' g (readable s w' g z') z') in
        a ∙ sym b
