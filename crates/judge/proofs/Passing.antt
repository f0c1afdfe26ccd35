-- Judge answers exactly what it is to answer, and passes exactly the plans that keep the rules. By the views of its walks.
-- Assumes nothing.
use mathlib.Core.Path.{subst, ◌≡◌, refl, sym, ap, ◌∙◌}
use mathlib.Core.Bool.{Bool, true, false, cond}
use mathlib.Core.List.{List, [], ◌∷◌, ◌++◌}
use mathlib.Core.Logic.{⊎_elim}
use Prim.Native.Nat.{ℕ, zero, suc, ◌+◌, ◌<◌}
use native.Mathlib.Omega.{arith}
use lib.ListN.{length, get_or, drop, take-append-drop}
use lib.Dec.{eqb, leb}
use borrow.Author.Tests.{ne_eqb, le-leb, lt-leb, leb-true, leb-false}
use Rattle.std.specs.Prelude.{Result, Ok, Err}
use Rattle.records.specs.declared.refusal.Refusal.{Refusal}
use Rattle.records.specs.declared.refusal.Refusal.TheVariants.{BadShape, NoCopies, OverMemory, OverCores, AboveLimit}
use Rattle.records.specs.Refusals.{number_in}
use Rattle.records.proofs.Refusing.{goes_on, refused_or_not, number_some}
use Rattle.records.specs.declared.Board.{Board}
use Rattle.records.specs.Costs.{read_costs}
use Rattle.records.proofs.Cases.{true_or_false}
use Rattle.records.proofs.Laws.{accepted_ranges}
use Rattle.modules.specs.declared.Module.{Module}
use Rattle.modules.specs.Model.{Chain, chain_of}
use Rattle.modules.specs.Rules.{module_rules}
use Rattle.layout.specs.Layout.{most_modules, plan_bytes}
use Rattle.figures.specs.declared.PlanFigures.{PlanFigures}
use Rattle.figures.specs.Model.{cores_of}
use Rattle.figures.specs.Rules.{each_allowed, keeps_rules}
use Rattle.figures.specs.Plan.{figures_of}
use Rattle.figures.proofs.Kept.{allowed_head, keeps_parts}
use Rattle.figures.proofs.Served.{Served, Served.fills, served_refusal}
use Rattle.judge.specs.Judge.{shape_fault, first_failing, copies_test, memory_test, limit_test, judged_plan, judged_bytes, judged}
use Rattle.judge.specs.Claims.{RightShape, no_module, AllPass, FailsAt, Readable, chain, plan, Judges, Judges.costs_wrong, Judges.bytes_short, Judges.shape_wrong, Judges.copies_wrong, Judges.memory_wrong, Judges.limit_wrong, Judges.cores_wrong, Judges.passed, Passes}
use Rattle.judge.proofs.Faults.{Shaped, Shaped.right, Shaped.wrong, shaped, shaped_one, Failing, Failing.none, Failing.first, pass_rest, failing, failing_one}
use Rattle.judge.proofs.Shapes.{shape_plan, plan_shape}

-- ---- what a plan keeps, module by module

module _ (c : Chain) where
  pub all_allowed : (ms : List Module) → AllPass (copies_test c) ms → AllPass (memory_test c) ms → AllPass (limit_test c) ms → each_allowed c ms ≡ true
  unfolding each_allowed module_rules
  all_allowed [] x y z = refl
  all_allowed (m ∷ ms) x y z =
      simp (
        x.passes 0 (omega arith),
        y.passes 0 (omega arith),
        z.passes 0 (omega arith),
        all_allowed ms (pass_rest (copies_test c) m ms x) (pass_rest (memory_test c) m ms y) (pass_rest (limit_test c) m ms z),
      )

  allowed_all : (ms : List Module) → each_allowed c ms ≡ true → (i : ℕ) → i < length ms
      → (copies_test c (get_or ms i no_module) ≡ true) × (memory_test c (get_or ms i no_module) ≡ true) × (limit_test c (get_or ms i no_module) ≡ true)
  allowed_all [] e i l = absurd (omega arith)
  allowed_all (m ∷ ms) e zero l = let h = allowed_head c m ms e in (h.0, h.1, h.2)
  allowed_all (m ∷ ms) e (suc i) l = allowed_all ms (allowed_head c m ms e).3 i (omega arith)

-- ---- what Judge answers is to be answered

module _ (s w : List ℕ) where
  k : ℕ
  k = (chain s w).tasks

  -- what is answered from the last test on, and from each test before it
  by_cores : Result PlanFigures Refusal
  by_cores = cond (leb (cores_of (plan s w)) (chain s w).board) (Ok (figures_of (chain s w) (plan s w))) (Err OverCores)

  by_limit : ℕ → Result PlanFigures Refusal
  unfolding by_cores
  by_limit z = cond (eqb z 0) by_cores (Err (AboveLimit z))

  by_memory : ℕ → ℕ → Result PlanFigures Refusal
  unfolding by_limit
  by_memory y z = cond (eqb y 0) (by_limit z) (Err (OverMemory y))

  by_copies : ℕ → ℕ → ℕ → Result PlanFigures Refusal
  unfolding by_memory
  by_copies x y z = cond (eqb x 0) (by_memory y z) (Err (NoCopies x))

  module _ (r : Readable s w) (g : RightShape k w) where
    cores_judges : AllPass (copies_test (chain s w)) (plan s w) → AllPass (memory_test (chain s w)) (plan s w) → AllPass (limit_test (chain s w)) (plan s w) → Judges s w by_cores
    unfolding by_cores k
    cores_judges x y z = ⊎_elim
        (λ (t : leb (cores_of (plan s w)) (chain s w).board ≡ true). rw t (passed r g x y z (leb-true _ _ t)))
        (λ (t : leb (cores_of (plan s w)) (chain s w).board ≡ false). rw t (cores_wrong r g x y z (leb-false _ _ t)))
        (true_or_false (leb (cores_of (plan s w)) (chain s w).board))

    limit_judges : AllPass (copies_test (chain s w)) (plan s w) → AllPass (memory_test (chain s w)) (plan s w) → (z : ℕ) → Failing (limit_test (chain s w)) (plan s w) 1 z
        → Judges s w (by_limit z)
    unfolding by_limit k
    limit_judges x y z (none h) = cores_judges x y h
    limit_judges x y z (first i h) = let e : 1 + i ≡ i + 1 = omega arith in rw e (simp (ne_eqb (i + 1) 0 (λ o. omega arith)) (limit_wrong r g x y i h))

    memory_judges : AllPass (copies_test (chain s w)) (plan s w) → (y : ℕ) → Failing (memory_test (chain s w)) (plan s w) 1 y
        → (z : ℕ) → Failing (limit_test (chain s w)) (plan s w) 1 z → Judges s w (by_memory y z)
    unfolding by_memory k
    memory_judges x y (none h) z v = limit_judges x h z v
    memory_judges x y (first i h) z v = let e : 1 + i ≡ i + 1 = omega arith in rw e (simp (ne_eqb (i + 1) 0 (λ o. omega arith)) (memory_wrong r g x i h))

    copies_judges : (x : ℕ) → Failing (copies_test (chain s w)) (plan s w) 1 x → (y : ℕ) → Failing (memory_test (chain s w)) (plan s w) 1 y
        → (z : ℕ) → Failing (limit_test (chain s w)) (plan s w) 1 z → Judges s w (by_copies x y z)
    unfolding by_copies k
    copies_judges x (none h) y u z v = memory_judges h y u z v
    copies_judges x (first i h) y u z v = let e : 1 + i ≡ i + 1 = omega arith in rw e (simp (ne_eqb (i + 1) 0 (λ o. omega arith)) (copies_wrong r g i h))

  shape_judges : Readable s w → (a : ℕ) → Shaped k w a → Judges s w (cond (eqb a 0) (judged_plan (chain s w) (plan s w)) (Err (BadShape a)))
  unfolding judged_plan by_copies by_memory by_limit by_cores k
  shape_judges r a (right g) =
      copies_judges r g _ (failing (copies_test (chain s w)) (plan s w) 1) _ (failing (memory_test (chain s w)) (plan s w) 1) _ (failing (limit_test (chain s w)) (plan s w) 1)
  shape_judges r a (wrong i g) = simp (ne_eqb (i + 1) 0 (λ z. omega arith)) (shape_wrong r i g)

  pub judge_finds : Judges s w (judged s w)
  unfolding judged judged_bytes k
  judge_finds = ⊎_elim
      (λ (t : (b : Board) × (read_costs s ≡ Ok b)).
      let e : number_in (read_costs s) ≡ 0 = rw t.1 in
      let b = (accepted_ranges s e).0 in
      ⊎_elim
      (λ (u : leb plan_bytes (length w) ≡ true).
      let r : Readable s w = record { accepted = e; long = leb-true _ _ u } in
      subst (Judges s w) (sym (goes_on (λ b. judged_bytes (chain_of s b) w) (read_costs s) e ∙ rw u)) (shape_judges r _ (shaped k w b.some_tasks b.tasks_most)))
      (λ (u : leb plan_bytes (length w) ≡ false). subst (Judges s w) (sym (goes_on (λ b. judged_bytes (chain_of s b) w) (read_costs s) e ∙ rw u)) (bytes_short e (leb-false _ _ u)))
      (true_or_false (leb plan_bytes (length w))))
      (λ (t : (e : Refusal) × (read_costs s ≡ Err e)). subst (Judges s w) (sym (rw t.1)) (costs_wrong t.0 t.1))
      (refused_or_not (read_costs s))

  -- ---- what is to be answered, Judge answers

  shape_value : Readable s w → (a : ℕ) → Shaped k w a → shape_fault k w 1 0 most_modules ≡ a
  unfolding k
  shape_value r a g = let b = (accepted_ranges s r.accepted).0 in shaped_one k w _ a (shaped k w b.some_tasks b.tasks_most) g

  failing_value : (f : Module → Bool) (a : ℕ) → Failing f (plan s w) 1 a → first_failing f 1 (plan s w) ≡ a
  failing_value f a g = failing_one f (plan s w) 1 _ a (failing f (plan s w) 1) g

  fails_value : (f : Module → Bool) (i : ℕ) → FailsAt f (plan s w) i → first_failing f 1 (plan s w) ≡ i + 1
  fails_value f i g = failing_value f (1 + i) (first i g) ∙ omega arith

  unread : {e : Refusal} → read_costs s ≡ Err e → judged s w ≡ Err e
  unfolding judged
  unread h = simp h

  follows : number_in (read_costs s) ≡ 0 → judged s w ≡ judged_bytes (chain s w) w
  unfolding judged
  follows e = goes_on (λ b. judged_bytes (chain_of s b) w) (read_costs s) e

  pub judge_only : (a : Result PlanFigures Refusal) → Judges s w a → judged s w ≡ a
  unfolding judged_bytes judged_plan k
  judge_only a (costs_wrong e h) = unread h
  judge_only a (bytes_short e l) = follows e ∙ simp (lt-leb plan_bytes (length w) l)
  judge_only a (shape_wrong r i g) =
      follows r.accepted ∙ simp (le-leb plan_bytes (length w) r.long, shape_value r (i + 1) (wrong i g), ne_eqb (i + 1) 0 (λ z. omega arith))
  judge_only a (copies_wrong r g i h) =
      follows r.accepted ∙ simp (
        le-leb plan_bytes (length w) r.long,
        shape_value r 0 (right g),
        fails_value (copies_test (chain s w)) i h,
        ne_eqb (i + 1) 0 (λ z. omega arith),
      )
  judge_only a (memory_wrong r g x i h) =
      follows r.accepted ∙ simp (
        le-leb plan_bytes (length w) r.long,
        shape_value r 0 (right g),
        failing_value (copies_test (chain s w)) 0 (none x),
        fails_value (memory_test (chain s w)) i h,
        ne_eqb (i + 1) 0 (λ z. omega arith),
      )
  judge_only a (limit_wrong r g x y i h) =
      follows r.accepted ∙ simp (
        le-leb plan_bytes (length w) r.long,
        shape_value r 0 (right g),
        failing_value (copies_test (chain s w)) 0 (none x),
        failing_value (memory_test (chain s w)) 0 (none y),
        fails_value (limit_test (chain s w)) i h,
        ne_eqb (i + 1) 0 (λ z. omega arith),
      )
  judge_only a (cores_wrong r g x y z l) =
      follows r.accepted ∙ simp (
        le-leb plan_bytes (length w) r.long,
        shape_value r 0 (right g),
        failing_value (copies_test (chain s w)) 0 (none x),
        failing_value (memory_test (chain s w)) 0 (none y),
        failing_value (limit_test (chain s w)) 0 (none z),
        lt-leb (cores_of (plan s w)) (chain s w).board l,
      )
  judge_only a (passed r g x y z l) =
      follows r.accepted ∙ simp (
        le-leb plan_bytes (length w) r.long,
        shape_value r 0 (right g),
        failing_value (copies_test (chain s w)) 0 (none x),
        failing_value (memory_test (chain s w)) 0 (none y),
        failing_value (limit_test (chain s w)) 0 (none z),
        le-leb (cores_of (plan s w)) (chain s w).board l,
      )

  -- ---- passed exactly where the bytes are a plan's that keeps the rules

  right_of : (a : ℕ) → Shaped k w a → a ≡ 0 → RightShape k w
  right_of a (right g) e = g
  right_of a (wrong i g) e = absurd (omega arith)

  passes_judges : (p : Passes s w) → Judges s w (Ok (figures_of (chain s w) p.modules))
  unfolding k
  passes_judges p =
      let r = p.readable in
      let b = (accepted_ranges s r.accepted).0 in
      let h = keeps_parts (chain s w) p.modules p.keeps in
      let g = plan_shape k w r.long p.modules b.some_tasks b.tasks_most h.0 p.bytes in
      rw (← g.1)
      (passed r (right_of _ (shaped k w b.some_tasks b.tasks_most) g.0)
      (record { passes = λ i l. rw g.1 (allowed_all (chain s w) p.modules h.1 i (rw g.1 at l)).0 })
      (record { passes = λ i l. rw g.1 (allowed_all (chain s w) p.modules h.1 i (rw g.1 at l)).1 })
      (record { passes = λ i l. rw g.1 (allowed_all (chain s w) p.modules h.1 i (rw g.1 at l)).2 })
      (rw g.1 h.2))

  judges_passes : (a : Result PlanFigures Refusal) → Judges s w a → number_in a ≡ 0 → Passes s w
  unfolding keeps_rules k
  judges_passes a (costs_wrong x h) e = absurd (number_some x e)
  judges_passes a (bytes_short d l) e = absurd (omega arith)
  judges_passes a (shape_wrong r i g) e = absurd (omega arith)
  judges_passes a (copies_wrong r g i h) e = absurd (omega arith)
  judges_passes a (memory_wrong r g x i h) e = absurd (omega arith)
  judges_passes a (limit_wrong r g x y i h) e = absurd (omega arith)
  judges_passes a (cores_wrong r g x y z l) e = absurd (omega arith)
  judges_passes a (passed r g x y z l) e =
      let h = shape_plan k w r.long (shape_value r 0 (right g)) in
      record {
        readable = r;
        modules = plan s w;
        bytes = h.1;
        keeps = simp (h.0, all_allowed (chain s w) (plan s w) x y z, le-leb (cores_of (plan s w)) (chain s w).board l);
      }

  pub number_passes : number_in (judged s w) ≡ 0 → Passes s w
  number_passes e = judges_passes (judged s w) judge_finds e

  pub passes_figures : (p : Passes s w) → judged s w ≡ Ok (figures_of (chain s w) p.modules)
  passes_figures p = judge_only (Ok (figures_of (chain s w) p.modules)) (passes_judges p)

  pub passes_number : Passes s w → number_in (judged s w) ≡ 0
  unfolding figures_of
  passes_number p = ap (λ (a : Result PlanFigures Refusal). number_in a) (passes_figures p)

  -- ---- a plan's bytes that are passed stand before what lies behind them, and a refusal has zero figures

  judges_served : (a : Result PlanFigures Refusal) → judged s w ≡ a → Judges s w a → Served a w w
  unfolding figures_of
  judges_served a d (costs_wrong e h) = served_refusal refl refl
  judges_served a d (bytes_short e l) = served_refusal refl refl
  judges_served a d (shape_wrong r i g) = served_refusal refl refl
  judges_served a d (copies_wrong r g i h) = served_refusal refl refl
  judges_served a d (memory_wrong r g x i h) = served_refusal refl refl
  judges_served a d (limit_wrong r g x y i h) = served_refusal refl refl
  judges_served a d (cores_wrong r g x y z l) = served_refusal refl refl
  judges_served a d (passed r g x y z l) =
      let p = number_passes (ap (λ (b : Result PlanFigures Refusal). number_in b) d) in
      fills refl p.modules (sym (take-append-drop plan_bytes w) ∙ ap (λ (v : List ℕ). v ++ drop plan_bytes w) (sym p.bytes))

  pub judge_served : Served (judged s w) w w
  judge_served = judges_served (judged s w) refl judge_finds
