-- The service's answers, each under its condition, and the plan bytes that go with them. Assumes nothing.
use mathlib.Core.Path.{◌≡◌, sym, ap, ◌∙◌}
use mathlib.Core.Bool.{true, false, cond}
use mathlib.Core.List.{List, ◌++◌}
use mathlib.Core.Logic.{◌↔◌, ◌⊎◌, inl, inr, ⊎_elim}
use Prim.Native.Nat.{ℕ, ◌-◌, ◌^◌, ◌≤◌, ◌<◌}
use native.Mathlib.Omega.{arith}
use lib.ListN.{length, drop, length-append}
use lib.Seq.{take_at}
use lib.Dec.{eqb, leb}
use borrow.Author.Tests.{eq-eqb, ne_eqb, le-leb, lt-leb, lt-ltb, le-ltb, eqb-true}
use Rattle.std.specs.Prelude.{Option, is_some, Result, Ok, Err}
use Rattle.records.specs.declared.Board.{Board}
use Rattle.records.specs.declared.refusal.Refusal.{Refusal}
use Rattle.records.specs.declared.refusal.Refusal.TheVariants.{ShortPlan, NoGrouping, NoStart}
use Rattle.records.specs.Refusals.{number_in}
use Rattle.records.specs.Costs.{read_costs}
use Rattle.records.proofs.Refusing.{refused_or_not, refused_some, goes_on}
use Rattle.records.proofs.Cases.{lt_or_le, true_or_false, true_not_false, false_unless}
use Rattle.records.proofs.Laws.{accepted_ranges}
use Rattle.modules.specs.declared.Module.{Module}
use Rattle.modules.specs.Model.{Chain, chain_of}
use Rattle.modules.proofs.Laws.{over_exactly}
use Rattle.layout.specs.Layout.{most_modules, plan_bytes, modules_of, encode_plan}
use Rattle.layout.proofs.Placing.{encode_length}
use Rattle.figures.specs.declared.PlanFigures.{PlanFigures}
use Rattle.figures.specs.Model.{cores_of}
use Rattle.figures.specs.Plan.{figures_of}
use Rattle.figures.proofs.Kept.{keeps_parts}
use Rattle.figures.proofs.Decoding.{decode_encode}
use Rattle.judge.specs.Judge.{first_failing, limit_test, at_place, judged}
use Rattle.judge.specs.Claims.{Readable, chain}
use Rattle.judge.proofs.Laws.{judge_figures, none_fails, first_fails}
use Rattle.greedy.specs.Greedy.{start, greedy_from, greedy_plan, OverLimit, start_fits, greedy_on, greedy_answer, greedy_bytes_on, greedy_bytes}
use Rattle.greedy.proofs.Keeping.{fits_parts, plan_keeps}

abbrev number : Result PlanFigures Refusal → ℕ
number a = number_in a

-- ---- a place that is there, and none

pub place_some : (n : ℕ) {r : Option ℕ} → r ≡ at_place n → is_some r ≡ true → n ≡ 0 → ⊥
place_some n e t z = true_not_false (is_some (at_place n)) (rw e at t) (simp (eq-eqb n 0 z))

pub place_none : (n : ℕ) {r : Option ℕ} → r ≡ at_place n → is_some r ≡ false → n ≡ 0
place_none n e t = ⊎_elim
    (λ f. eqb-true n 0 f)
    (λ (f : eqb n 0 ≡ false). true_not_false (is_some (at_place n)) (simp f) (rw e at t))
    (true_or_false (eqb n 0))

-- ---- on an accepted board

module _ (c : Chain) (g : ℕ) where
  pub on_grouping : 2 ^ (c.tasks - 1) ≤ g → greedy_on c g ≡ Err NoGrouping
  unfolding greedy_on
  on_grouping h = simp (le-ltb g (2 ^ (c.tasks - 1)) h)

  module _ (h : g < 2 ^ (c.tasks - 1)) where
    pub on_unfit : start_fits c g ≡ false → greedy_on c g ≡ Err NoStart
    unfolding greedy_on
    on_unfit l = simp (lt-ltb g (2 ^ (c.tasks - 1)) h, l)

    pub on_plan : start_fits c g ≡ true → greedy_on c g ≡ Ok (figures_of c (greedy_plan c g))
    unfolding greedy_on
    on_plan l = simp (lt-ltb g (2 ^ (c.tasks - 1)) h, l)

  -- the two ways in which the start does not fit, and no other
  pub unfit_cores : c.board < cores_of (start c g) → start_fits c g ≡ false
  unfit_cores l = false_unless (start_fits c g) (λ e. (fits_parts c g e).0) (λ h. omega arith)

  pub unfit_limit : OverLimit c (start c g) → start_fits c g ≡ false
  unfit_limit o = false_unless (start_fits c g) (λ e. (fits_parts c g e).1) (λ a.
      true_not_false _ (a.passes o.at o.there) ((over_exactly c _ _ _).1 (o.limited, o.exceeds)))

  pub unfit_first : {x : ℕ} {ms : List Module} → x ≡ first_failing (limit_test c) 1 ms → ms ≡ start c g → (x ≡ 0 → ⊥) → start_fits c g ≡ false
  unfit_first e f n = false_unless (start_fits c g) (λ t. (fits_parts c g t).1) (λ a. n (e ∙ rw f ((none_fails (limit_test c) (start c g)).1 a)))

  pub unfit_why : start_fits c g ≡ false → (c.board < cores_of (start c g)) ⊎ OverLimit c (start c g)
  unfolding start_fits
  unfit_why e = ⊎_elim inl (λ l. inr (over (λ z.
      true_not_false (start_fits c g) (simp (le-leb (cores_of (start c g)) c.board l, eq-eqb (first_failing (limit_test c) 1 (start c g)) 0 z)) e)))
      (lt_or_le c.board (cores_of (start c g)))
    where
      over : (first_failing (limit_test c) 1 (start c g) ≡ 0 → ⊥) → OverLimit c (start c g)
      over n =
          let i = first_failing (limit_test c) 1 (start c g) - 1 in
          let h = (first_fails (limit_test c) (start c g) i).0 (⊎_elim (λ l. absurd (n (omega arith))) (λ l. omega arith) (lt_or_le (first_failing (limit_test c) 1 (start c g)) 1)) in
          let d = (over_exactly c _ _ _).0 h.fails in
          record { at = i; there = h.there; limited = d.0; exceeds = d.1 }

  -- what is neither fits
  pub fits_unless : cores_of (start c g) ≤ c.board → (OverLimit c (start c g) → ⊥) → start_fits c g ≡ true
  fits_unless l n = ⊎_elim (λ t. t) (λ t. absurd (⊎_elim (λ h. omega arith) n (unfit_why t))) (true_or_false (start_fits c g))

  pub bytes_kept : (w : List ℕ) {e : Refusal} → greedy_on c g ≡ Err e → greedy_bytes_on c g w ≡ w
  unfolding greedy_bytes_on
  bytes_kept w d = simp (ne_eqb (number_in (greedy_on c g)) 0 (refused_some d))

  pub bytes_filled : (w : List ℕ) → greedy_on c g ≡ Ok (figures_of c (greedy_plan c g)) → greedy_bytes_on c g w ≡ encode_plan (greedy_plan c g) ++ drop plan_bytes w
  unfolding greedy_bytes_on
  bytes_filled w d = simp (eq-eqb (number_in (greedy_on c g)) 0 (ap number d))

  -- the plan that the walk ends with, its bytes and its figures, each as the code has it
  pub on_walk : g < 2 ^ (c.tasks - 1) → (w : List ℕ) {best v : List ℕ} {sum : ℕ} {ms : List Module} {a : PlanFigures} → 1 ≤ c.tasks → c.tasks ≤ most_modules → sum ≤ c.board
      → sum ≡ cores_of (start c g) → first_failing (limit_test c) 1 ms ≡ 0 → ms ≡ start c g → best ≡ encode_plan (greedy_from c (c.board - sum) ms ms)
      → v ≡ best ++ drop plan_bytes w → a ≡ figures_of c (modules_of best c.tasks) → (Ok a ≡ greedy_on c g) × (v ≡ greedy_bytes_on c g w)
  unfolding greedy_plan start_fits
  on_walk h w {best = best} m n l e o f b v a =
      let plan = greedy_plan c g in
      let fits : start_fits c g ≡ true = simp (le-leb (cores_of (start c g)) c.board (omega arith), eq-eqb (first_failing (limit_test c) 1 (start c g)) 0 (rw f at o)) in
      let bytes : best ≡ encode_plan plan = b ∙ rw (f, e) in
      let covered = (keeps_parts c plan (plan_keeps c g m fits)).0 in
      let says = ap (λ (x : List ℕ). modules_of x c.tasks) bytes ∙ decode_encode c.tasks plan m n covered in
      let on = on_plan h fits in
      (rw (a ∙ ap (figures_of c) says) (sym on), v ∙ ap (λ (x : List ℕ). x ++ drop plan_bytes w) bytes ∙ sym (bytes_filled w on))

-- ---- on any costs and plan bytes

module _ (s w : List ℕ) (g : ℕ) where
  pub answer_costs : {e : Refusal} → read_costs s ≡ Err e → (greedy_answer s g w ≡ Err e) × (greedy_bytes s g w ≡ w)
  unfolding greedy_answer greedy_bytes
  answer_costs h = (simp h, simp (ne_eqb (number_in (read_costs s)) 0 (refused_some h)))

  -- what follows on accepted costs
  follows : number_in (read_costs s) ≡ 0 → greedy_answer s g w ≡ cond (leb plan_bytes (length w)) (greedy_on (chain s w) g) (Err ShortPlan)
  unfolding greedy_answer
  follows e = goes_on (λ b. cond (leb plan_bytes (length w)) (greedy_on (chain_of s b) g) (Err ShortPlan)) (read_costs s) e

  pub answer_short : number_in (read_costs s) ≡ 0 → length w < plan_bytes → (greedy_answer s g w ≡ Err ShortPlan) × (greedy_bytes s g w ≡ w)
  unfolding greedy_bytes
  answer_short e l =
      (follows e ∙ simp (lt-leb plan_bytes (length w) l), simp (eq-eqb (number_in (read_costs s)) 0 e, lt-leb plan_bytes (length w) l))

  pub answer_on_lem : Readable s w → (greedy_answer s g w ≡ greedy_on (chain s w) g) × (greedy_bytes s g w ≡ greedy_bytes_on (chain s w) g w)
  unfolding greedy_bytes
  answer_on_lem r = (
    follows r.accepted ∙ simp (le-leb plan_bytes (length w) r.long),
    simp (eq-eqb (number_in (read_costs s)) 0 r.accepted, le-leb plan_bytes (length w) r.long),
  )

  -- ---- a plan exactly where no refusal is due

  not_refused : {A : Type 0} {e : Refusal} → number_in (greedy_answer s g w) ≡ 0 → greedy_answer s g w ≡ Err e → A
  not_refused z d = absurd (refused_some d z)

  pub readable : number_in (greedy_answer s g w) ≡ 0 → Readable s w
  readable z = ⊎_elim
      (λ (t : (b : Board) × (read_costs s ≡ Ok b)).
      let a : number_in (read_costs s) ≡ 0 = rw t.1 in
      ⊎_elim (λ l. not_refused z (answer_short a l).0) (λ l. record { accepted = a; long = l }) (lt_or_le (length w) plan_bytes))
      (λ (t : (e : Refusal) × (read_costs s ≡ Err e)). not_refused z (answer_costs t.1).0)
      (refused_or_not (read_costs s))

  module _ (r : Readable s w) where
    grouped : number_in (greedy_answer s g w) ≡ 0 → g < 2 ^ ((chain s w).tasks - 1)
    grouped z = ⊎_elim
        (λ l. l)
        (λ l. not_refused z ((answer_on_lem r).0 ∙ on_grouping (chain s w) g l))
        (lt_or_le g (2 ^ ((chain s w).tasks - 1)))

    fitting : number_in (greedy_answer s g w) ≡ 0 → start_fits (chain s w) g ≡ true
    fitting z = ⊎_elim
        (λ l. l)
        (λ l. not_refused z ((answer_on_lem r).0 ∙ on_unfit (chain s w) g (grouped z) l))
        (true_or_false (start_fits (chain s w) g))

    module _ (z : number_in (greedy_answer s g w) ≡ 0) where
      answer_plan : greedy_answer s g w ≡ Ok (figures_of (chain s w) (greedy_plan (chain s w) g))
      answer_plan = (answer_on_lem r).0 ∙ on_plan (chain s w) g (grouped z) (fitting z)

      pub answer_bytes : greedy_bytes s g w ≡ encode_plan (greedy_plan (chain s w) g) ++ drop plan_bytes w
      answer_bytes = (answer_on_lem r).1 ∙ bytes_filled (chain s w) g w (on_plan (chain s w) g (grouped z) (fitting z))

      bytes_judged : judged s (greedy_bytes s g w) ≡ Ok (figures_of (chain s w) (greedy_plan (chain s w) g))
      bytes_judged =
          let ms = greedy_plan (chain s w) g in
          let l = encode_length most_modules ms in
          rw answer_bytes (judge_figures s (encode_plan ms ++ drop plan_bytes w) (record {
            readable = record { accepted = r.accepted; long = simp length-append (omega arith) };
            modules = ms;
            bytes = sym (take_at (encode_plan ms) (drop plan_bytes w) plan_bytes l);
            keeps = plan_keeps (chain s w) g (accepted_ranges s r.accepted).0.some_tasks (fitting z);
          }))

  pub plan_judged : number_in (greedy_answer s g w) ≡ 0 → judged s (greedy_bytes s g w) ≡ greedy_answer s g w
  plan_judged z = let r = readable z in bytes_judged r z ∙ sym (answer_plan r z)

  -- ---- refusals 10 and 11 exactly under their conditions

  module _ (r : Readable s w) where
    same_number : {a b : Result PlanFigures Refusal} → greedy_answer s g w ≡ a → greedy_on (chain s w) g ≡ b → number_in a ≡ number_in b
    same_number e d = ap number (sym e ∙ (answer_on_lem r).0 ∙ d)

    pub refused_start : g < 2 ^ ((chain s w).tasks - 1)
        → (greedy_answer s g w ≡ Err NoStart) ↔ (((chain s w).board < cores_of (start (chain s w) g)) ⊎ OverLimit (chain s w) (start (chain s w) g))
    unfolding figures_of
    refused_start h = (
      λ e. ⊎_elim
          (λ l. absurd (omega (arith, same_number e (on_plan (chain s w) g h l))))
          (unfit_why (chain s w) g)
          (true_or_false (start_fits (chain s w) g)),
      λ l. (answer_on_lem r).0 ∙ on_unfit (chain s w) g h (⊎_elim (unfit_cores (chain s w) g) (unfit_limit (chain s w) g) l),
    )

    pub refused_grouping : (greedy_answer s g w ≡ Err NoGrouping) ↔ (2 ^ ((chain s w).tasks - 1) ≤ g)
    unfolding figures_of
    refused_grouping = (
      λ e. ⊎_elim
          (λ h. ⊎_elim
          (λ l. absurd (omega (arith, same_number e (on_plan (chain s w) g h l))))
          (λ l. absurd (omega (arith, same_number e (on_unfit (chain s w) g h l))))
          (true_or_false (start_fits (chain s w) g)))
          (λ h. h)
          (lt_or_le g (2 ^ ((chain s w).tasks - 1))),
      λ h. (answer_on_lem r).0 ∙ on_grouping (chain s w) g h,
    )
