-- The search through every plan finds the plan of the least feasible threshold, and nothing where no plan keeps the rules: that
-- plan beats every plan, so none is better, and it is better than each that comes before it.
use Prim.Native.Nat.{ℕ, zero, suc, ◌*◌, ◌≤◌}
use native.Mathlib.Omega.{arith}
use mathlib.Core.Path.{◌≡◌, refl}
use mathlib.Core.Bool.{Bool}
use mathlib.Core.Logic.{inl, inr}
use mathlib.Core.List.{List}
use mathlib.Core.Option.{none, some}
use lib.Dec.{T, leb, leb→le, le→leb, ltb→lt, lt→ltb, nltb→le, not_T}
use Rattle.records.proofs.Cases.{lt_or_le}
use Rattle.modules.specs.declared.Module.{Module}
use Rattle.figures.specs.Model.{cores_of}
use Rattle.search.specs.Plan.{Problem, valid, cap}
use Rattle.search.specs.Bottleneck.{rules, plan_bottleneck, Keeps, Small}
use Rattle.search.specs.Best.{plan_weight, light, plan, Feasible, Bottom, Laws}
use Rattle.search.specs.Every.{every, keeps, search_by}
use Rattle.search.specs.Answer.{feasible, first_feasible, answer, Decides}
use Rattle.search.specs.Outcome.{NoPlan}
use Rattle.search.proofs.Tests.{and_l, and_r, and_i, cond_case}
use Rattle.search.proofs.Find.{find_yes, find_le}
use Rattle.search.proofs.Bottleneck.{rules_fair}
use Rattle.search.proofs.Order.{beats_top, beats_ahead}
use Rattle.search.proofs.Best.{plan_keeps, best, feasible_some}
use Rattle.search.proofs.Every.{every_sorted, every_has, scan_none, scan_finds}

module _ (X : Problem) where
  -- ---- the test of a plan

  module _ (ms : List Module) where
    -- the plan is valid
    abbrev whole : Bool
    whole = valid X.tasks (rules X) 0 0 ms

    -- it is on the board
    abbrev placed : Bool
    placed = leb (cores_of ms) X.board

    pub keeps_out : T (keeps X ms) → Keeps X ms
    keeps_out t = (and_l whole placed t, leb→le _ _ (and_r whole placed t))

    pub keeps_in : Keeps X ms → T (keeps X ms)
    keeps_in h = and_i whole placed h.0 (le→leb _ _ h.1)

  -- ---- the first feasible threshold

  first_le : (U n : ℕ) → n ≤ U → Feasible X n → first_feasible X U ≤ n
  unfolding first_feasible
  first_le U n e h = find_le (suc U) 0 (feasible X) n (omega arith) (omega arith) (lt→ltb (light X n) (cap X) h)

  pub first_has : (U : ℕ) → Feasible X U → Feasible X (first_feasible X U)
  unfolding first_feasible
  first_has U h =
      ltb→lt (light X (first_feasible X U)) (cap X) (find_yes (suc U) 0 (feasible X) (omega (arith, first_le U U (omega arith) h)))

  pub first_bottom : (U n : ℕ) → Feasible X U → n ≡ first_feasible X U → Bottom X n
  first_bottom U zero h e = tt
  first_bottom U (suc n) h e =
      let d = first_le U U (omega arith) h in
      elim (lt_or_le (light X n) (cap X)) [
        | inl u ↦ absurd (omega (arith, first_le U n (omega arith) u))
        | inr u ↦ u
      ]

  -- ---- what the search finds, by any test that decides

  module _ (L : Laws X) (c : List Module → List Module → Bool) (D : Decides X c) where
    -- at a feasible threshold with none below it, the plan is what the search finds
    pub finds : Small X → (n : ℕ) → Feasible X n → Bottom X n → search_by X c ≡ some (plan X n)
    unfolding search_by
    finds small n l b =
        let x = plan X n in
        let h = plan_keeps X L.priced n l in
        let w = best X L small n l b in
        scan_finds (keeps X) c x (keeps_in x h)
        (λ y t. not_T (c y x) (λ u.
        beats_top (plan_bottleneck X) (plan_weight X) x y (w y (keeps_out y t)) (D.sound y x (keeps_out y t) h u)))
        (λ y t p. D.complete x y h (keeps_out y t) (beats_ahead (plan_bottleneck X) (plan_weight X) x y (w y (keeps_out y t)) p))
        (every X.tasks X.tasks 0 X.board) (every_sorted X.tasks X.tasks 0 X.board)
        (every_has X.tasks (rules X) (rules_fair X) X.tasks 0 0 X.board x h.0 h.1 (omega arith))

    -- where no plan keeps the rules it finds nothing
    pub finds_none : NoPlan X → search_by X c ≡ none
    unfolding search_by
    finds_none h = scan_none (keeps X) c (every X.tasks X.tasks 0 X.board) (λ y t. h y (keeps_out y t))

    -- so it finds the planner's answer, with a bound U on every bottleneck times the grain
    pub answer_is : Small X → (U : ℕ) → ((ms : List Module) → Keeps X ms → (plan_bottleneck X ms).num * X.grain ≤ U)
        → search_by X c ≡ answer X U
    unfolding answer
    answer_is small U h = cond_case (feasible X U) (λ x. search_by X c ≡ x) (some (plan X (first_feasible X U))) none
        (λ u.
        let g = ltb→lt (light X U) (cap X) u in
        finds small (first_feasible X U) (first_has U g) (first_bottom U (first_feasible X U) g refl))
        (λ u. finds_none (λ y k. omega (arith, nltb→le (light X U) (cap X) u, feasible_some X L U y k (h y k))))
