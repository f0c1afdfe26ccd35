-- What a program's loops need of the table and of the walk: where they may start and stop, what cells need no loop, and that a row
-- needs only later rows. By the laws of the least over a range: what is passed over has the cap.
use Prim.Native.Nat.{ℕ, suc, ◌+◌, ◌≤◌, ◌<◌}
use native.Mathlib.Omega.{arith}
use native.Mathlib.Nat.{le_refl, le_antisymm}
use mathlib.Core.Path.{◌≡◌}
use mathlib.Core.Bool.{not}
use mathlib.Core.Logic.{inl, inr}
use mathlib.Core.List.{List, [], ◌∷◌}
use lib.Dec.{T, eqb→eq, eqb_refl, T_not, not_T}
use Rattle.records.proofs.Cases.{lt_or_le}
use Rattle.modules.specs.declared.Module.{Module}
use Rattle.figures.specs.Model.{head_cores}
use Rattle.search.specs.Least.{lesser, least}
use Rattle.search.specs.Plan.{Rule, Problem, valid, cap}
use Rattle.search.specs.Weight.{Table, one_way, over_copies, over_next, least_weight}
use Rattle.search.proofs.Least.{pick_yes, pick_ge, lesser_le, lesser_is, least_cap, least_le, least_ge, least_none}
use Rattle.search.proofs.Plan.{Fair, fair_at}
use Rattle.search.proofs.Weight.{least_weight_cap, least_weight_end, attained}

module _ (X : Problem) (fits : Rule) where
  -- ---- over the copies

  module _ (rest : Table) (s t q l q' : ℕ) where
    -- the first number of copies that fits is the cheapest, where more copies do not cost less
    pub over_copies_first : (r : ℕ) → ((r' : ℕ) → r ≤ r' → X.price s t l r q q' ≤ X.price s t l r' q q')
        → r ≤ X.board → T (fits s t l r q q') → ((i : ℕ) → i < r → T (not (fits s t l i q q')))
        → over_copies X fits rest s t q l q' ≡ lesser (cap X) (X.price s t l r q q' + rest q l q')
    unfolding over_copies one_way
    over_copies_first r rises h u fewer =
        let v = X.price s t l r q q' + rest q l q' in
        le_antisymm
        (elim (lesser_is (cap X) v) [
          | inl e ↦ rw e (least_cap (cap X) (suc X.board) _)
          | inr e ↦
              rw (e, ← (pick_yes (fits s t l r q q') v (cap X) u))
              (least_le (cap X) (suc X.board) (one_way X fits rest s t q l q') r (omega arith))
        ])
        (least_ge (cap X) (suc X.board) _ (lesser (cap X) v) (lesser_le (cap X) v).0
        (λ i b. pick_ge (fits s t l i q q') (X.price s t l i q q' + rest q l q') (cap X) _
        (λ w. elim (lt_or_le i r) [
          | inl a ↦ absurd (T_not (fits s t l i q q') (fewer i a) w)
          | inr a ↦ omega (arith, rises i a, lesser_le (cap X) v)
        ])
        (lesser_le (cap X) v).0))

    -- where none fits
    pub over_copies_none : ((i : ℕ) → i ≤ X.board → T (not (fits s t l i q q'))) → over_copies X fits rest s t q l q' ≡ cap X
    unfolding over_copies one_way
    over_copies_none h = least_none (cap X) (suc X.board) _ (λ i b.
        pick_ge (fits s t l i q q') _ (cap X) (cap X) (λ u. absurd (T_not (fits s t l i q q') (h i (omega arith)) u)) (le_refl (cap X)))

  module _ (F : Fair X.tasks fits) where
    -- ---- over the last task

    -- the loop may start after t
    pub over_next_early : (rest : Table) (s t q l : ℕ) → l ≤ t → over_next X fits rest s t q l ≡ cap X
    unfolding over_next
    over_next_early rest s t q l h = least_none (cap X) (suc X.board) _ (λ q' b.
        let e = over_copies_none rest s t q l q' (λ i c. not_T (fits s t l i q q') (λ u. omega (arith, F.fair s t l i q q' u))) in
        rw e (le_refl (cap X)))

    pub over_last_start : (rest : Table) (s t q : ℕ) → least (cap X) (suc t) (over_next X fits rest s t q) ≡ cap X
    over_last_start rest s t q = least_none (cap X) (suc t) _ (λ l b. rw (over_next_early rest s t q l (omega arith)) (le_refl (cap X)))

    -- ---- cells that need no loop

    -- where no valid list begins so, the table has the cap
    at_cap : (m s t q : ℕ) → ((ms : List Module) → T (valid X.tasks fits s t ms) → head_cores ms ≡ q → ⊥)
        → least_weight X fits m s t q ≡ cap X
    at_cap m s t q h = elim (lt_or_le (least_weight X fits m s t q) (cap X)) [
      | inl u ↦ let a = attained X fits m s t q u in absurd (h a.modules a.ok a.head)
      | inr u ↦ le_antisymm (least_weight_cap X fits m s t q) u
    ]

    -- the row after the last task: nothing is left, and no module may come
    pub row_end : (m s : ℕ) → least_weight X fits m s X.tasks 0 ≡ 0
    row_end m s = omega (arith, least_weight_end X fits m s X.tasks (eqb_refl X.tasks))

    -- the column of no module, where tasks are left
    pub column_zero : (m s t : ℕ) → t < X.tasks → least_weight X fits m s t 0 ≡ cap X
    column_zero m s t h = at_cap m s t 0 none_begins
      where
        none_begins : (ms : List Module) → T (valid X.tasks fits s t ms) → head_cores ms ≡ 0 → ⊥
        none_begins [] v e = omega (arith, eqb→eq t X.tasks v)
        none_begins (x ∷ ms) v e = omega (arith, fair_at X.tasks fits F s t x ms v)
