-- The table is right: no valid rest of a plan weighs less than it says, and below the cap some rest weighs just that. Both by
-- induction on the number of modules; the recurrence follows from the two.
use Prim.Native.Nat.{ℕ, zero, suc, ◌+◌, ◌≤◌, ◌<◌}
use native.Mathlib.Omega.{arith}
use native.Mathlib.Nat.{le_refl, le_trans, le_antisymm}
use mathlib.Core.Path.{◌≡◌, refl, sym, ◌∙◌}
use mathlib.Core.Bool.{◌&&◌}
use mathlib.Core.Logic.{inl, inr}
use mathlib.Core.List.{List, [], ◌∷◌}
use lib.Dec.{T, eqb, eqb→eq, not_T}
use Rattle.records.proofs.Cases.{lt_or_le}
use Rattle.modules.specs.declared.Module.{Module}
use Rattle.figures.specs.Model.{head_cores, cores_of}
use Rattle.search.specs.Least.{lesser}
use Rattle.search.specs.Plan.{Rule, Problem, module_after, valid, weight, cap, Priced}
use Rattle.search.specs.Weight.{Table, ends, one_way, over_copies, over_next, over_last, least_weight, table}
use Rattle.search.proofs.Tests.{and_l, and_r, and_i}
use Rattle.search.proofs.Least.{pick_yes, pick_no, pick_low, pick_le, lesser_le, lesser_is, lesser_no_more, least_cap, least_le, least_at}
use Rattle.search.proofs.Plan.{valid_head, valid_tail, valid_cons, Fair, fair_at, head_le, copies_le, on_board}

-- ---- no rest

module _ (X : Problem) (t : ℕ) where
  ends_cap : (q : ℕ) → ends X t q ≤ cap X
  unfolding ends
  ends_cap q = pick_le (eqb t X.tasks && eqb q 0) 0 (cap X) (cap X) (omega arith) (le_refl (cap X))

  ends_zero : T (eqb t X.tasks) → ends X t 0 ≡ 0
  unfolding ends
  ends_zero e = pick_yes (eqb t X.tasks && eqb 0 0) 0 (cap X) (and_i (eqb t X.tasks) (eqb 0 0) e tt)

  ends_low : (q : ℕ) → ends X t q < cap X → T (eqb t X.tasks) × (0 ≡ q) × (0 ≡ ends X t q)
  unfolding ends
  ends_low q h =
      let u : T (eqb t X.tasks && eqb q 0) = pick_low (eqb t X.tasks && eqb q 0) 0 (cap X) h in (
        and_l (eqb t X.tasks) (eqb q 0) u,
        sym (eqb→eq q 0 (and_r (eqb t X.tasks) (eqb q 0) u)),
        sym (pick_yes (eqb t X.tasks && eqb q 0) 0 (cap X) u),
      )

module _ (X : Problem) (fits : Rule) where
  pub least_weight_cap : (m s t q : ℕ) → least_weight X fits m s t q ≤ cap X
  unfolding least_weight
  least_weight_cap zero s t q = ends_cap X t q
  least_weight_cap (suc m) s t q = le_trans (lesser_le _ _).0 (ends_cap X t q)

  pub least_weight_end : (m s t : ℕ) → T (eqb t X.tasks) → least_weight X fits m s t 0 ≤ 0
  unfolding least_weight
  least_weight_end zero s t e = omega (arith, ends_zero X t e)
  least_weight_end (suc m) s t e = le_trans (lesser_le _ _).0 (omega (arith, ends_zero X t e))

  -- ---- one module and the rest

  over_last_le : (rest : Table) (s t q l q' r : ℕ) → l ≤ X.tasks → q' ≤ X.board → r ≤ X.board → T (fits s t l r q q')
      → over_last X fits rest s t q ≤ X.price s t l r q q' + rest q l q'
  unfolding over_last over_next over_copies one_way
  over_last_le rest s t q l q' r hl hq hr u =
      le_trans (least_le (cap X) (suc X.tasks) _ l (omega arith))
      (le_trans (least_le (cap X) (suc X.board) _ q' (omega arith))
      (le_trans (least_le (cap X) (suc X.board) _ r (omega arith))
      (rw (pick_yes (fits s t l r q q') _ _ u) (le_refl _))))

  -- a value v below the cap is that of one module and the rest
  record Way (rest : Table) (s t q v : ℕ) : Type 0 where
    l : ℕ
    q' : ℕ
    r : ℕ
    ok : T (fits s t l r q q')
    is : X.price s t l r q q' + rest q l q' ≡ v

  one_way_at : (rest : Table) (s t q l q' r v : ℕ) → v < cap X → one_way X fits rest s t q l q' r ≡ v → Way rest s t q v
  unfolding one_way
  one_way_at rest s t q l q' r v h e =
      let w = X.price s t l r q q' + rest q l q' in
      let u : T (fits s t l r q q') = pick_low (fits s t l r q q') w (cap X) (omega arith) in
      record { l = l; q' = q'; r = r; ok = u; is = omega (arith, pick_yes (fits s t l r q q') w (cap X) u) }

  over_last_at : (rest : Table) (s t q : ℕ) → over_last X fits rest s t q < cap X → Way rest s t q (over_last X fits rest s t q)
  unfolding over_last over_next over_copies
  over_last_at rest s t q h =
      let (l, hl, el) = least_at (cap X) (suc X.tasks) (over_next X fits rest s t q) h in
      let (q', hq, eq) = least_at (cap X) (suc X.board) (over_copies X fits rest s t q l) (omega arith) in
      let (r, hr, er) = least_at (cap X) (suc X.board) (one_way X fits rest s t q l q') (omega arith) in
      one_way_at rest s t q l q' r (over_last X fits rest s t q) h (omega arith)

  -- ---- below the cap the table is attained

  -- a valid list of the weight v, whose first module has q cores
  pub record Attained (s t q v : ℕ) : Type 0 where
    pub modules : List Module
    pub ok : T (valid X.tasks fits s t modules)
    pub head : head_cores modules ≡ q
    pub weighs : weight X s t modules ≡ v

  attained_cons : (s t q v l r q' w : ℕ) → T (fits s t l r q q') → X.price s t l r q q' + w ≡ v → Attained q l q' w → Attained s t q v
  attained_cons s t q v l r q' w u e a = record {
    modules = module_after t l r q ∷ a.modules;
    ok = valid_cons X.tasks fits s t (module_after t l r q) a.modules refl (rw a.head u) a.ok;
    head = refl;
    weighs = rw a.head (omega (arith, a.weighs));
  }

  attained_nil : (s t q v : ℕ) → ends X t q ≡ v → v < cap X → Attained s t q v
  attained_nil s t q v e h = let (a, z, g) = ends_low X t q (omega arith) in record { modules = []; ok = a; head = z; weighs = g ∙ e }

  pub attained : (m s t q : ℕ) → least_weight X fits m s t q < cap X → Attained s t q (least_weight X fits m s t q)
  unfolding least_weight
  attained zero s t q h = attained_nil s t q (ends X t q) refl h
  attained (suc m) s t q h = elim (lesser_is (ends X t q) (over_last X fits (least_weight X fits m) s t q)) [
    | inl e ↦ attained_nil s t q (least_weight X fits (suc m) s t q) (sym e) h
    | inr e ↦
        let w = over_last_at (least_weight X fits m) s t q (omega arith) in
        attained_cons s t q (least_weight X fits (suc m) s t q) w.l w.r w.q' (least_weight X fits m q w.l w.q')
        w.ok (w.is ∙ sym e)
        (attained m q w.l w.q' (omega (arith, w.is)))
  ]

  module _ (F : Fair X.tasks fits) (A : Priced X) where
    -- ---- and no valid list weighs less

    -- below the cap, the first module's last task, copies and cores are within the loops' bounds
    pub head_bounds : (s t : ℕ) (x : Module) (ms : List Module) → T (valid X.tasks fits s t (x ∷ ms)) → weight X s t (x ∷ ms) < cap X
        → (x.last ≤ X.tasks) × (x.copies ≤ X.board) × (x.cores ≤ X.board) × (head_cores ms ≤ X.board)
    unfolding cores_of
    head_bounds s t x ms v h =
        let b = on_board X A s t (x ∷ ms) h in (
          (fair_at X.tasks fits F s t x ms v).1,
          omega (arith, copies_le X.tasks fits F s t x ms v),
          omega (arith, head_le X.tasks fits F s t (x ∷ ms) v),
          omega (arith, head_le X.tasks fits F x.cores x.last ms (valid_tail X.tasks fits s t x ms v)),
        )

    pub least_weight_le : (m s t : ℕ) (ms : List Module) → T (valid X.tasks fits s t ms) → weight X s t ms < cap X → X.tasks ≤ t + m
        → least_weight X fits m s t (head_cores ms) ≤ weight X s t ms
    unfolding least_weight
    least_weight_le m s t [] v w f = least_weight_end m s t v
    least_weight_le zero s t (x ∷ ms) v w f = absurd (omega (arith, fair_at X.tasks fits F s t x ms v))
    least_weight_le (suc m) s t (x ∷ ms) v w f =
        let b = head_bounds s t x ms v w in
        let d = (fair_at X.tasks fits F s t x ms v).0 in
        let u = valid_head X.tasks fits s t x ms v in
        let rest = least_weight X fits m in
        omega (
          arith,
          (lesser_le (ends X t x.cores) (over_last X fits rest s t x.cores)).1,
          over_last_le rest s t x.cores x.last (head_cores ms) x.copies b.0 b.3 b.1 u,
          least_weight_le m x.cores x.last ms (valid_tail X.tasks fits s t x ms v) (omega arith) (omega arith),
        )

    -- as many modules as tasks are left are enough
    least_weight_enough : (m m' s t q : ℕ) → X.tasks ≤ t + m' → least_weight X fits m' s t q ≤ least_weight X fits m s t q
    least_weight_enough m m' s t q f = elim (lt_or_le (least_weight X fits m s t q) (cap X)) [
      | inl h ↦
          let a = attained m s t q h in
          omega (arith, a.weighs, rw a.head at (least_weight_le m' s t a.modules a.ok (omega (arith, a.weighs)) f))
      | inr h ↦ omega (arith, least_weight_cap m' s t q)
    ]

    -- the recurrence of the table
    table_is : (s t q : ℕ) → table X fits s t q ≡ lesser (ends X t q) (over_last X fits (table X fits) s t q)
    unfolding least_weight
    table_is s t q =
        let k = X.tasks in
        le_antisymm (least_weight_enough (suc k) k s t q (omega arith)) (least_weight_enough k (suc k) s t q (omega arith))

    -- the table bounds every valid list
    pub table_le : (s t : ℕ) (ms : List Module) → T (valid X.tasks fits s t ms) → weight X s t ms < cap X
        → table X fits s t (head_cores ms) ≤ weight X s t ms
    table_le s t ms v h = least_weight_le X.tasks s t ms v h (omega arith)

    -- where a module is to come, the table is the recurrence alone
    pub table_step : (s t q : ℕ) → 1 ≤ q → table X fits s t q ≡ over_last X fits (table X fits) s t q
    unfolding ends over_last
    table_step s t q h =
        let b = eqb t X.tasks && eqb q 0 in
        let g = not_T b (λ u. omega (arith, eqb→eq q 0 (and_r (eqb t X.tasks) (eqb q 0) u))) in
        let n : ends X t q ≡ cap X = pick_no b 0 (cap X) g in
        table_is s t q
        ∙ rw n (lesser_no_more (cap X) (over_last X fits (table X fits) s t q) (least_cap (cap X) (suc X.tasks) _))
