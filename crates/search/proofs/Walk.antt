-- The walk finds the first plan, in module order, among those for which there is room. By induction on the modules that are left:
-- the first module of such a plan is a choice, a choice begins such a plan, and the first choice is taken.
use Prim.Native.Nat.{ℕ, zero, suc, ◌+◌, ◌-◌, ◌≤◌, ◌<◌}
use native.Mathlib.Omega.{arith}
use native.Mathlib.Nat.{le_trans}
use mathlib.Core.Path.{◌≡◌, refl}
use mathlib.Core.Bool.{not}
use mathlib.Core.Logic.{◌⊎◌, inl, inr}
use mathlib.Core.List.{List, [], ◌∷◌}
use lib.Dec.{T, ltb, ltb→lt, lt→ltb, eqb, eqb→eq, T_not}
use Rattle.modules.specs.declared.Module.{Module}
use Rattle.figures.specs.Model.{head_cores}
use Rattle.figures.specs.Plan.{ModuleBefore, Before}
use Rattle.search.specs.Find.{find}
use Rattle.search.specs.Plan.{Rule, Problem, of, valid, weight, cap, Priced}
use Rattle.search.specs.Weight.{Table}
use Rattle.search.specs.Walk.{Room, room_after, Fine, First, goes_on, choice, chosen, walk}
use Rattle.search.proofs.Tests.{passed, failed, test, and_l, and_r, and_i, cond_case}
use Rattle.search.proofs.Least.{pick_yes, pick_no}
use Rattle.search.proofs.Find.{some_i, some_e}
use Rattle.search.proofs.Plan.{valid_head, valid_tail, valid_cons, valid_module, Fair, fair_at}
use Rattle.search.proofs.Weight.{Attained, head_bounds}
use Rattle.search.proofs.First.{first_passes, first_before}

module _ (X : Problem) (fits : Rule) where
  -- ---- the room after a module

  module _ (s t : ℕ) (room : Room) (x : Module) where
    -- what is left of the room for the next module's q cores
    abbrev left : ℕ → ℕ
    left q = room x.cores - of X.price s t x q

    room_in : (q v : ℕ) → T (of fits s t x q) → of X.price s t x q + v < room x.cores → v < room_after X fits s t room x q
    unfolding room_after
    room_in q v u h = rw (pick_yes (of fits s t x q) (left q) 0 u) (omega arith)

    room_out : (q v : ℕ) → v < room_after X fits s t room x q → T (of fits s t x q) × (of X.price s t x q + v < room x.cores)
    unfolding room_after
    room_out q v h = elim (test (of fits s t x q)) [
      | passed u ↦ (u, omega (arith, pick_yes (of fits s t x q) (left q) 0 u))
      | failed u ↦ absurd (omega (arith, pick_no (of fits s t x q) (left q) 0 u))
    ]

    pub room_cap : ((q : ℕ) → room q ≤ cap X) → (q : ℕ) → room_after X fits s t room x q ≤ cap X
    unfolding room_after
    room_cap h q = elim (test (of fits s t x q)) [
      | passed u ↦ rw (pick_yes (of fits s t x q) (left q) 0 u) (omega (arith, h x.cores))
      | failed u ↦ rw (pick_no (of fits s t x q) (left q) 0 u) (omega arith)
    ]

    -- a fine list, taken apart and put together
    pub fine_tail : (ms : List Module) → Fine X fits s t room (x ∷ ms)
        → Fine X fits x.cores x.last (room_after X fits s t room x) ms
    fine_tail ms g = record {
      ok = valid_tail X.tasks fits s t x ms g.ok;
      light = room_in (head_cores ms) _ (valid_head X.tasks fits s t x ms g.ok) g.light;
    }

    fine_cons : (ms : List Module) → x.first ≡ t + 1 → Fine X fits x.cores x.last (room_after X fits s t room x) ms
        → Fine X fits s t room (x ∷ ms)
    fine_cons ms e g =
        let h = room_out (head_cores ms) _ g.light in
        record { ok = valid_cons X.tasks fits s t x ms e h.0 g.ok; light = h.1 }

  -- ---- where the rest's least weight is known

  module _ (rest : Table) (F : Fair X.tasks fits) (A : Priced X)
      (rest_le : (s t : ℕ) (ms : List Module) → T (valid X.tasks fits s t ms) → weight X s t ms < cap X
      → rest s t (head_cores ms) ≤ weight X s t ms)
      (rest_at : (s t q : ℕ) → rest s t q < cap X → Attained X fits s t q (rest s t q)) where
    -- the first module of a fine list is a choice
    pub is_choice : (s t : ℕ) (room : Room) (x : Module) (ms : List Module) → ((q : ℕ) → room q ≤ cap X)
        → Fine X fits s t room (x ∷ ms) → T (choice X fits rest s t room x.last x.copies x.cores)
    unfolding choice
    is_choice s t room x ms h g =
        let l = le_trans g.light (h x.cores) in
        let q = head_cores ms in
        let w = of X.price s t x q + rest x.cores x.last q in
        let d = rest_le x.cores x.last ms (valid_tail X.tasks fits s t x ms g.ok) (omega arith) in
        some_i (suc X.board) (goes_on X fits rest s t room x.last x.copies x.cores) q
        (omega (arith, (head_bounds X fits F A s t x ms g.ok l).3))
        (and_i (of fits s t x q) (ltb w (room x.cores)) (valid_head X.tasks fits s t x ms g.ok)
        (lt→ltb w (room x.cores) (omega (arith, g.light))))

    -- and a choice begins a fine list
    choice_opens : (s t : ℕ) (room : Room) (x : Module) → ((q : ℕ) → room q ≤ cap X)
        → T (choice X fits rest s t room x.last x.copies x.cores)
        → (t < x.last) × ((ms : List Module) × Fine X fits x.cores x.last (room_after X fits s t room x) ms)
    unfolding choice
    choice_opens s t room x h u =
        let a = goes_on X fits rest s t room x.last x.copies x.cores in
        let q = find (suc X.board) 0 a in
        let w = of X.price s t x q + rest x.cores x.last q in
        let b : T (a q) = some_e (suc X.board) a u in
        let d : T (of fits s t x q) = and_l (of fits s t x q) (ltb w (room x.cores)) b in
        let e : w < room x.cores = ltb→lt _ _ (and_r (of fits s t x q) (ltb w (room x.cores)) b) in
        let n = rest_at x.cores x.last q (omega (arith, h x.cores)) in (
          (F.fair s t x.last x.copies x.cores q d).0,
          (n.modules, record { ok = n.ok; light = rw n.head (room_in s t room x q _ d (omega (arith, n.weighs))) }),
        )

    -- where nothing is left there is only the empty list
    only_empty : (s t : ℕ) (room : Room) → X.tasks ≤ t → (ms : List Module) → Fine X fits s t room ms → [] ≡ ms
    only_empty s t room h [] g = refl
    only_empty s t room h (x ∷ ms) g = absurd (omega (arith, fair_at X.tasks fits F s t x ms g.ok))

    first_empty : (s t : ℕ) (room : Room) → X.tasks ≤ t → (ms : List Module) → Fine X fits s t room ms → First X fits s t room []
    first_empty s t room h ms g = record { fine = rw (only_empty s t room h ms g) g; first = λ ns n. inl (only_empty s t room h ns n) }

    -- a first choice and the first rest after it
    module _ (s t : ℕ) (room : Room) (y : Module) (xs : List Module) (starts : y.first ≡ t + 1) (more : T (not (eqb t X.tasks)))
        (after : First X fits y.cores y.last (room_after X fits s t room y) xs)
        (before : (x : Module) (ms : List Module) → Fine X fits s t room (x ∷ ms) → (y ≡ x) ⊎ ModuleBefore y x) where
      cons_before : (ms : List Module) → Fine X fits s t room ms → (y ∷ xs ≡ ms) ⊎ Before (y ∷ xs) ms
      unfolding Before
      cons_before [] g = absurd (T_not (eqb t X.tasks) more g.ok)
      cons_before (x ∷ ms) g = elim (before x ms g) [
        | inr h ↦ inr (inl h)
        | inl e ↦ elim (after.first ms (rw e (fine_tail s t room x ms g))) [
          | inl d ↦ inl (λ i. e i ∷ d i)
          | inr b ↦ inr (inr (e, b))
        ]
      ]

      first_cons : First X fits s t room (y ∷ xs)
      first_cons = record { fine = fine_cons s t room y xs starts after.fine; first = cons_before }

    -- the first choice comes before, or is, the first module of each fine list
    module _ (s t : ℕ) (room : Room) (h : (q : ℕ) → room q ≤ cap X) where
      chosen_before : (x : Module) (ms : List Module) → Fine X fits s t room (x ∷ ms)
          → (chosen X fits rest s t room ≡ x) ⊎ ModuleBefore (chosen X fits rest s t room) x
      chosen_before x ms g =
          let b = head_bounds X fits F A s t x ms g.ok (le_trans g.light (h x.cores)) in
          rw (valid_module X.tasks fits s t x ms g.ok) at
          (first_before (suc X.tasks) (suc X.board) (choice X fits rest s t room) x.last x.copies x.cores
          (omega (arith, b.0)) (omega (arith, b.1)) (omega (arith, b.2)) (is_choice s t room x ms h g) t)

      chosen_is : T (not (eqb t X.tasks)) → (ms : List Module) → Fine X fits s t room ms
          → let y = chosen X fits rest s t room in T (choice X fits rest s t room y.last y.copies y.cores)
      chosen_is u [] g = absurd (T_not (eqb t X.tasks) u g.ok)
      chosen_is u (x ∷ ms) g =
          let b = head_bounds X fits F A s t x ms g.ok (le_trans g.light (h x.cores)) in
          first_passes (suc X.tasks) (suc X.board) (choice X fits rest s t room) x.last x.copies x.cores
          (omega (arith, b.0)) (omega (arith, b.1)) (omega (arith, b.2)) (is_choice s t room x ms h g)

    -- where there is a fine list, the walk is the first
    pub walk_is : (m s t : ℕ) (room : Room) → X.tasks ≤ t + m → ((q : ℕ) → room q ≤ cap X)
        → (ms : List Module) → Fine X fits s t room ms → First X fits s t room (walk X fits rest m s t room)
    unfolding walk
    walk_is zero s t room f h ms g = first_empty s t room (omega arith) ms g
    walk_is (suc m) s t room f h ms g = cond_case (eqb t X.tasks) (First X fits s t room) [] _
        (λ u. first_empty s t room (omega (arith, eqb→eq t X.tasks u)) ms g)
        (λ u.
        let y = chosen X fits rest s t room in
        let (d, (ns, n)) = choice_opens s t room y h (chosen_is s t room h u ms g) in
        first_cons s t room y _ refl u
        (walk_is m y.cores y.last (room_after X fits s t room y) (omega arith) (room_cap s t room y h) ns n)
        (chosen_before s t room h))
