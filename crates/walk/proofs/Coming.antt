-- The module that comes next, as loops over the cores of the module after it, its cores, its copies and its last task find it: it is
-- the one that the walk takes. By what a module of a plan of the fewest cores has, and the walk's laws at the problem of a chain. Assumes
-- nothing.
use mathlib.Core.Path.{◌≡◌, refl, sym, ap, subst, ◌∙◌}
use mathlib.Core.Bool.{Bool, true, false, not, ◌&&◌, and-false}
use mathlib.Core.List.{List}
use mathlib.Core.Logic.{inl, inr}
use Prim.Native.Nat.{ℕ, suc, ◌+◌, ◌-◌, ◌≤◌, ◌<◌}
use native.Mathlib.Nat.{eq-or-lt_of_le, mul-le-mul_right}
use native.Mathlib.Omega.{arith}
use lib.ListN.{get_or}
use lib.Dec.{T, ltb, eqb}
use borrow.Author.Tests.{le-ltb, leb-true, eqb-true, eqb-false, eq-eqb, ne_eqb, not-false}
use Rattle.records.specs.declared.Board.{Board}
use Rattle.records.proofs.Cases as cases
use Rattle.records.proofs.Cases.{lt_or_le, true_not_false, false_unless}
use Rattle.modules.specs.declared.Module.{Module}
use Rattle.modules.specs.Model.{Chain}
use Rattle.modules.specs.Rules.{module_rules, copies_allowed}
use Rattle.modules.proofs.Laws.{rules_apart}
use Rattle.search.specs.Least.{pick}
use Rattle.search.specs.Find.{find}
use Rattle.search.specs.Walk.{goes_on, choice, chosen}
use Rattle.search.proofs.Tests.{passed, failed, test, bool_eq, and_l}
use Rattle.search.proofs.Least.{pick_no}
use Rattle.search.proofs.Find.{some_i, some_e}
use Rattle.search.proofs.Steps.{chosen_found}
use Rattle.search.proofs.Sparing.{need_start}
use Rattle.slack.specs.Problem.{price, problem, enough_on, need_on, sparing_on}
use Rattle.sketch.specs.Slacks.{slack_at}
use Rattle.threshold.specs.Words.{reach_at, Laid, AllFilled}
use Rattle.walk.specs.declared.rooms.Passed.{Passed}
use Rattle.weights.specs.Cells.{weight_by, Celled, weight_on, Closed, Weighed}
use Rattle.walk.specs.Walk.{marked_by, PassedRight, room_of, may_come, LeastCopies, SomeNext}
use Rattle.weights.proofs.Cells.{weight_last, weight_cell}
use Rattle.weights.proofs.Fitting.{Spares, spares_facts}
use Rattle.weights.proofs.Beginning.{start_slack}

-- before the last task, what is not marked weighs 0
unmarked_zero : (k l q v : ℕ) → (l ≡ k → ⊥) → marked_by k l q v ≡ false → v ≡ 0
unmarked_zero k l q v other h = eqb-true v 0 (not-false _ (rw (ne_eqb l k other) at h))

module _ (c : Chain) (n : ℕ) where
  -- ---- the module l r p where the next has q cores

  module _ (s t l r p q : ℕ) where
    -- by what its cell says on the board b
    module _ (b : Board) (w : List ℕ) (tasks : c.tasks ≡ b.tasks) (board : c.board ≡ b.cores) (closed : Closed c n w s t p) where
      -- the word of the rest after it is right: behind the last task nothing is left, and else the rest is marked
      pub rest_read : {v : ℕ} → Weighed c n w → T (sparing_on c n s t l r p q) → v ≡ weight_by b w p l q → v ≡ weight_on c n p l q
      rest_read weighed u e =
          let f = spares_facts c n s t l r p q u in
          elim (eq-or-lt_of_le f.fits.inside) [
            | inl d ↦ e ∙ weight_last b w p l q (d ∙ tasks) ∙ sym ((λ i. weight_on c n p (d i) (f.ends d i)) ∙ weighed.right.end p)
            | inr d ↦
                let later : 1 ≤ l = omega (arith, f.fits.later) in
                let celled : Celled c p l q = record { some_tasks = later; inside = d; before = f.fits.one_core; first = f.goes d; room = omega (arith, f.beside) } in
                e ∙ weight_cell c b w tasks board celled ∙ sym (weighed.right.cell p l q later celled (closed l r q u d))
          ]

      -- what is not marked, or comes behind the last task, does not follow
      pub goes_unmarked : (room : ℕ) {v : ℕ} → v ≡ weight_by b w p l q → marked_by b.tasks l q v ≡ false → false ≡ goes_on (problem c) (sparing_on c n) (weight_on c n) s t (λ _. room) l r p q
      goes_unmarked room {v} e none = rw (false_unless (sparing_on c n s t l r p q) (λ y. y) unmarked) refl
        where
          unmarked : sparing_on c n s t l r p q ≡ true → ⊥
          unmarked y =
              let u : T (sparing_on c n s t l r p q) = subst T (sym y) tt in
              let f = spares_facts c n s t l r p q u in
              elim (eq-or-lt_of_le f.fits.inside) [
                | inl d ↦ eqb-false q 0 (rw (eq-eqb l b.tasks (d ∙ tasks)) at none) (f.ends d)
                | inr d ↦
                    let celled : Celled c p l q = record { some_tasks = omega (arith, f.fits.later); inside = d; before = f.fits.one_core; first = f.goes d; room = omega (arith, f.beside) } in
                    let zero = unmarked_zero b.tasks l q v (λ (h : l ≡ b.tasks). omega arith) none in
                    omega (arith, closed l r q u d, weight_cell c b w tasks board celled, e, zero)
              ]

    -- the two tests that the code makes are the definition's
    module _ (room : ℕ) {x : Bool} (spares : x ≡ sparing_on c n s t l r p q) where
      pub goes_not : x ≡ false → false ≡ goes_on (problem c) (sparing_on c n) (weight_on c n) s t (λ _. room) l r p q
      goes_not h = rw (← spares, h) refl

      pub goes_spares : x ≡ true → T (sparing_on c n s t l r p q)
      goes_spares h = subst T (sym h ∙ spares) tt

      pub goes_by : {own rest : ℕ} → x ≡ true → own ≡ price c t l r p q → rest ≡ weight_on c n p l q
          → ltb (own + rest) room ≡ goes_on (problem c) (sparing_on c n) (weight_on c n) s t (λ _. room) l r p q
      goes_by h e d = rw (← spares, h, e, d) refl

-- ---- the module l r p after m

module _ (c : Chain) (n : ℕ) (m : Passed) where
  -- it goes on where the next has q cores, by the room at its own cores
  abbrev pub goes : (room l r p q : ℕ) → Bool
  goes room l r p q = goes_on (problem c) (sparing_on c n) (weight_on c n) m.cores m.last (λ _. room) l r p q

  module _ (l r p : ℕ) where
    -- what it has, where the next has q cores, if it is one of a plan of the fewest cores
    abbrev pub Has : ℕ → Type 0
    Has q = Spares c n m.cores m.last l r p q

    goes_has : (room q : ℕ) → T (goes room l r p q) → Has q
    goes_has room q u =
        spares_facts c n m.cores m.last l r p q
        (and_l (sparing_on c n m.cores m.last l r p q) (ltb (price c m.last l r p q + weight_on c n p l q) room) u)

    -- it may come where it goes on with some q, and only there
    module _ {room : ℕ} (e : room ≡ room_of c n m p) where
      pub comes_at : (q : ℕ) {t : Bool} → q ≤ c.board → t ≡ goes room l r p q → t ≡ true → true ≡ may_come c n m l r p
      unfolding choice
      comes_at q h d y = bool_eq true (may_come c n m l r p)
          (λ _. some_i (suc c.board) (goes (room_of c n m p) l r p) q (omega arith) (subst T (sym y ∙ d ∙ ap (λ v. goes v l r p q) e) tt))
          (λ _. tt)

      pub comes_nowhere : ((q : ℕ) → Has q → goes room l r p q ≡ false) → may_come c n m l r p ≡ false
      unfolding choice
      comes_nowhere h = bool_eq (may_come c n m l r p) false
          (λ t.
          let f = goes (room_of c n m p) l r p in
          let q = find (suc c.board) 0 f in
          let u = some_e (suc c.board) f t in
          subst T (ap (λ v. goes v l r p q) (sym e) ∙ h q (goes_has (room_of c n m p) q u)) u)
          (λ t. absurd t)

      pub comes_no_room : room ≡ 0 → may_come c n m l r p ≡ false
      comes_no_room z = comes_nowhere (λ q _. rw (z, le-ltb (price c m.last l r p q + weight_on c n p l q) 0 (omega arith)) (and-false (sparing_on c n m.cores m.last l r p q)))

    -- it is none of a plan of the fewest cores
    pub comes_not : ((q : ℕ) → Has q → ⊥) → may_come c n m l r p ≡ false
    comes_not h = comes_nowhere refl (λ q f. absurd (h q f))

    -- where it may come, it is one of such a plan, and there is room for it
    pub comes_has : T (may_come c n m l r p) → (q : ℕ) × Has q
    unfolding choice
    comes_has t =
        let f = goes (room_of c n m p) l r p in
        let q = find (suc c.board) 0 f in
        (q, goes_has (room_of c n m p) q (some_e (suc c.board) f t))

    pub comes_room : T (may_come c n m l r p) → room_of c n m p ≡ 0 → ⊥
    comes_room t z = subst T (comes_no_room refl z) t

    -- it would go further than the word of its reach
    pub comes_short : {w : List ℕ} → Laid c w → get_or w (reach_at m.last p) 0 < l → may_come c n m l r p ≡ false
    comes_short {w} laid short = comes_not (λ q f.
        let few = f.fits.room in
        let one = mul-le-mul_right {m = 1} {n = r} p f.fits.one_copy in
        let keeps = (cases.and-true (copies_allowed c (m.last + 1) l r) (module_rules c (m.last + 1) l 1 p) (sym (rules_apart c (m.last + 1) l r p) ∙ f.fits.keeps)).1 in
        let exact = (laid m.last p (omega (arith, f.fits.later, f.fits.inside)) f.fits.one_core (omega arith)).reaches.exact l f.fits.later f.fits.inside in
        let h = leb-true l (get_or w (reach_at m.last p) 0) (sym exact ∙ keeps) in
        omega arith)

    -- no plan of the fewest cores starts with it
    pub comes_unserved : {w : List ℕ} → PassedRight c n w m → AllFilled c n w → 1 ≤ c.tasks → 1 ≤ p → p ≤ c.board
        → (eqb m.last 0 && eqb (get_or w (slack_at 0 p m.whole) 0) 0) ≡ true → may_come c n m l r p ≡ false
    comes_unserved {w} right filled some core most e =
        let h = cases.and-true _ _ e in
        let start = eqb-true m.last 0 h.0 in
        let none = eqb-true (get_or w (slack_at 0 p m.whole) 0) 0 h.1 in
        comes_not (λ q f.
        let u = subst (λ (t : ℕ). T (sparing_on c n 0 t l r p q)) start (subst (λ (s : ℕ). T (sparing_on c n s m.last l r p q)) (right.before start) f.is) in
        let slack = rw (← right.whole) at (start_slack c n l r p q u) in
        let low : p ≤ m.whole = omega (arith, f.few, need_start c.board (enough_on c n) 0 p, ap (λ (t : ℕ). need_on c n 0 t p) start, ap (λ (s : ℕ). need_on c n s m.last p) (right.before start), right.whole, mul-le-mul_right {m = 1} {n = r} p f.fits.one_copy) in
        omega (arith, slack, filled 0 some p m.whole core low right.board))

  -- ---- what the module m leaves for one of p cores

  module _ {w : List ℕ} (right : PassedRight c n w m) {room : ℕ} (p : ℕ) (e : room ≡ room_of c n m p) (some : room ≡ 0 → ⊥) where
    -- where there is room, m is one of a plan of the fewest cores
    passed_spares : (m.last ≡ 0 → ⊥) → T (sparing_on c n m.before m.from m.last m.copies m.cores p)
    unfolding room_of
    passed_spares later =
        let fits = sparing_on c n m.before m.from m.last m.copies m.cores p in
        let left = m.left - price c m.from m.last m.copies m.cores p in
        let d : room ≡ pick fits left 0 = e ∙ rw (ne_eqb m.last 0 later) refl in
        elim (test fits) [ passed u ↦ u | failed u ↦ absurd (some (d ∙ pick_no fits left 0 u)) ]

    pub passed_beside : p ≤ c.board → m.cores + p ≤ c.board
    passed_beside h = elim (lt_or_le 0 m.last) [
      | inl later ↦
          omega (arith, (spares_facts c n m.before m.from m.last m.copies m.cores p (passed_spares (λ z. omega arith))).beside)
      | inr none ↦ omega (arith, right.before (omega arith))
    ]

    -- all that may come after the next module is marked
    pub passed_closed : Weighed c n w → m.last < c.tasks → 1 ≤ p → p ≤ c.board → Closed c n w m.cores m.last p
    passed_closed weighed inside first most = elim (lt_or_le 0 m.last) [
      | inl later ↦
          let u = passed_spares (λ z. omega arith) in
          let f = spares_facts c n m.before m.from m.last m.copies m.cores p u in
          let celled : Celled c m.cores m.last p =
          record { some_tasks = later; inside = inside; before = f.fits.one_core; first = first; room = passed_beside most } in
          weighed.closed.rows m.cores m.last p (omega arith) celled (right.closed (λ z. omega arith) m.last m.copies p u inside)
      | inr none ↦
          let z : m.last ≡ 0 = omega arith in
          let y = right.before z in
          subst (λ s. Closed c n w s m.last p) (sym y) (subst (λ t. Closed c n w 0 t p) (sym z) (weighed.closed.start p first most))
    ]

  -- ---- the first that may come

  -- no module comes whose last task is below l
  abbrev pub NoneBelow : ℕ → Type 0
  NoneBelow l = (i : ℕ) → i < l → (r : ℕ) → r ≤ c.board → (p : ℕ) → p ≤ c.board → may_come c n m i r p ≡ false

  -- where some module may come, one does that ends in the chain
  pub some_comes : (l : ℕ) → c.tasks < l → SomeNext c n m → NoneBelow l → ⊥
  some_comes l h s none = true_not_false (may_come c n m s.last s.copies s.cores) s.comes (none s.last (omega (arith, s.inside.0)) s.copies s.inside.1 s.cores s.inside.2)

  -- the first that may come is the walk's
  pub next_is : (l : ℕ) (x : Module) → l ≤ c.tasks → NoneBelow l → LeastCopies c n m l x → x ≡ chosen (problem c) (sparing_on c n) (weight_on c n) m.cores m.last (room_of c n m)
  next_is l x h none f =
      (λ i. record { first = f.first i; last = f.last i; copies = x.copies; cores = x.cores })
      ∙ sym (chosen_found (problem c) (sparing_on c n) (weight_on c n) m.cores m.last (room_of c n m) l x.copies x.cores h f.high.0 f.high.1
      (subst T (sym f.comes) tt)
      (λ i r p a b d. chooses_not i r p (none i a r b p d))
      (λ r p a d. chooses_not l r p (f.none_below r a p d))
      (λ p a. chooses_not l x.copies p (f.cores_first p a)))
    where
      chooses_not : (l r p : ℕ) → may_come c n m l r p ≡ false → T (not (may_come c n m l r p))
      chooses_not l r p e = subst (λ b. T (not b)) (sym e) tt
