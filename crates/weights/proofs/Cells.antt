-- One module of a plan of the fewest cores, as the planner looks at it: the fewest copies that do by one division are the fewest that may come, and what
-- they weigh is the least over the copies. By the laws of the search at the problem of a chain. Assumes nothing.
use mathlib.Core.Path.{◌≡◌, sym, subst, ◌∙◌}
use mathlib.Core.Bool.{Bool, true, false, cond, ◌&&◌, ◌||◌}
use mathlib.Core.List.{List}
use mathlib.Core.Logic.{⊎_elim}
use Prim.Native.Nat.{ℕ, ◌+◌, ◌-◌, ◌*◌, ◌≤◌, ◌<◌, min, max}
use native.Mathlib.Nat.{le_refl, mul-le-mul, mul-le-mul_right}
use native.Mathlib.Omega.{arith}
use lib.Dec.{T, ltb, leb, lt→ltb, eqb, not_T}
use borrow.Author.Tests.{lt-ltb, le-ltb, le-leb, eq-eqb, ne_eqb}
use Rattle.std.specs.Prelude.{None, Some}
use Rattle.records.specs.declared.Board.{Board}
use Rattle.records.proofs.Cases.{lt_or_le}
use Rattle.modules.specs.Model.{Chain, response, transfer, handed}
use Rattle.modules.specs.Rules.{module_rules}
use Rattle.modules.proofs.Laws.{passage_parts, handed_none, handed_rises}
use Rattle.search.specs.Least.{lesser}
use Rattle.search.specs.Copies.{load_of, fewest}
use Rattle.search.specs.Plan.{cap}
use Rattle.search.specs.Weight.{Table, over_copies}
use Rattle.search.specs.Best.{fits_at}
use Rattle.search.proofs.Tests.{or_l, or_r, and_i, eq→eqb}
use Rattle.search.proofs.Least.{lesser_low, lesser_high}
use Rattle.search.proofs.Loops.{over_copies_first}
use Rattle.search.proofs.Copies.{fewest_enough}
use Rattle.search.proofs.Cheapest.{at_join, fewest_fit}
use Rattle.search.proofs.Tiers.{tiered_rises}
use Rattle.search.proofs.Sparing.{sparing_i}
use Rattle.slack.specs.Problem.{grain, unit, ticks, price, problem, slack_on, enough_on, need_on, sparing_on}
use Rattle.slack.specs.Greatest.{larger}
use Rattle.slack.proofs.Greatest.{larger_low, larger_high}
use Rattle.slack.proofs.Chain.{response_parts}
use Rattle.slack.proofs.Enough.{enough_needs, enough_fewer}
use Rattle.slack.proofs.Instance.{problem_tiered}
use Rattle.rests.specs.Words.{served_in}
use Rattle.weights.specs.Cells.{no_plan, weight_by, Celled, cell_in, LeastCopies, FewestCopies, Loaded}
use Rattle.weights.proofs.Fitting.{reached_inside, spares_facts}
use Rattle.weights.proofs.Copies.{copies_allow, copies_load}

-- the lesser of two and the larger are std's
pub min_is : (a b : ℕ) → min a b ≡ lesser a b
min_is a b = ⊎_elim (λ (h : b < a). rw (lesser_high a b h) (omega arith)) (λ (h : a ≤ b). rw (lesser_low a b h) (omega arith)) (lt_or_le b a)

pub max_is : (a b : ℕ) → max a b ≡ larger a b
max_is a b = ⊎_elim (λ (h : b < a). rw (larger_low a b h) (omega arith)) (λ (h : a ≤ b). rw (larger_high a b h) (omega arith)) (lt_or_le b a)

pub chain_cap : (c : Chain) → cap (problem c) ≡ no_plan c.board
unfolding cap
chain_cap c = omega arith

-- ---- what a cell says

pub weight_last : (b : Board) (w : List ℕ) (p l q : ℕ) → l ≡ b.tasks → weight_by b w p l q ≡ 0
weight_last b w p l q e = simp (eq-eqb l b.tasks e)

pub weight_cell : (c : Chain) (b : Board) (w : List ℕ) {p l q : ℕ} → c.tasks ≡ b.tasks → c.board ≡ b.cores → Celled c p l q
    → weight_by b w p l q ≡ cell_in c w p l q
weight_cell c b w {p} {l} {q} tasks board d =
    simp (ne_eqb l b.tasks (λ (h : l ≡ b.tasks). omega (arith, d.inside)), le-leb 1 p d.before, le-leb 1 q d.first, le-leb (p + q) b.cores (omega (arith, d.room)), board)

-- enough for what is sent is enough for nothing
pub enough_served : (c : Chain) (n s l q b : ℕ) → T (enough_on c n s l q b) → T (served_in c n l q b 0)
enough_served c n s l q b u = ⊎_elim
    (λ (x : (l ≡ c.tasks) × (q ≡ 0)). or_l (eqb l c.tasks && eqb q 0) (ltb 0 (slack_on c n l q b)) (and_i (eqb l c.tasks) (eqb q 0) (eq→eqb l c.tasks x.0) (eq→eqb q 0 x.1)))
    (λ (x : (l < c.tasks) × (1 ≤ q) × (q ≤ b) × (transfer c l s q < slack_on c n l q b)). or_r (eqb l c.tasks && eqb q 0) (ltb 0 (slack_on c n l q b)) (lt→ltb 0 (slack_on c n l q b) (omega (arith, x.3))))
    (enough_needs c n s l q b u)

-- ---- over the copies: r are the fewest that are enough; the load is one of a single copy, and one of each of several, which carries what
-- handing out costs (M-106)

module _ {c : Chain} {s t q l base stay out : ℕ} {rep : Bool} (h : Loaded c s t q l base stay out rep) (n q' : ℕ) {sent r : ℕ} (is_sent : sent ≡ transfer c l q q')
    (is_fewest : r ≡ fewest rep ((base + sent) * grain) ((base + sent) * grain + out * grain) n) (some : 1 ≤ q) where
  -- its load in one copy, and in several
  abbrev load : ℕ
  load = (base + sent) * grain

  abbrev several : ℕ
  several = load + out * grain

  rises : load ≤ several
  rises = omega arith

  allows : (i : ℕ) → module_rules c (t + 1) l i q ≡ (true && (rep || leb i 1))
  allows i = copies_allow c s t l q q' i ∙ rw (h.keeps, h.replicable)

  loads : (i : ℕ) → response c s (t + 1) l i q q' * grain ≡ load_of load several i
  loads i =
      let one : response c s (t + 1) l 1 q q' * grain ≡ load = omega (arith, response_parts c s t l 1 q q', handed_none c 1 (omega arith), h.taken, h.stays, is_sent) in
      let two : response c s (t + 1) l 2 q q' * grain ≡ several = omega (arith, response_parts c s t l 2 q q', h.taken, h.stays, h.handing, is_sent) in
      copies_load c s t l q q' i ∙ rw (one, two)

  -- where they have room, they fit
  pub fewest_fits : 1 ≤ r → s + r * q + q' ≤ c.board → T (fits_at (problem c) n s t l r q q')
  fewest_fits a room =
      let least = fewest rep load several n in
      subst (λ i. T (fits_at (problem c) n s t l i q q')) (sym is_fewest)
      (at_join (problem c) n s t q l q' true rep load several allows loads h.reached.later (reached_inside h.reached) some least (rw is_fewest at a) tt
      (fewest_enough rep load several n rises (rw is_fewest at a)) (rw is_fewest at room))

  -- where some copies may come, they may, and are no more
  pub fewest_spares : (i : ℕ) → T (sparing_on c n s t l i q q') → T (sparing_on c n s t l r q q') × (r ≤ i)
  fewest_spares i u =
      let f = spares_facts c n s t l i q q' u in
      let (fits, few) = fewest_fit (problem c) n s t q l q' true rep load several allows loads h.reached.later (reached_inside h.reached) some rises i f.tight in
      let low : r ≤ i = rw is_fewest few in
      let cores : r * q ≤ i * q = mul-le-mul_right q low in (
        sparing_i (problem c) n (enough_on c n) s t l r q q' (subst (λ i. T (fits_at (problem c) n s t l i q q')) (sym is_fewest) fits) (omega (arith, f.few))
            (enough_fewer c n q l q' (need_on c n s t q - i * q) (need_on c n s t q - r * q) (omega arith) f.enough),
        low,
      )

  pub copies_none : (T (sparing_on c n s t l r q q') → ⊥) → FewestCopies c n s t q l q' None
  copies_none f = λ i u. f (fewest_spares i u).0

  pub copies_some : T (sparing_on c n s t l r q q') → FewestCopies c n s t q l q' (Some r)
  copies_some u =
      let f = spares_facts c n s t l r q q' u in
      record { few = omega (arith, f.fits.room, mul-le-mul {n₁ = r} {m₁ = 1} (le_refl r) some); comes = u; fewer = λ i v. (fewest_spares i v).1 }

-- ---- what they weigh

-- what is paid is no more than all
pub small_paid : (out r : ℕ) {x : ℕ} → x ≡ cond (ltb 1 r) out 0 → x ≤ out
small_paid out r {x} e = ⊎_elim
    (λ (h : 1 < r). let d : x ≡ out = rw (lt-ltb 1 r h) at e in omega arith)
    (λ (h : r ≤ 1). let d : x ≡ 0 = rw (le-ltb 1 r h) at e in omega arith)
    (lt_or_le 1 r)

module _ {c : Chain} {s t q l base stay out : ℕ} {rep : Bool} (h : Loaded c s t q l base stay out rep) (n q' : ℕ) {sent r : ℕ} (is_sent : sent ≡ transfer c l q q')
    (fewest : LeastCopies c n s t q l q' r) where
  -- what they pay of the cost of handing out
  pays : cond (ltb 1 r) out 0 ≡ handed c r
  unfolding handed
  pays = rw h.handing

  pub priced : {own paid : ℕ} → paid ≡ cond (ltb 1 r) out 0 → own ≡ unit * (r * q) + (stay + sent + paid) → own ≡ price c t l r q q'
  priced e d = omega (arith, d, e, passage_parts c (t + 1) l r q q', h.stays, pays, is_sent)

  -- the fewest are the cheapest
  pub over_some : (R : Table) → lesser (no_plan c.board) (price c t l r q q' + R q l q') ≡ over_copies (problem c) (sparing_on c n) R s t q l q'
  over_some R =
      rw (← (chain_cap c)) (sym (over_copies_first (problem c) (sparing_on c n) R s t q l q' r
      (λ j m. tiered_rises (problem c) (ticks c) (problem_tiered c) s t l r j q q' (omega (arith, passage_parts c (t + 1) l r q q', passage_parts c (t + 1) l j q q', handed_rises c r j m)) m)
      fewest.few fewest.comes (λ i b. not_T (sparing_on c n s t l i q q') (λ u. omega (arith, fewest.fewer i u)))))

-- where nothing can follow one copy, no copies may come
pub copies_unserved : (c : Chain) (n s t q l q' b : ℕ) {x : Bool} → b ≡ need_on c n s t q - q → x ≡ served_in c n l q' b 0 → x ≡ false → FewestCopies c n s t q l q' None
copies_unserved c n s t q l q' b e served none = λ i u.
    let f = spares_facts c n s t l i q q' u in
    let one = mul-le-mul {n₁ = 1} {m₁ = q} f.fits.one_copy (le_refl q) in
    subst T (sym served ∙ none)
    (enough_served c n q l q' b (enough_fewer c n q l q' (need_on c n s t q - i * q) b (omega arith) f.enough))
