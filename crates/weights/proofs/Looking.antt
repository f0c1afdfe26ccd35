-- Modules of a rest that are looked at one after the other: what is marked, what is kept, and the least weight so far by whatever the marked cells
-- say. A cell that is marked keeps its word, so what was weighed before stays right. Assumes nothing.
use mathlib.Core.Path.{◌≡◌, refl, sym, subst, ◌∙◌}
use mathlib.Core.Bool.{Bool}
use mathlib.Core.List.{List}
use mathlib.Core.Logic.{◌⊎◌, inl, inr, ⊎_elim}
use Prim.Native.Nat.{ℕ, suc, ◌+◌, ◌-◌, ◌≤◌, ◌<◌}
use native.Mathlib.Nat.{le_refl, mul-le-mul}
use native.Mathlib.Omega.{arith}
use lib.ListN.{length, get_or, set, length-set}
use lib.Seq.{get_or-set_same, get_or-set_other}
use lib.Dec.{T, not_T}
use Rattle.records.specs.declared.Board.{Board}
use Rattle.records.proofs.Cases.{lt_or_le}
use Rattle.modules.specs.Model.{Chain, transfer}
use Rattle.search.specs.Least.{lesser, least}
use Rattle.search.specs.Plan.{cap}
use Rattle.search.specs.Weight.{Table, over_copies, over_next, over_last}
use Rattle.search.proofs.Least.{lesser_le, lesser_is, lesser_no_more, least_cap, least_none, least_stop}
use Rattle.search.proofs.Loops.{over_copies_none, over_last_start}
use Rattle.search.proofs.Sparing.{sparing_fair}
use Rattle.slack.specs.Greatest.{larger}
use Rattle.slack.specs.Problem.{price, problem, enough_on, need_on, sparing_on}
use Rattle.slack.proofs.Greatest.{larger_ge, larger_is}
use Rattle.sketch.specs.Slacks.{slack_at}
use Rattle.threshold.specs.Words.{execution_at, internal_at, reach_at, KeptBeyond}
use Rattle.weights.specs.Places.{Tabled}
use Rattle.weights.specs.Cells.{no_plan, cell_at, cell_in, Celled, Reads, LeastCopies, Loaded, Looked}
use Rattle.weights.proofs.Fitting.{Spares, spares_facts}
use Rattle.weights.proofs.Cells.{chain_cap, over_some}

-- a word is another or not
pub same_or_not : (x y : ℕ) → (x ≡ y) ⊎ (x ≡ y → ⊥)
same_or_not x y = ⊎_elim
    (λ (a : x < y). inr (λ d. omega arith))
    (λ (a : y ≤ x). ⊎_elim (λ (b : y < x). inr (λ d. omega arith)) (λ (b : x ≤ y). inl (omega arith)) (lt_or_le y x))
    (lt_or_le x y)

-- ---- cells and the other words

-- the word j is no cell
abbrev pub NoCell : Chain → ℕ → Type 0
NoCell c j = (s u q : ℕ) → Celled c s u q → j ≡ cell_at c.board s u q → ⊥

module _ (c : Chain) (few : c.tasks ≤ 12) (small : c.board ≤ 32) where
  slack_no_cell : (t q b : ℕ) → t < c.tasks → q ≤ b → b ≤ c.board → NoCell c (slack_at t q b)
  slack_no_cell t q b h g f s u p d e = omega (arith, d.room, d.first, d.before, d.inside)

  laid_no_cell : (j : ℕ) → 13068 ≤ j → NoCell c j
  laid_no_cell j h s u p d e = omega (arith, d.room, d.first, d.before, d.inside)

  -- words that differ in cells only are the same behind the tables
  pub beyond_kept : (w w' : List ℕ) → ((j : ℕ) → NoCell c j → get_or w' j 0 ≡ get_or w j 0) → KeptBeyond w w'
  beyond_kept w w' other j h = other j (laid_no_cell j (omega arith))

  -- two cells stand in different words
  pub cells_apart : (s t q s' t' q' : ℕ) → Celled c s t q → Celled c s' t' q' → cell_at c.board s t q ≡ cell_at c.board s' t' q' → (s ≡ s') × (t ≡ t') × (q ≡ q')
  cells_apart s t q s' t' q' d d' e =
      let same : t ≡ t' = omega (arith, d.room, d.first, d.before, d'.room, d'.first, d'.before) in
      let row : q ≡ q' = omega (arith, d.room, d.first, d.before, d'.room, d'.first, d'.before) in
      (omega (arith, d.before, d'.before, d.room, d'.room), same, row)

-- words that differ in cells only hold the same tables
pub tabled_kept : (c : Chain) (b : Board) (n : ℕ) (w w' : List ℕ) → c.tasks ≡ b.tasks → c.board ≡ b.cores → length w' ≡ length w
    → ((j : ℕ) → NoCell c j → get_or w' j 0 ≡ get_or w j 0) → Tabled c b n w → Tabled c b n w'
tabled_kept c b n w w' tasks board long other h =
    let few : c.tasks ≤ 12 = omega (arith, h.area.sized.tasks_most) in
    let small : c.board ≤ 32 = omega (arith, h.area.sized.cores_most) in
    record {
      area = record { sized = h.area.sized; long = omega (arith, h.area.long) };
      low = h.low;
      laid = λ i q inside some high.
          let task = h.laid i q inside some high in
          let r = other (reach_at i q) (laid_no_cell c few small (reach_at i q) (omega arith)) in
          record {
            executes = other (execution_at i q) (laid_no_cell c few small (execution_at i q) (omega arith)) ∙ task.executes;
            passes = other (internal_at i q) (laid_no_cell c few small (internal_at i q) (omega arith)) ∙ task.passes;
            reaches = rw r task.reaches;
          };
      slacks = λ t inside q b some low high. other (slack_at t q b) (slack_no_cell c few small t q b inside low high) ∙ h.slacks t inside q b some low high;
    }

module _ (c : Chain) (n s t q : ℕ) where
  -- a rest after a module that spares has a cell
  pub spares_cell : (l r q' : ℕ) → T (sparing_on c n s t l r q q') → l < c.tasks → Celled c q l q'
  spares_cell l r q' u more =
      let f = spares_facts c n s t l r q q' u in
      record { some_tasks = omega (arith, f.fits.later); inside = more; before = f.fits.one_core; first = f.goes more; room = omega (arith, f.beside) }

  -- ---- over the modules that were not looked at

  module _ (R : Table) (l : ℕ) where
    copies_unfit : (q' : ℕ) → ((r : ℕ) → T (sparing_on c n s t l r q q') → ⊥) → over_copies (problem c) (sparing_on c n) R s t q l q' ≡ cap (problem c)
    copies_unfit q' f = over_copies_none (problem c) (sparing_on c n) R s t q l q' (λ i b. not_T (sparing_on c n s t l i q q') (f i))

    pub next_unfit : ((r q' : ℕ) → T (sparing_on c n s t l r q q') → ⊥) → over_next (problem c) (sparing_on c n) R s t q l ≡ cap (problem c)
    unfolding over_next
    next_unfit f = least_none (cap (problem c)) (suc c.board) _ (λ q' b. rw (copies_unfit q' (λ r u. f r q' u)) (le_refl (cap (problem c))))

    -- behind the last task no module comes
    pub next_last : {v : ℕ} → l ≡ c.tasks → v ≡ over_copies (problem c) (sparing_on c n) R s t q l 0 → v ≤ no_plan c.board → v ≡ over_next (problem c) (sparing_on c n) R s t q l
    unfolding over_next least
    next_last {v} e d low =
        let f = over_copies (problem c) (sparing_on c n) R s t q l in
        let k = cap (problem c) in
        let one : least k 1 f ≡ v = rw (← d) (lesser_no_more k v (omega (arith, chain_cap c))) in
        sym (least_stop k 1 (suc c.board) f (omega arith) (λ i a b.
        rw (copies_unfit i (λ r u. omega (arith, (spares_facts c n s t l r q i u).ends e))) (least_cap k 1 f)) ∙ one)

    -- before it one does
    pub next_start : l < c.tasks → no_plan c.board ≡ least (cap (problem c)) 1 (over_copies (problem c) (sparing_on c n) R s t q l)
    next_start more =
        sym (chain_cap c) ∙ sym (least_none (cap (problem c)) 1 _ (λ i b.
        rw (copies_unfit i (λ r u. omega (arith, (spares_facts c n s t l r q i u).goes more))) (le_refl (cap (problem c)))))

    -- and not of more cores than one copy leaves
    pub next_few : (r q' : ℕ) → T (sparing_on c n s t l r q q') → q' ≤ need_on c n s t q - q
    next_few r q' u =
        let f = spares_facts c n s t l r q q' u in
        omega (arith, f.most, mul-le-mul {n₁ = 1} {m₁ = q} f.fits.one_copy (le_refl q))

    pub next_end : (i m : ℕ) → i ≤ c.board + 1 → need_on c n s t q - q < i → m ≡ least (cap (problem c)) i (over_copies (problem c) (sparing_on c n) R s t q l)
        → m ≡ over_next (problem c) (sparing_on c n) R s t q l
    unfolding over_next
    next_end i m h g e =
        e ∙ sym (least_stop (cap (problem c)) i (suc c.board) _ (omega arith) (λ j a b.
        rw (copies_unfit j (λ r u. omega (arith, next_few r j u))) (least_cap (cap (problem c)) i _)))

  module _ (R : Table) where
    pub last_start : no_plan c.board ≡ least (cap (problem c)) (t + 1) (over_next (problem c) (sparing_on c n) R s t q)
    last_start =
        let e : t + 1 ≡ suc t = omega arith in
        sym (chain_cap c) ∙ rw e (sym (over_last_start (problem c) (sparing_on c n) (sparing_fair (problem c) n (enough_on c n)) R s t q))

    -- last tasks of modules that do not spare add nothing
    pub last_end : (i m : ℕ) → i ≤ c.tasks + 1 → ((l r q' : ℕ) → i ≤ l → T (sparing_on c n s t l r q q') → ⊥) → m ≡ least (cap (problem c)) i (over_next (problem c) (sparing_on c n) R s t q)
        → m ≡ over_last (problem c) (sparing_on c n) R s t q
    unfolding over_last
    last_end i m h f e =
        e ∙ sym (least_stop (cap (problem c)) i (suc c.tasks) _ (omega arith) (λ j a b.
        rw (next_unfit R j (λ r q' u. f j r q' a u)) (least_cap (cap (problem c)) i _)))

  -- ---- what is looked at

  -- which modules, by last task and next cores
  abbrev pub Which : Type 1
  Which = (l q' : ℕ) → Type 0

  -- none of them spares
  pub looked_none : (w : List ℕ) (Among : Which) {v : ℕ} (value : Table → ℕ) → v ≡ no_plan c.board → ((l r q' : ℕ) → Among l q' → T (sparing_on c n s t l r q q') → ⊥)
      → ((R : Table) → v ≡ value R) → Looked c n s t q w w Among v value
  looked_none w Among value e f g = record {
    long = refl;
    kept = λ j x. refl;
    closed = λ l r q' a u more. absurd (f l r q' a u);
    weighs = λ R reads. g R;
    some = omega (arith, e);
    most = omega (arith, e);
  }

  -- words that are not cells are kept, and the words of marked cells
  module _ {w w' : List ℕ} {Among : Which} {v : ℕ} {value : Table → ℕ} (a : Looked c n s t q w w' Among v value) where
    pub looked_other : (j : ℕ) → NoCell c j → get_or w' j 0 ≡ get_or w j 0
    looked_other j f = a.kept j (λ l r q' h u more e. absurd (f q l q' (spares_cell l r q' u more) e))

    pub looked_marked : (j : ℕ) → 1 ≤ get_or w j 0 → get_or w' j 0 ≡ get_or w j 0
    looked_marked j h = a.kept j (λ l r q' g u more e. h)

    pub looked_reads : (R : Table) → Reads c w' t R → Reads c w t R
    looked_reads R reads = record {
      cell = λ s u q later d m.
          let e = looked_marked (cell_at c.board s u q) m in
          reads.cell s u q later d (omega (arith, e)) ∙ e;
      end = reads.end;
    }

    pub looked_tabled : (b : Board) → c.tasks ≡ b.tasks → c.board ≡ b.cores → Tabled c b n w → Tabled c b n w'
    looked_tabled b tasks board h = tabled_kept c b n w w' tasks board a.long looked_other h

  -- one more, or some more
  pub looked_more : {w w₁ w₂ : List ℕ} {First Second Both : Which} {m v x : ℕ} {f g k : Table → ℕ} → Looked c n s t q w w₁ First m f → Looked c n s t q w₁ w₂ Second v g
      → ((l q' : ℕ) → Both l q' → First l q' ⊎ Second l q') → ((l q' : ℕ) → First l q' → Both l q') → ((l q' : ℕ) → Second l q' → Both l q')
      → x ≡ lesser m v → ((R : Table) → Reads c w₂ t R → m ≡ f R → v ≡ g R → x ≡ k R) → Looked c n s t q w w₂ Both x k
  looked_more {w} {w₁} {w₂} {First} {Second} {Both} {m} {v} {x} a b either first second least same = record {
    long = b.long ∙ a.long;
    kept = λ j h.
        let e = a.kept j (λ l r q' i. h l r q' (first l q' i)) in
        b.kept j (λ l r q' i u more d. rw e (h l r q' (second l q' i) u more d)) ∙ e;
    closed = λ l r q' i u more. ⊎_elim
        (λ (y : First l q').
        let d = a.closed l r q' y u more in
        rw (looked_marked b (cell_at c.board q l q') d) d)
        (λ (y : Second l q'). b.closed l r q' y u more)
        (either l q' i);
    weighs = λ R reads. same R reads (a.weighs R (looked_reads b R reads)) (b.weighs R reads);
    some = ⊎_elim (λ e. omega (arith, a.some)) (λ e. omega (arith, b.some)) (lesser_is m v);
    most = omega (arith, least, lesser_le m v, a.most);
  }

  -- the rest of the modules spare nothing
  pub looked_all : {w w' : List ℕ} {Some All : Which} {v : ℕ} {f k : Table → ℕ} → Looked c n s t q w w' Some v f → ((l q' : ℕ) → Some l q' → All l q')
      → ((l r q' : ℕ) → All l q' → T (sparing_on c n s t l r q q') → Some l q') → ((R : Table) → v ≡ f R → v ≡ k R) → Looked c n s t q w w' All v k
  looked_all a within only same = record {
    long = a.long;
    kept = λ j h. a.kept j (λ l r q' i. h l r q' (within l q' i));
    closed = λ l r q' i u more. a.closed l r q' (only l r q' i u) u more;
    weighs = λ R reads. same R (a.weighs R reads);
    some = a.some;
    most = a.most;
  }

  -- ---- one module before one of q' cores, by its fewest copies

  -- no copies of it may come
  pub looked_unfit : (w : List ℕ) (l q' : ℕ) {v : ℕ} → v ≡ no_plan c.board → ((r : ℕ) → T (sparing_on c n s t l r q q') → ⊥)
      → Looked c n s t q w w (λ i j. (i ≡ l) × (j ≡ q')) v (λ R. over_copies (problem c) (sparing_on c n) R s t q l q')
  looked_unfit w l q' e none =
      looked_none w (λ i j. (i ≡ l) × (j ≡ q')) (λ R. over_copies (problem c) (sparing_on c n) R s t q l q') e
      (λ i k j a u. none k (subst (λ x. T (sparing_on c n s t l k q x)) a.1 (subst (λ x. T (sparing_on c n s t x k q j)) a.0 u)))
      (λ R. e ∙ sym (chain_cap c) ∙ sym (copies_unfit R l q' none))

  module _ {l base stay out : ℕ} {rep : Bool} (h : Loaded c s t q l base stay out rep) (q' : ℕ) {sent r : ℕ} (is_sent : sent ≡ transfer c l q q') (fewest : LeastCopies c n s t q l q' r) where
    -- its least weight
    abbrev pub least_of : Table → ℕ
    least_of R = over_copies (problem c) (sparing_on c n) R s t q l q'

    -- the least of none and its price with the rest
    module _ (own rest : ℕ) {v : ℕ} (is_own : own ≡ price c t l r q q') (is_least : v ≡ lesser (no_plan c.board) (own + rest)) where
      facts : Spares c n s t l r q q'
      facts = spares_facts c n s t l r q q' fewest.comes

      positive : 1 ≤ own
      positive = omega (arith, is_own, mul-le-mul {n₁ = 1} {m₁ = 1} facts.fits.one_copy facts.fits.one_core)

      v_some : 1 ≤ v
      v_some = ⊎_elim (λ e. omega arith) (λ e. omega (arith, positive)) (lesser_is (no_plan c.board) (own + rest))

      v_most : v ≤ no_plan c.board
      v_most = omega (arith, is_least, lesser_le (no_plan c.board) (own + rest))

      v_is : (R : Table) → rest ≡ R q l q' → v ≡ least_of R
      v_is R e = is_least ∙ rw (is_own, e) (over_some h n q' is_sent fewest R)

      -- behind the last task nothing is marked
      pub looked_end : (w : List ℕ) → l ≡ c.tasks → rest ≡ 0 → Looked c n s t q w w (λ i j. (i ≡ l) × (j ≡ q')) v least_of
      looked_end w e z = record {
        long = refl;
        kept = λ j x. refl;
        closed = λ i k j a u more. absurd (omega (arith, a.0));
        weighs = λ R reads. v_is R (z ∙ sym (rw (e, facts.ends e) (reads.end q)));
        some = v_some;
        most = v_most;
      }

      -- before it the rest is marked
      pub looked_mark : (w : List ℕ) → cell_at c.board q l q' < length w → l < c.tasks → rest ≡ larger (cell_in c w q l q') 1
          → Looked c n s t q w (set w (cell_at c.board q l q') rest) (λ i j. (i ≡ l) × (j ≡ q')) v least_of
      looked_mark w room more e =
          let i = cell_at c.board q l q' in
          let w' = set w i rest in
          let made : get_or w' i 0 ≡ rest = get_or-set_same w i rest 0 room in
          let marked : 1 ≤ rest = omega (arith, e, larger_ge (cell_in c w q l q') 1) in
          record {
            long = length-set w i rest;
            kept = λ j x. ⊎_elim
                (λ (d : j ≡ i).
                let was = x l r q' (refl, refl) fewest.comes more d in
                rw d (made ∙ e ∙ large (cell_in c w q l q') (rw d at was)))
                (λ (d : j ≡ i → ⊥). get_or-set_other w i j rest 0 d)
                (same_or_not j i);
            closed = λ a k b y u m. rw (y.0, y.1, made) marked;
            weighs = λ R reads. v_is R (sym made ∙ sym (reads.cell q l q' h.reached.later (spares_cell l r q' fewest.comes more) (rw made marked)));
            some = v_some;
            most = v_most;
          }
        where
          large : (x : ℕ) → 1 ≤ x → larger x 1 ≡ x
          large x g = ⊎_elim (λ d. d) (λ d. omega (arith, d, larger_ge x 1)) (larger_is x 1)
