-- Sweeps over the cells: one cell, more of a row, all rows down the chain, after which all rests of plans of the fewest cores are marked, and all rows up
-- again, after which what is marked is weighed. A rest that comes after another stands in a later row. Assumes nothing.
use mathlib.Core.Path.{◌≡◌, refl, sym, subst, ◌∙◌}
use mathlib.Core.List.{List}
use mathlib.Core.Logic.{◌⊎◌, inl, inr, ⊎_elim}
use Prim.Native.Nat.{ℕ, ◌+◌, ◌≤◌, ◌<◌}
use native.Mathlib.Nat.{le_refl}
use native.Mathlib.Omega.{arith}
use lib.ListN.{length, get_or, set, length-set}
use lib.Seq.{get_or-set_same, get_or-set_other}
use lib.Dec.{T}
use Rattle.records.specs.declared.Board.{Board}
use Rattle.records.proofs.Cases.{lt_or_le}
use Rattle.modules.specs.Model.{Chain}
use Rattle.search.specs.Weight.{over_last}
use Rattle.search.proofs.Loops.{row_end}
use Rattle.search.proofs.Sparing.{sparing_fair}
use Rattle.slack.specs.Problem.{problem, enough_on, sparing_on}
use Rattle.threshold.specs.Words.{KeptBeyond}
use Rattle.weights.specs.Places.{Tabled}
use Rattle.weights.specs.Cells.{cell_at, cell_in, Celled, Marked, Reads, weight_on, Closed, ClosedTo, Looked, Swept}
use Rattle.weights.proofs.Fitting.{spares_facts}
use Rattle.weights.proofs.Looking.{same_or_not, cells_apart, tabled_kept, spares_cell, looked_marked, beyond_kept}
use Rattle.weights.proofs.Beginning.{weight_step}

-- which cells of a row
abbrev pub Which : Type 1
Which = (s q : ℕ) → Type 0

module _ (c : Chain) (n : ℕ) (few : c.tasks ≤ 12) (small : c.board ≤ 32) where
  -- cells of different rows are different words
  rows_apart : (s t q s' t' q' : ℕ) → Celled c s t q → Celled c s' t' q' → (t ≡ t' → ⊥) → cell_at c.board s t q ≡ cell_at c.board s' t' q' → ⊥
  rows_apart s t q s' t' q' d d' h e = h (cells_apart c few small s t q s' t' q' d d' e).1

  -- what was closed stays so where marks stay
  closed_grown : (w w' : List ℕ) (s t q : ℕ) → ((s u q : ℕ) → Celled c s u q → Marked c w s u q → Marked c w' s u q) → Closed c n w s t q → Closed c n w' s t q
  closed_grown w w' s t q grows h l r q' u more = grows q l q' (spares_cell c n s t q l r q' u more) (h l r q' u more)

  -- ---- one cell

  module _ (s t q : ℕ) (here : Celled c s t q) where
    -- this one
    abbrev this : Which
    this i j = (i ≡ s) × (j ≡ q)

    pub swept_unmarked : (w : List ℕ) → cell_in c w s t q ≡ 0 → Swept c n t w w (λ i j. (i ≡ s) × (j ≡ q))
    swept_unmarked w z = record {
      long = refl;
      other = λ j x. refl;
      grows = λ s u q d m. m;
      row = λ s q d m. m;
      apart = λ s q d x. refl;
      closed = λ i j a d m. absurd (omega (arith, z, rw (a.0, a.1) at m));
      still = λ x s u q later d. refl;
      right = λ x reads i j a d m. absurd (omega (arith, z, rw (a.0, a.1) at m));
    }

    module _ (w w₁ : List ℕ) (v : ℕ) (room : cell_at c.board s t q < length w₁) (marked : Marked c w s t q)
        (looked : Looked c n s t q w w₁ (λ i j. Unit {0}) v (λ R. over_last (problem c) (sparing_on c n) R s t q)) where
      -- its word
      abbrev i : ℕ
      i = cell_at c.board s t q

      -- the words afterwards
      abbrev w₂ : List ℕ
      w₂ = set w₁ i v

      made : get_or w₂ i 0 ≡ v
      made = get_or-set_same w₁ i v 0 room

      -- all others are those after it was looked at
      beside : (j : ℕ) → (j ≡ i → ⊥) → get_or w₂ j 0 ≡ get_or w₁ j 0
      beside j d = get_or-set_other w₁ i j v 0 d

      -- of these only rests that may come after it were written
      kept_row : (s' u q' : ℕ) → u ≤ t → Celled c s' u q' → cell_in c w₁ s' u q' ≡ cell_in c w s' u q'
      kept_row s' u q' low d = looked.kept (cell_at c.board s' u q') (λ l r p _ y more e.
          absurd (rows_apart s' u q' q l p d (spares_cell c n s t q l r p y more) (λ z. omega (arith, (spares_facts c n s t l r q p y).fits.later)) e))

      -- a cell is this one, or another word
      cell_case : (s' u q' : ℕ) → Celled c s' u q' → ((s' ≡ s) × (u ≡ t) × (q' ≡ q)) ⊎ (cell_at c.board s' u q' ≡ i → ⊥)
      cell_case s' u q' d = ⊎_elim (λ e. inl (cells_apart c few small s' u q' s t q d here e)) (λ e. inr e) (same_or_not (cell_at c.board s' u q') i)

      -- where all that may come after it was marked, nothing was written
      all_kept : Closed c n w s t q → (j : ℕ) → get_or w₁ j 0 ≡ get_or w j 0
      all_kept h j = looked.kept j (λ l r p _ y more e. rw e (h l r p y more))

      swept_cell : Swept c n t w (set w₁ (cell_at c.board s t q) v) (λ i j. (i ≡ s) × (j ≡ q))
      swept_cell = record {
        long = length-set w₁ i v ∙ looked.long;
        other = λ j x.
            beside j (λ e. x s t q (le_refl t) here e)
            ∙ looked.kept j (λ l r p _ y more e. absurd (x q l p (omega (arith, (spares_facts c n s t l r q p y).fits.later)) (spares_cell c n s t q l r p y more) e));
        grows = λ s' u q' d m. ⊎_elim
            (λ (e : (s' ≡ s) × (u ≡ t) × (q' ≡ q)). rw (e.0, e.1, e.2, made) looked.some)
            (λ (e : cell_at c.board s' u q' ≡ i → ⊥). rw (beside (cell_at c.board s' u q') e, looked_marked c n s t q looked (cell_at c.board s' u q') m) m)
            (cell_case s' u q' d);
        row = λ s' q' d m. ⊎_elim
            (λ (e : (s' ≡ s) × (t ≡ t) × (q' ≡ q)). rw (e.0, e.2) marked)
            (λ (e : cell_at c.board s' t q' ≡ i → ⊥). rw (beside (cell_at c.board s' t q') e, kept_row s' t q' (le_refl t) d) at m)
            (cell_case s' t q' d);
        apart = λ s' q' d x. ⊎_elim
            (λ (e : (s' ≡ s) × (t ≡ t) × (q' ≡ q)). absurd (x (e.0, e.2)))
            (λ (e : cell_at c.board s' t q' ≡ i → ⊥). beside (cell_at c.board s' t q') e ∙ kept_row s' t q' (le_refl t) d)
            (cell_case s' t q' d);
        closed = λ s' q' a d m l r p y more.
            let y' : T (sparing_on c n s t l r q p) = subst (λ (z : ℕ). T (sparing_on c n z t l r q p)) a.0 (subst (λ (z : ℕ). T (sparing_on c n s' t l r z p)) a.1 y) in
            let g = looked.closed l r p tt y' more in
            let e = beside (cell_at c.board q l p) (rows_apart q l p s t q (spares_cell c n s t q l r p y' more) here (λ z. omega (arith, (spares_facts c n s t l r q p y').fits.later))) in
            subst (λ (z : ℕ). Marked c w₂ z l p) (sym a.1) (rw e g);
        still = λ x s' u q' later d.
            beside (cell_at c.board s' u q') (rows_apart s' u q' s t q d here (λ z. omega arith)) ∙ all_kept (x s q here marked) (cell_at c.board s' u q');
        right = λ x reads s' q' a d m.
            let same = all_kept (x s q here marked) in
            let reads₁ : Reads c w₁ t (weight_on c n) = record {
              cell = λ s' u q' later d m. reads.cell s' u q' later d (rw (same (cell_at c.board s' u q')) at m) ∙ sym (same (cell_at c.board s' u q'));
              end = reads.end;
            } in
            rw (a.0, a.1) (made ∙ looked.weighs (weight_on c n) reads₁ ∙ sym (weight_step c n s t q here.first));
      }

  -- the same of a rest that is it, and of a word that is its
  pub swept_rest : (s t q s' t' q' j : ℕ) → Celled c s t q → s' ≡ s → t' ≡ t → q' ≡ q → j ≡ cell_at c.board s t q → (w w₁ : List ℕ) (v : ℕ) → cell_at c.board s t q < length w₁ → Marked c w s t q
      → Looked c n s' t' q' w w₁ (λ i j. Unit {0}) v (λ R. over_last (problem c) (sparing_on c n) R s' t' q') → Swept c n t w (set w₁ j v) (λ i j. (i ≡ s) × (j ≡ q))
  swept_rest s t q s' t' q' j here e f g h w w₁ v room marked looked =
      let a = subst (λ (y : ℕ). Looked c n y t' q' w w₁ (λ i j. Unit {0}) v (λ R. over_last (problem c) (sparing_on c n) R y t' q')) e looked in
      let b = subst (λ (y : ℕ). Looked c n s y q' w w₁ (λ i j. Unit {0}) v (λ R. over_last (problem c) (sparing_on c n) R s y q')) f a in
      let d = subst (λ (y : ℕ). Looked c n s t y w w₁ (λ i j. Unit {0}) v (λ R. over_last (problem c) (sparing_on c n) R s t y)) g b in
      subst (λ (y : ℕ). Swept c n t w (set w₁ y v) (λ i j. (i ≡ s) × (j ≡ q))) (sym h) (swept_cell s t q here w w₁ v room marked d)

  -- ---- more of a row

  pub swept_none : (t : ℕ) (w : List ℕ) (Among : Which) → ((s q : ℕ) → Among s q → Celled c s t q → ⊥) → Swept c n t w w Among
  swept_none t w Among f = record {
    long = refl;
    other = λ j x. refl;
    grows = λ s u q d m. m;
    row = λ s q d m. m;
    apart = λ s q d x. refl;
    closed = λ s q a d m. absurd (f s q a d);
    still = λ x s u q later d. refl;
    right = λ x reads s q a d m. absurd (f s q a d);
  }

  -- the same by other names
  pub swept_as : {t : ℕ} {w w' : List ℕ} {Some All : Which} → Swept c n t w w' Some → ((s q : ℕ) → Some s q → All s q) → ((s q : ℕ) → All s q → Celled c s t q → Some s q) → Swept c n t w w' All
  swept_as a within only = record {
    long = a.long;
    other = a.other;
    grows = a.grows;
    row = a.row;
    apart = λ s q d x. a.apart s q d (λ y. x (within s q y));
    closed = λ s q y d m. a.closed s q (only s q y d) d m;
    still = a.still;
    right = λ x reads s q y d m. a.right x reads s q (only s q y d) d m;
  }

  pub swept_more : {t : ℕ} {w w₁ w₂ : List ℕ} {First Second Both : Which} → Swept c n t w w₁ First → Swept c n t w₁ w₂ Second
      → ((s q : ℕ) → Both s q → First s q ⊎ Second s q) → ((s q : ℕ) → First s q → Both s q) → ((s q : ℕ) → Second s q → Both s q) → ((s q : ℕ) → First s q → Second s q → ⊥)
      → Swept c n t w w₂ Both
  swept_more {t} {w} {w₁} {w₂} {First} {Second} a b either first second not-both = record {
    long = b.long ∙ a.long;
    other = λ j x. b.other j x ∙ a.other j x;
    grows = λ s u q d m. b.grows s u q d (a.grows s u q d m);
    row = λ s q d m. a.row s q d (b.row s q d m);
    apart = λ s q d x. b.apart s q d (λ y. x (second s q y)) ∙ a.apart s q d (λ y. x (first s q y));
    closed = λ s q y d m. ⊎_elim
        (λ (z : First s q). closed_grown w₁ w₂ s t q b.grows (a.closed s q z d m))
        (λ (z : Second s q). b.closed s q z d (a.grows s t q d m))
        (either s q y);
    still = λ x s u q later d. b.still (shut x) s u q later d ∙ a.still x s u q later d;
    right = λ x reads s q y d m. ⊎_elim
        (λ (z : First s q). b.apart s q d (not-both s q z) ∙ a.right x reads s q z d m)
        (λ (z : Second s q). b.right (shut x) (reads₁ x reads) s q z d (a.grows s t q d m))
        (either s q y);
  }
    where
      -- what was closed before the first is closed before the second
      shut : ((s q : ℕ) → Celled c s t q → Marked c w s t q → Closed c n w s t q) → (s q : ℕ) → Celled c s t q → Marked c w₁ s t q → Closed c n w₁ s t q
      shut x s q d m = closed_grown w w₁ s t q a.grows (x s q d (a.row s q d m))

      -- and what was right is right
      reads₁ : ((s q : ℕ) → Celled c s t q → Marked c w s t q → Closed c n w s t q) → Reads c w t (weight_on c n) → Reads c w₁ t (weight_on c n)
      reads₁ x reads = record {
        cell = λ s u q later d m. let e = a.still x s u q later d in reads.cell s u q later d (rw e at m) ∙ sym e;
        end = reads.end;
      }

  -- ---- whole rows

  pub swept_tabled : {t : ℕ} {w w' : List ℕ} {Among : Which} → Swept c n t w w' Among → (b : Board) → c.tasks ≡ b.tasks → c.board ≡ b.cores → Tabled c b n w → Tabled c b n w'
  swept_tabled {t} {w} {w'} a b tasks board h = tabled_kept c b n w w' tasks board a.long (λ j x. a.other j (λ s u q low d e. x s u q d e)) h

  pub swept_beyond : {t : ℕ} {w w' : List ℕ} {Among : Which} → Swept c n t w w' Among → KeptBeyond w w'
  swept_beyond {t} {w} {w'} a = beyond_kept c few small w w' (λ j x. a.other j (λ s u q low d e. x s u q d e))

  module _ {t : ℕ} {w w' : List ℕ} (a : Swept c n t w w' (λ i j. Unit {0})) where
    -- rows before it are as they were
    earlier : (s u q : ℕ) → u < t → Celled c s u q → cell_in c w' s u q ≡ cell_in c w s u q
    earlier s u q low d = a.other (cell_at c.board s u q) (λ s' u' q' from d' e. rows_apart s u q s' u' q' d d' (λ z. omega arith) e)

    -- down the chain: the row is closed with those before it
    pub swept_closed : (t₀ : ℕ) → t ≡ t₀ + 1 → ClosedTo c n w t₀ → ClosedTo c n w' t
    swept_closed t₀ next h = record {
      start = λ q low high. closed_grown w w' 0 0 q a.grows (h.start q low high);
      rows = λ s u q low d m. ⊎_elim
          (λ (e : u < t). closed_grown w w' s u q a.grows (h.rows s u q (omega arith) d (rw (earlier s u q e d) at m)))
          (λ (e : t ≤ u).
          let z : u ≡ t = omega arith in
          subst (λ (y : ℕ). Closed c n w' s y q) (sym z)
          (a.closed s q tt (subst (λ (y : ℕ). Celled c s y q) z d) (a.row s q (subst (λ (y : ℕ). Celled c s y q) z d) (subst (λ (y : ℕ). Marked c w' s y q) z m))))
          (lt_or_le u t);
    }

    -- up again: with those after it the row is weighed
    module _ (h : ClosedTo c n w c.tasks) (inside : t < c.tasks) where
      shut : (s q : ℕ) → Celled c s t q → Marked c w s t q → Closed c n w s t q
      shut s q d m = h.rows s t q (omega arith) d m

      was_marked : (s u q : ℕ) → Celled c s u q → Marked c w' s u q → Marked c w s u q
      was_marked s u q d m = ⊎_elim
          (λ (e : u < t). rw (earlier s u q e d) at m)
          (λ (e : t ≤ u). ⊎_elim
          (λ (f : t < u). rw (a.still shut s u q f d) at m)
          (λ (f : u ≤ t).
          let z : u ≡ t = omega arith in
          subst (λ (y : ℕ). Marked c w s y q) (sym z) (a.row s q (subst (λ (y : ℕ). Celled c s y q) z d) (subst (λ (y : ℕ). Marked c w' s y q) z m)))
          (lt_or_le t u))
          (lt_or_le u t)

      pub swept_shut : ClosedTo c n w' c.tasks
      swept_shut = record {
        start = λ q low high. closed_grown w w' 0 0 q a.grows (h.start q low high);
        rows = λ s u q low d m. closed_grown w w' s u q a.grows (h.rows s u q low d (was_marked s u q d m));
      }

      pub swept_right : (t₀ : ℕ) → t ≡ t₀ + 1 → Reads c w t (weight_on c n) → Reads c w' t₀ (weight_on c n)
      swept_right t₀ next reads = record {
        cell = λ s u q later d m. ⊎_elim
            (λ (f : t < u). let e = a.still shut s u q f d in reads.cell s u q f d (rw e at m) ∙ sym e)
            (λ (f : u ≤ t).
            let z : u ≡ t = omega arith in
            let d' = subst (λ (y : ℕ). Celled c s y q) z d in
            let m' = a.row s q d' (subst (λ (y : ℕ). Marked c w' s y q) z m) in
            rw z (sym (a.right shut reads s q tt d' m')))
            (lt_or_le t u);
        end = reads.end;
      }

  -- before any row is weighed there is nothing to read but the end
  pub reads_end : (w : List ℕ) (t : ℕ) → c.tasks ≤ t + 1 → Reads c w t (weight_on c n)
  reads_end w t h = record {
    cell = λ s u q later d m. absurd (omega (arith, d.inside));
    end = λ s. row_end (problem c) (sparing_on c n) (sparing_fair (problem c) n (enough_on c n)) c.tasks s;
  }

  -- no more rows are closed than there are
  pub closed_all : (w : List ℕ) (t : ℕ) → c.tasks ≤ t + 1 → ClosedTo c n w t → ClosedTo c n w c.tasks
  closed_all w t h a = record { start = a.start; rows = λ s u q low d m. a.rows s u q (omega (arith, d.inside)) d m }

  -- the first modules alone
  pub closed_start : (w : List ℕ) → ((q : ℕ) → 1 ≤ q → q ≤ c.board → Closed c n w 0 0 q) → ClosedTo c n w 0
  closed_start w f = record { start = f; rows = λ s u q low d m. absurd (omega (arith, d.some_tasks)) }
