-- The first modules of plans of the fewest cores, looked at one after the other: those of more cores spare nothing, and those without a slack do not. What
-- they weigh at least is what such a plan weighs. Assumes nothing.
use mathlib.Core.Path.{◌≡◌, refl, sym, subst, ap, ◌∙◌}
use mathlib.Core.List.{List, ◌∷◌}
use mathlib.Core.Logic.{⊎_elim}
use Prim.Native.Nat.{ℕ, zero, suc, ◌+◌, ◌-◌, ◌*◌, ◌≤◌, ◌<◌}
use native.Mathlib.Nat.{le_refl, mul-le-mul}
use native.Mathlib.Omega.{arith}
use lib.ListN.{get_or}
use lib.Dec.{T, eqb}
use Rattle.records.specs.declared.Board.{Board}
use Rattle.records.proofs.Cases.{lt_or_le}
use Rattle.modules.specs.Model.{Chain, transfer}
use Rattle.figures.specs.Model.{head_cores, cores_of}
use Rattle.search.specs.Least.{pick, lesser}
use Rattle.search.specs.Plan.{module_after, cap}
use Rattle.search.specs.Weight.{Table, over_last}
use Rattle.search.specs.Bottleneck.{within}
use Rattle.search.proofs.Tests.{ne→neqb}
use Rattle.search.proofs.Least.{pick_yes, pick_no, lesser_le, least_cap, least_more, least_ext, least_none, least_stop}
use Rattle.search.proofs.Plan.{valid_cons, tight_fits}
use Rattle.search.proofs.Loops.{column_zero}
use Rattle.search.proofs.Weight.{table_step}
use Rattle.search.proofs.Sparing.{need_start, sparing_fair, fewest_le}
use Rattle.slack.specs.Problem.{problem, SomeWithin, slack_on, enough_on, fewest_on, need_on, sparing_on}
use Rattle.slack.proofs.Enough.{enough_needs, enough_tells}
use Rattle.slack.proofs.Instance.{problem_priced}
use Rattle.threshold.specs.Words.{KeptBeyond}
use Rattle.weights.specs.Places.{Tabled}
use Rattle.weights.specs.Cells.{no_plan, cell_at, Marked, Reads, weight_on, light_on, Looked, Begun, Weighed}
use Rattle.weights.proofs.Cells.{chain_cap}
use Rattle.weights.proofs.Fitting.{spares_facts}
use Rattle.weights.proofs.Looking.{tabled_kept, beyond_kept, looked_other, looked_marked, looked_reads, next_unfit}

module _ (c : Chain) (n : ℕ) where
  -- ---- which first modules spare

  -- with a module that spares there is a rest of the fewest cores
  spares_enough : (s t l r p q : ℕ) → T (sparing_on c n s t l r p q) → T (enough_on c n s t p (need_on c n s t p))
  unfolding cores_of
  spares_enough s t l r p q u =
      let f = spares_facts c n s t l r p q u in
      let rest = (enough_tells c n).found p l q (need_on c n s t p - r * p) f.enough in
      let x = module_after t l r p in
      let fits : T (within (problem c) n s t l r p (head_cores rest.modules)) =
      subst (λ (q : ℕ). T (within (problem c) n s t l r p q)) (sym rest.head) (tight_fits c.board (within (problem c) n) s t l r p q f.tight) in
      (enough_tells c n).told s t (need_on c n s t p) (x ∷ rest.modules) (valid_cons c.tasks (within (problem c) n) s t x rest.modules refl fits rest.ok) (omega (arith, rest.cores, f.few))

  pub start_slack : (l r q q' : ℕ) → T (sparing_on c n 0 0 l r q q') → 0 < slack_on c n 0 q (fewest_on c n)
  start_slack l r q q' u =
      let f = spares_facts c n 0 0 l r q q' u in
      let e = need_start c.board (enough_on c n) 0 q in
      ⊎_elim
      (λ (x : (0 ≡ c.tasks) × (q ≡ 0)). absurd (omega (arith, x.0, f.fits.later, f.fits.inside)))
      (λ (x : (0 < c.tasks) × (1 ≤ q) × (q ≤ fewest_on c n) × (transfer c 0 0 q < slack_on c n 0 q (fewest_on c n))). omega (arith, x.3))
      (enough_needs c n 0 0 q (fewest_on c n) (rw e at (spares_enough 0 0 l r q q' u)))

  start_few : (l r q q' : ℕ) → fewest_on c n < q → T (sparing_on c n 0 0 l r q q') → ⊥
  start_few l r q q' h u =
      let f = spares_facts c n 0 0 l r q q' u in
      omega (arith, f.few, need_start c.board (enough_on c n) 0 q, mul-le-mul {n₁ = 1} {m₁ = q} f.fits.one_copy (le_refl q))

  -- some plan within n has no more cores than the board
  pub fewest_board : 1 ≤ c.tasks → SomeWithin c n → fewest_on c n ≤ c.board
  fewest_board some f =
      let u = (enough_tells c n).told 0 0 c.board f.modules f.ok f.cores in
      ⊎_elim
      (λ (x : (0 ≡ c.tasks) × (head_cores f.modules ≡ 0)). absurd (omega (arith, x.0)))
      (λ (x : (0 < c.tasks) × (1 ≤ head_cores f.modules) × (head_cores f.modules ≤ c.board) × (transfer c 0 0 (head_cores f.modules) < slack_on c n 0 (head_cores f.modules) c.board)).
      fewest_le c.board (enough_on c n) (head_cores f.modules) c.board x.2 (le_refl c.board) u)
      (enough_needs c n 0 0 (head_cores f.modules) c.board u)

  -- ---- the loop over first modules

  -- what a plan weighs that starts with q cores
  abbrev starting : Table → ℕ → ℕ
  starting R q = pick (eqb q 0) (cap (problem c)) (over_last (problem c) (sparing_on c n) R 0 0 q)

  starting_some : (R : Table) (q : ℕ) → 1 ≤ q → starting R q ≡ over_last (problem c) (sparing_on c n) R 0 0 q
  starting_some R q h = pick_no (eqb q 0) (cap (problem c)) _ (ne→neqb q 0 (omega arith))

  starting_zero : (R : Table) → starting R 0 ≡ cap (problem c)
  starting_zero R = pick_yes (eqb 0 0) (cap (problem c)) _ tt

  pub begun_start : (w : List ℕ) {v : ℕ} → v ≡ no_plan c.board → Begun c n w w 1 v
  begun_start w {v} e = record {
    long = refl;
    other = λ j x. refl;
    closed = λ q a b. absurd (omega arith);
    still = λ x j. refl;
    weighs = λ R reads.
        e ∙ sym (chain_cap c) ∙ sym (least_none (cap (problem c)) 1 (starting R) (λ i b. let z : i ≡ 0 = omega arith in rw (z, starting_zero R) (le_refl (cap (problem c)))));
    most = omega (arith, e);
  }

  pub begun_tabled : {w w' : List ℕ} {i v : ℕ} (b : Board) → Begun c n w w' i v → c.tasks ≡ b.tasks → c.board ≡ b.cores → Tabled c b n w → Tabled c b n w'
  begun_tabled {w} {w'} b a tasks board h = tabled_kept c b n w w' tasks board a.long a.other h

  pub begun_beyond : c.tasks ≤ 12 → c.board ≤ 32 → {w w' : List ℕ} {i v : ℕ} → Begun c n w w' i v → KeptBeyond w w'
  begun_beyond few small {w} {w'} a = beyond_kept c few small w w' a.other

  pub begun_next : {w w₁ w₂ : List ℕ} {q m v x : ℕ} → 1 ≤ q → Begun c n w w₁ q m → Looked c n 0 0 q w₁ w₂ (λ i j. Unit {0}) v (λ R. over_last (problem c) (sparing_on c n) R 0 0 q)
      → x ≡ lesser m v → Begun c n w w₂ (q + 1) x
  begun_next {w} {w₁} {w₂} {q} {m} {v} {x} some a b e = record {
    long = b.long ∙ a.long;
    other = λ j h. looked_other c n 0 0 q b j h ∙ a.other j h;
    closed = λ i low high l r q' u more. ⊎_elim
        (λ (d : i < q).
        let g = a.closed i low d l r q' u more in
        rw (looked_marked c n 0 0 q b (cell_at c.board i l q') g) g)
        (λ (d : q ≤ i).
        let z : i ≡ q = omega arith in
        subst (λ (y : ℕ). Marked c w₂ y l q') (sym z) (b.closed l r q' tt (subst (λ (y : ℕ). T (sparing_on c n 0 0 l r y q')) z u) more))
        (lt_or_le i q);
    still = λ h j.
        let first = a.still (λ i low high. h i low (omega arith)) in
        b.kept j (λ l r q' _ u more d. rw (first j, d) (h q some (omega arith) l r q' u more)) ∙ first j;
    weighs = λ R reads.
        least_more (cap (problem c)) q (starting R) m x (a.weighs R (looked_reads c n 0 0 q b R reads))
        (e ∙ ap (λ (z : ℕ). lesser m z) (b.weighs R reads ∙ sym (starting_some R q some)));
    most = omega (arith, e, lesser_le m v, a.most);
  }

  -- first modules of more than the fewest cores add nothing
  starting_none : (R : Table) (q : ℕ) → fewest_on c n < q → over_last (problem c) (sparing_on c n) R 0 0 q ≡ cap (problem c)
  unfolding over_last
  starting_none R q low = least_none (cap (problem c)) (suc c.tasks) _ (λ l b. rw (next_unfit c n 0 0 q R l (λ r q' u. start_few l r q q' low u)) (le_refl (cap (problem c))))

  pub begun_end : {w w' : List ℕ} {i v : ℕ} → 1 ≤ c.tasks → fewest_on c n < i → i ≤ c.board + 1 → Begun c n w w' i v → Begun c n w w' (c.board + 1) v
  begun_end {w} {w'} {i} {v} some h g a = record {
    long = a.long;
    other = a.other;
    closed = λ q low high l r q' u more. ⊎_elim
        (λ (d : q < i). a.closed q low d l r q' u more)
        (λ (d : i ≤ q). absurd (start_few l r q q' (omega arith) u))
        (lt_or_le q i);
    still = λ x j. a.still (λ q low high. x q low (omega arith)) j;
    weighs = λ R reads. a.weighs R reads ∙ sym (least_stop (cap (problem c)) i (c.board + 1) (starting R) g (λ q low high.
        rw (starting_some R q (omega arith), starting_none R q (omega arith)) (least_cap (cap (problem c)) i (starting R))));
    most = a.most;
  }

  -- ---- the least weight

  -- where a module is to come, what is weighed is the recurrence
  pub weight_step : (s t q : ℕ) → 1 ≤ q → weight_on c n s t q ≡ over_last (problem c) (sparing_on c n) (weight_on c n) s t q
  weight_step s t q h = table_step (problem c) (sparing_on c n) (sparing_fair (problem c) n (enough_on c n)) (problem_priced c) s t q h

  pub begun_light : {w w' : List ℕ} {v : ℕ} → 1 ≤ c.tasks → Begun c n w w' (c.board + 1) v → Reads c w' 0 (weight_on c n) → v ≡ light_on c n
  begun_light some a reads =
      let e : c.board + 1 ≡ suc c.board = omega arith in
      a.weighs (weight_on c n) reads ∙ rw e (least_ext (cap (problem c)) (suc c.board) (starting (weight_on c n)) (weight_on c n 0 0) same)
    where
      same : (q : ℕ) → q < suc c.board → starting (weight_on c n) q ≡ weight_on c n 0 0 q
      same zero b = starting_zero (weight_on c n) ∙ sym (column_zero (problem c) (sparing_on c n) (sparing_fair (problem c) n (enough_on c n)) c.tasks 0 0 some)
      same (suc q) b = starting_some (weight_on c n) (suc q) (omega arith) ∙ sym (weight_step 0 0 (suc q) (omega arith))

  -- ---- the same words say the same

  module _ {w w' : List ℕ} (same : (j : ℕ) → get_or w' j 0 ≡ get_or w j 0) where
    pub same_weighed : Weighed c n w → Weighed c n w'
    same_weighed h = record {
      closed = record {
        start = λ q low high l r q' u more. rw (same (cell_at c.board q l q')) (h.closed.start q low high l r q' u more);
        rows = λ s u q low d m l r q' t more. rw (same (cell_at c.board q l q')) (h.closed.rows s u q low d (rw (same (cell_at c.board s u q)) at m) l r q' t more);
      };
      right = record {
        cell = λ s u q later d m. h.right.cell s u q later d (rw (same (cell_at c.board s u q)) at m) ∙ sym (same (cell_at c.board s u q));
        end = h.right.end;
      };
    }
