-- A first module that takes one task more at a time, by the words that are laid: its body, whether it may have copies, and the least weight so far.
-- By the laws of modules and of what is looked at. Assumes nothing.
use mathlib.Core.Path.{◌≡◌, refl, sym, ap, ◌∙◌}
use mathlib.Core.Bool.{Bool, true, cond, ◌&&◌}
use mathlib.Core.List.{List}
use mathlib.Core.Logic.{inl, inr, ⊎_elim}
use Prim.Native.Nat.{ℕ, ◌+◌, ◌-◌, ◌*◌, ◌≤◌, ◌<◌}
use native.Mathlib.Nat.{le_refl, mul-le-mul}
use native.Mathlib.Omega.{arith}
use lib.ListN.{get_or}
use lib.Dec.{T, ltb, eqb}
use borrow.Author.Tests.{lt-ltb, le-ltb, le-leb, leb-true, eq-eqb, ne_eqb}
use Rattle.records.specs.declared.Board.{Board}
use Rattle.records.proofs.Cases as cases
use Rattle.records.proofs.Cases.{lt_or_le}
use Rattle.modules.specs.Model.{Chain, run, gather, nothing, body, handed}
use Rattle.modules.specs.Rules.{mark, module_rules, copies_allowed}
use Rattle.modules.proofs.Laws.{rules_apart}
use Rattle.modules.proofs.Sums.{gather_some, gather_none, gather_split}
use Rattle.search.specs.Least.{lesser, least}
use Rattle.search.specs.Plan.{cap}
use Rattle.search.specs.Weight.{Table, over_next, over_last}
use Rattle.search.proofs.Least.{least_more}
use Rattle.slack.specs.Problem.{problem, sparing_on}
use Rattle.threshold.specs.Words.{execution_at, internal_at, reach_at, Longest, ReachedIn}
use Rattle.threshold.proofs.Pushing.{body_none, word_reached}
use Rattle.weights.specs.declared.after.Rest.{Rest}
use Rattle.weights.specs.Places.{Tabled, Stands}
use Rattle.weights.specs.Cells.{no_plan, Loaded, Looked}
use Rattle.weights.proofs.Fitting.{spares_facts}
use Rattle.weights.proofs.Looking.{looked_other, looked_none, looked_more, looked_all, looked_tabled, last_start, last_end}

-- ---- one task more behind a module

module _ (c : Chain) (t l : ℕ) (h : t ≤ l) where
  pub body_back : (q : ℕ) → body c (t + 1) (l + 1) q ≡ body c (t + 1) l q + cond (ltb t l) (c.internal l q) 0 + c.execution (l + 1) q
  unfolding body run
  body_back q = ⊎_elim
      (λ d. rw (lt-ltb t l d) (omega (arith, gather_split f g (t + 1) l (l + 1) (omega arith) (omega arith), alone)))
      (λ d.
      let e : t ≡ l = omega arith in
      let none = gather_none f g (t + 1) l (omega arith) in
      rw (le-ltb t l d) (omega (arith, none, rw (← e) at alone, ap (λ i. gather f g (i + 1) (l + 1)) e, ap (λ (i : ℕ). f (i + 1)) e, alone)))
      (lt_or_le t l)
    where
      f : ℕ → ℕ
      f i = c.execution i q

      g : ℕ → ℕ
      g i = c.internal i q

      alone : gather f g (l + 1) (l + 1) ≡ f (l + 1)
      alone = let z : l + 1 - (l + 1) ≡ 0 = omega arith in gather_some f g (l + 1) (l + 1) (le_refl (l + 1)) ∙ rw z refl

  -- it may have copies if it might before, and the task may
  pub copies_back : copies_allowed c (t + 1) (l + 1) 2 ≡ (copies_allowed c (t + 1) l 2 && copies_allowed c (l + 1) (l + 1) 2)
  unfolding copies_allowed
  copies_back = ⊎_elim
      (λ (d : t < l).
      let e = gather_split (mark c) nothing (t + 1) l (l + 1) (omega arith) (omega arith) in
      sums (gather (mark c) nothing (t + 1) l) (gather (mark c) nothing (l + 1) (l + 1)) (gather (mark c) nothing (t + 1) (l + 1)) (omega (arith, e)))
      (λ (d : l ≤ t).
      let e : t ≡ l = omega arith in
      sums (gather (mark c) nothing (t + 1) l) (gather (mark c) nothing (l + 1) (l + 1)) (gather (mark c) nothing (t + 1) (l + 1)) (omega (arith, gather_none (mark c) nothing (t + 1) l (omega arith), ap (λ i. gather (mark c) nothing (i + 1) (l + 1)) e)))
      (lt_or_le t l)
    where
      -- a sum is 0 if both parts are
      sums : (a b s : ℕ) → s ≡ a + b → eqb s 0 ≡ (eqb a 0 && eqb b 0)
      sums a b s e = ⊎_elim
          (λ (u : 0 < a). rw (ne_eqb a 0 (λ z. omega arith), ne_eqb s 0 (λ z. omega arith)) refl)
          (λ (u : a ≤ 0). let z : s ≡ b = omega arith in rw (eq-eqb a 0 (omega arith), z) refl)
          (lt_or_le 0 a)

pub copies_empty : (c : Chain) (t : ℕ) → true ≡ copies_allowed c (t + 1) t 2
unfolding copies_allowed
copies_empty c t = sym (eq-eqb _ 0 (gather_none (mark c) nothing (t + 1) t (omega arith)))

-- ---- the loop over last tasks

module _ (c : Chain) (n : ℕ) (x : Rest) (w₀ : List ℕ) where
  -- the least so far
  abbrev so_far : ℕ → Table → ℕ
  so_far l R = least (cap (problem c)) (l + 1) (over_next (problem c) (sparing_on c n) R x.before x.from x.cores)

  -- how far one copy goes
  abbrev pub reach_of : ℕ
  reach_of = get_or w₀ (reach_at x.from x.cores) 0

  -- the modules up to the last task l have been looked at
  pub record Lengthened (w : List ℕ) (m stay : ℕ) (rep : Bool) (l : ℕ) : Type 0 where
    pub later : x.from ≤ l
    pub most : l ≤ reach_of
    pub stays : stay ≡ body c (x.from + 1) l x.cores
    pub small : stay ≤ l * 8589934592
    pub copies : rep ≡ copies_allowed c (x.from + 1) l 2
    pub looked : Looked c n x.before x.from x.cores w₀ w (λ i j. i ≤ l) m (so_far l)

module _ (c : Chain) (b : Board) (n : ℕ) (x : Rest) (w₀ : List ℕ) (tasks : c.tasks ≡ b.tasks) (board : c.board ≡ b.cores) (tabled : Tabled c b n w₀) (stands : Stands c n x) where
  -- how far one copy goes here
  abbrev end : ℕ
  end = reach_of c n x w₀

  longest : Longest c x.from x.cores end
  longest = (tabled.laid x.from x.cores stands.inside stands.one_core (omega (arith, stands.room))).reaches

  pub reach_range : (x.from ≤ end) × (end ≤ c.tasks)
  reach_range = (longest.later, longest.inside)

  -- what spares ends no later
  spares_within : (l r q' : ℕ) → T (sparing_on c n x.before x.from l r x.cores q') → l ≤ end
  spares_within l r q' u =
      let f = spares_facts c n x.before x.from l r x.cores q' u in
      let one = (cases.and-true (copies_allowed c (x.from + 1) l r) (module_rules c (x.from + 1) l 1 x.cores) (sym (rules_apart c (x.from + 1) l r x.cores) ∙ f.fits.keeps)).1 in
      leb-true l end (sym (longest.exact l f.fits.later f.fits.inside) ∙ one)

  pub lengthened_start : {m : ℕ} → m ≡ no_plan c.board → Lengthened c n x w₀ w₀ m 0 true x.from
  lengthened_start e = record {
    later = le_refl x.from;
    most = longest.later;
    stays = sym (body_none c x.from x.cores);
    small = omega arith;
    copies = copies_empty c x.from;
    looked = looked_none c n x.before x.from x.cores w₀ (λ i j. i ≤ x.from) (so_far c n x w₀ x.from) e
        (λ l r q' h u. omega (arith, (spares_facts c n x.before x.from l r x.cores q' u).fits.later))
        (λ R. e ∙ last_start c n x.before x.from x.cores R);
  }

  module _ (w : List ℕ) (m stay : ℕ) (rep : Bool) (l : ℕ) (inv : Lengthened c n x w₀ w m stay rep l) where
    pub lengthened_tabled : Tabled c b n w
    lengthened_tabled = looked_tabled c n x.before x.from x.cores inv.looked b tasks board tabled

    -- with one task more the module still ends within its reach (M-102)
    pub lengthened_reached : l < end → ReachedIn w x.from (l + 1) x.cores
    lengthened_reached more =
        word_reached w x.from (l + 1) x.cores (omega (arith, inv.later))
        (omega (arith, looked_other c n x.before x.from x.cores inv.looked (reach_at x.from x.cores) (λ s u q d h. omega (arith, d.room, d.first, d.before, d.inside, tabled.area.sized.tasks_most, tabled.area.sized.cores_most))))

    module _ (more : l < end) {stay' : ℕ} {rep' : Bool}
        (adds : stay' ≡ stay + cond (ltb x.from l) (get_or w (internal_at (l - 1) x.cores) 0) 0 + get_or w (execution_at l x.cores) 0) (bound : stay' < stay + 8589934592)
        (asks : rep' ≡ (rep && copies_allowed c (l + 1) (l + 1) 2)) where
      next_stays : stay' ≡ body c (x.from + 1) (l + 1) x.cores
      next_stays =
          let q = x.cores in
          let low : q ≤ c.board = omega (arith, stands.room) in
          let inside : l < c.tasks = omega (arith, longest.inside) in
          let run = (lengthened_tabled.laid l q inside stands.one_core low).executes in
          ⊎_elim
          (λ (d : x.from < l).
          let back = l - 1 in
          let e : back + 1 ≡ l = omega arith in
          let pass : get_or w (internal_at (l - 1) q) 0 ≡ c.internal l q = (lengthened_tabled.laid (l - 1) q (omega arith) stands.one_core low).passes ∙ ap (λ i. c.internal i q) e in
          adds ∙ rw (run, pass, inv.stays) (sym (body_back c x.from l inv.later q)))
          (λ (d : l ≤ x.from). adds ∙ rw (le-ltb x.from l d, run, inv.stays) (sym (body_back c x.from l inv.later q ∙ rw (le-ltb x.from l d) refl)))
          (lt_or_le x.from l)

      next_copies : rep' ≡ copies_allowed c (x.from + 1) (l + 1) 2
      next_copies = asks ∙ rw inv.copies (sym (copies_back c x.from l inv.later))

      pub lengthened_loaded : {out : ℕ} → x.received < 4294967296 → c.tasks ≤ 12 → out ≡ handed c 2 → out < 4294967296
          → Loaded c x.before x.from x.cores (l + 1) (x.received + stay') stay' out rep'
      lengthened_loaded low few e little = record {
        reached = lengthened_reached more c lengthened_tabled.laid (omega (arith, longest.inside)) stands.one_core (omega (arith, stands.room));
        keeps = longest.exact (l + 1) (omega (arith, inv.later)) (omega (arith, longest.inside)) ∙ le-leb (l + 1) end (omega arith);
        taken = omega (arith, stands.receives);
        stays = next_stays;
        low = omega (arith, inv.small, longest.inside);
        handing = e;
        little = little;
        replicable = next_copies;
      }

      pub lengthened_next : {w' : List ℕ} {m' v : ℕ} → Looked c n x.before x.from x.cores w w' (λ i j. i ≡ l + 1) v (λ R. over_next (problem c) (sparing_on c n) R x.before x.from x.cores (l + 1))
          → m' ≡ lesser m v → Lengthened c n x w₀ w' m' stay' rep' (l + 1)
      lengthened_next {w'} {m'} {v} looked lower = record {
        later = omega (arith, inv.later);
        most = omega arith;
        stays = next_stays;
        small = omega (arith, inv.small);
        copies = next_copies;
        looked = looked_more c n x.before x.from x.cores inv.looked looked
            (λ i j h. ⊎_elim (λ (d : l < i). inr (omega arith)) (λ (d : i ≤ l). inl d) (lt_or_le l i)) (λ i j h. omega arith) (λ i j h. omega arith) lower
            (λ R reads d e. least_more (cap (problem c)) (l + 1) (over_next (problem c) (sparing_on c n) R x.before x.from x.cores) m m' d (lower ∙ ap (λ (z : ℕ). lesser m z) e));
      }

    -- the last with which one copy keeps the rules: that was all
    pub lengthened_end : end ≤ l → Looked c n x.before x.from x.cores w₀ w (λ i j. Unit {0}) m (λ R. over_last (problem c) (sparing_on c n) R x.before x.from x.cores)
    lengthened_end h =
        looked_all c n x.before x.from x.cores inv.looked (λ i j h. tt) (λ i r j _ u. omega (arith, spares_within i r j u))
        (λ R d. last_end c n x.before x.from x.cores R (l + 1) m (omega (arith, inv.most, longest.inside)) (λ i r j a u. omega (arith, spares_within i r j u)) d)

  -- with too few cores for one copy, and wherever no module spares, there is nothing to look at
  pub looked_nothing : {v : ℕ} → v ≡ no_plan c.board → ((l r q' : ℕ) → T (sparing_on c n x.before x.from l r x.cores q') → ⊥)
      → Looked c n x.before x.from x.cores w₀ w₀ (λ i j. Unit {0}) v (λ R. over_last (problem c) (sparing_on c n) R x.before x.from x.cores)
  looked_nothing {v} e f =
      looked_none c n x.before x.from x.cores w₀ (λ i j. Unit {0}) (λ R. over_last (problem c) (sparing_on c n) R x.before x.from x.cores) e (λ l r q' _ u. f l r q' u)
      (λ R. last_end c n x.before x.from x.cores R (x.from + 1) v (omega (arith, stands.inside)) (λ l r q' a u. f l r q' u) (e ∙ last_start c n x.before x.from x.cores R))

  pub spares_few : x.left < x.cores → (l r q' : ℕ) → T (sparing_on c n x.before x.from l r x.cores q') → ⊥
  spares_few h l r q' u =
      let f = spares_facts c n x.before x.from l r x.cores q' u in
      omega (arith, f.few, stands.left, mul-le-mul {n₁ = 1} {m₁ = x.cores} f.fits.one_copy (le_refl x.cores))
