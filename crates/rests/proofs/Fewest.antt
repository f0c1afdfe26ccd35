-- Rests by the words of a slack table: where there is one, and the fewest cores of one, of a rest and of a whole plan. By the laws of the slack
-- at a chain. Assumes nothing.
use mathlib.Core.Path.{◌≡◌, refl, sym, ◌∙◌}
use mathlib.Core.Bool.{Bool, true, false, not, ◌&&◌, ◌||◌}
use mathlib.Core.List.{List}
use mathlib.Core.Logic.{inl, inr, ⊎_elim}
use Prim.Native.Nat.{ℕ, suc, ◌+◌, ◌≤◌, ◌<◌}
use native.Mathlib.Nat.{eq-or-lt_of_le}
use native.Mathlib.Omega.{arith}
use lib.ListN.{length, get_or}
use lib.Dec.{T, ltb, leb, eqb, not_T}
use borrow.Author.Tests.{eq-eqb, ne_eqb, le-ltb, le-leb, lt-leb}
use Rattle.records.specs.declared.Board.{Board}
use Rattle.records.proofs.Cases.{lt_or_le}
use Rattle.modules.specs.Model.{Chain, transfer}
use Rattle.modules.proofs.Amounts.{no_sender}
use Rattle.search.specs.Find.{find, some}
use Rattle.search.proofs.Find.{some_i, some_e}
use Rattle.search.proofs.Sparing.{need_is, fewest_is}
use Rattle.slack.specs.Problem.{slack_on, enough_on, fewest_on, need_on}
use Rattle.slack.proofs.Enough.{slack_needs, enough_needs, enough_slack}
use Rattle.sketch.specs.Slacks.{slack_at, Slacked}
use Rattle.threshold.specs.Words.{AllFilled}
use Rattle.rests.specs.Words.{served_in, served_by, NeededBy, FewestBy}

module _ (c : Chain) (n : ℕ) where
  -- ---- where there is a rest

  -- after the last task there is no slack
  slack_last : (l q b : ℕ) → l ≡ c.tasks → slack_on c n l q b ≡ 0
  slack_last l q b e = ⊎_elim
      (λ (h : 0 < slack_on c n l q b). absurd (omega (arith, (slack_needs c n l q b h).0)))
      (λ h. omega arith)
      (lt_or_le 0 (slack_on c n l q b))

  served_last : (l q b e : ℕ) → l ≡ c.tasks → eqb q 0 ≡ served_in c n l q b e
  served_last l q b e h = rw (eq-eqb l c.tasks h, slack_last l q b h, le-ltb e 0 (omega arith)) (or_none (eqb q 0))
    where
      or_none : (x : Bool) → x ≡ ((true && x) || false)
      or_none true = refl
      or_none false = refl

  served_word : (l q b e : ℕ) {v : ℕ} → (l ≡ c.tasks → ⊥) → v ≡ slack_on c n l q b → ltb e v ≡ served_in c n l q b e
  served_word l q b e h d = rw (ne_eqb l c.tasks h, d)

  -- a rest has a module, and that has a core and no more than all
  served_none : (l q b e : ℕ) → (l ≡ c.tasks → ⊥) → (1 ≤ q → q ≤ b → ⊥) → false ≡ served_in c n l q b e
  served_none l q b e h unfit = sym (le-ltb e 0 (omega arith)) ∙ served_word l q b e h none
    where
      none : 0 ≡ slack_on c n l q b
      none = ⊎_elim
          (λ (u : 0 < slack_on c n l q b). let f = slack_needs c n l q b u in absurd (unfit f.1 f.2))
          (λ u. omega arith)
          (lt_or_le 0 (slack_on c n l q b))

  -- the words of the table say so
  pub served_is : (a : Board) (w : List ℕ) (l q b e : ℕ) → c.tasks ≡ a.tasks → AllFilled c n w → l ≤ c.tasks → b ≤ c.board → served_by a w l q b e ≡ served_in c n l q b e
  served_is a w l q b e tasks filled inside few = elim (eq-or-lt_of_le inside) [
    | inl h ↦ rw (eq-eqb l a.tasks (h ∙ tasks)) (served_last l q b e h)
    | inr h ↦ rw (ne_eqb l a.tasks (λ d. omega arith)) (later h)
  ]
    where
      later : l < c.tasks → (leb 1 q && leb q b && ltb e (get_or w (slack_at l q b) 0)) ≡ served_in c n l q b e
      later h =
          let other : l ≡ c.tasks → ⊥ = λ d. omega arith in
          ⊎_elim
          (λ (g : q < 1). rw (lt-leb 1 q g) (served_none l q b e other (λ some low. omega arith)))
          (λ (g : 1 ≤ q). ⊎_elim
          (λ (k : b < q). rw (le-leb 1 q g, lt-leb q b k) (served_none l q b e other (λ some low. omega arith)))
          (λ (k : q ≤ b). rw (le-leb 1 q g, le-leb q b k) (served_word l q b e other (filled l h q b g k few)))
          (lt_or_le b q))
          (lt_or_le q 1)

  -- ---- the fewest cores of a rest, by words that hold the slacks

  module _ (w : List ℕ) (filled : AllFilled c n w) (s t q e : ℕ) (some_task : 1 ≤ t) (inside : t < c.tasks) (one_core : 1 ≤ q) (sent : e ≡ transfer c t s q) where
    -- too few cores are not enough
    short : (b : ℕ) → (q ≤ b → get_or w (slack_at t q b) 0 ≤ e) → b ≤ c.board → T (not (enough_on c n s t q b))
    short b h low = not_T (enough_on c n s t q b) (λ u. ⊎_elim
        (λ (x : (t ≡ c.tasks) × (q ≡ 0)). absurd (omega (arith, x.0)))
        (λ (x : (t < c.tasks) × (1 ≤ q) × (q ≤ b) × (transfer c t s q < slack_on c n t q b)).
        omega (arith, x.3, filled t inside q b one_core x.2 low, h x.2))
        (enough_needs c n s t q b u))

    need_here : (x : ℕ) → q ≤ x → x ≤ c.board + 1 → (x ≤ c.board → e < get_or w (slack_at t q x) 0) → ((b : ℕ) → q ≤ b → b < x → get_or w (slack_at t q b) 0 ≤ e)
        → x ≡ need_on c n s t q
    need_here x low high here before =
        sym (need_is c.board (enough_on c n) s t q x some_task (omega arith)
        (λ h. enough_slack c n s t q x (omega (arith, here h, filled t inside q x one_core low h)))
        (λ b h. short b (λ g. before b g h) (omega arith)))

  pub needed_is : (a : Board) (w : List ℕ) (s : ℕ) {t q e r : ℕ} → c.board ≡ a.cores → a.cores ≤ 32 → 13068 ≤ length w → c.tasks ≤ 12 → AllFilled c n w → 1 ≤ t → t < c.tasks → 1 ≤ q → q ≤ a.cores
      → e ≡ transfer c t s q → NeededBy a w t q e r → r ≡ need_on c n s t q
  needed_is a w s {t} {q} {e} {r} board sized long tasks filled some_task inside one_core few sent needed =
      let f = needed.first few sized (omega arith) in
      need_here w filled s t q e some_task inside one_core sent r f.low (omega (arith, f.high)) (λ h. f.serves (omega arith)) f.none_before

  -- ---- the fewest cores of a whole plan

  module _ (w : List ℕ) (filled : AllFilled c n w) (some_task : 1 ≤ c.tasks) where
    slacked_some : (b : ℕ) → b ≤ c.board → Slacked w b → T (some (suc c.board) (λ q. enough_on c n 0 0 q b))
    slacked_some b low h =
        some_i (suc c.board) (λ q. enough_on c n 0 0 q b) h.q (omega (arith, h.cores_most))
        (enough_slack c n 0 0 h.q b (omega (arith, h.left, filled 0 (omega arith) h.q b h.one_core h.cores_most low, no_sender c 0 h.q)))

    some_slacked : (b : ℕ) → b ≤ c.board → T (some (suc c.board) (λ q. enough_on c n 0 0 q b)) → Slacked w b
    some_slacked b low u =
        let f : ℕ → Bool = λ q. enough_on c n 0 0 q b in
        let q = find (suc c.board) 0 f in
        ⊎_elim
        (λ (x : (0 ≡ c.tasks) × (q ≡ 0)). absurd (omega (arith, x.0)))
        (λ (x : (0 < c.tasks) × (1 ≤ q) × (q ≤ b) × (transfer c 0 0 q < slack_on c n 0 q b)).
        record { q = q; one_core = x.1; cores_most = x.2; left = omega (arith, x.3, filled 0 (omega arith) q b x.1 x.2 low) })
        (enough_needs c n 0 0 q b (some_e (suc c.board) f u))

    fewest_here : (x : ℕ) → x ≤ c.board + 1 → (x ≤ c.board → Slacked w x) → ((b : ℕ) → b < x → Slacked w b → ⊥) → x ≡ fewest_on c n
    fewest_here x high here before =
        sym (fewest_is c.board (enough_on c n) x (omega arith) (λ h. slacked_some x h (here h))
        (λ b h. not_T (some (suc c.board) (λ q. enough_on c n 0 0 q b)) (λ u. before b h (some_slacked b (omega arith) u))))

    pub fewest_found : {cores r : ℕ} → c.board ≡ cores → cores ≤ 32 → FewestBy cores w r → r ≡ fewest_on c n
    fewest_found {cores} {r} board sized found =
        let f = found.first sized in
        fewest_here r (omega (arith, f.0)) (λ h. f.1 (omega arith)) f.2
