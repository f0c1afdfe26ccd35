-- The row of cheapest transfers as the loop over the next module's cores keeps it, where the words hold the slacks of the rests. By the laws
-- of the row of words, and because the slack rises with the cores.
use Prim.Native.Nat.{ℕ, suc, ◌+◌, ◌*◌, ◌≤◌, ◌<◌, min, max}
use native.Mathlib.Omega.{arith}
use mathlib.Core.Path.{◌≡◌, refl, sym, ap, ◌∙◌}
use mathlib.Core.Bool.{true, false}
use mathlib.Core.Logic.{⊎_elim}
use lib.Dec.{eqb}
use mathlib.Core.List.{List}
use lib.ListN.{length, get_or, set, replicate, length-replicate, get_or-replicate}
use borrow.Author.Tests.{eq-eqb, ne_eqb, le-ltb}
use lib.Seq.{get_or-set_same, get_or-set_other}
use Rattle.records.proofs.Cases.{lt_or_le, true_or_false}
use Rattle.modules.specs.Model.{Chain, transfer}
use Rattle.search.specs.Least.{pick, least}
use Rattle.search.proofs.Least.{lesser_min, least_ext, least_none}
use Rattle.slack.specs.Fill.{lowest, chance, cheapest}
use Rattle.slack.specs.Problem.{none, split_on, slack_on, cheapest_on}
use Rattle.slack.proofs.Slack.{slack_rises, slack_zero, slack_narrow}
use Rattle.slack.proofs.Cheapest.{row_start, row_same, row_next, row_end, cheapest_last}
use Rattle.offers.specs.Words.{RowFilled, Cheapest, unsent, FirstServed, NoRest, LeastRest}

-- the least up to an entry depends on the entries up to it
lowest_ext : (f g : ℕ → ℕ) (c : ℕ) → ((j : ℕ) → j ≤ c → f j ≡ g j) → lowest none f c ≡ lowest none g c
unfolding lowest
lowest_ext f g c h = least_ext none _ f g (λ j l. h j (omega arith))

-- ---- a blank row

pub unsent_last : (k l : ℕ) → l ≡ k → unsent k l ≡ 0
unsent_last k l h = rw (eq-eqb l k h) refl

pub unsent_before : (k l : ℕ) → l < k → unsent k l ≡ none
unsent_before k l h = rw (ne_eqb l k (λ e. omega arith)) refl

pub blank_length : (row : List ℕ) (v : ℕ) → row ≡ replicate 33 v → length row ≡ 33
blank_length row v e = ap length e ∙ length-replicate 33 v

pub blank_entry : (row : List ℕ) (v j : ℕ) → row ≡ replicate 33 v → j ≤ 32 → get_or row j 0 ≡ v
blank_entry row v j e h = ap (λ x. get_or x j 0) e ∙ get_or-replicate 33 j v 0 (omega arith)

-- behind the last task it is right as it is
pub blank_cheapest : (c : Chain) (n : ℕ) (row : List ℕ) (l q : ℕ) → l ≡ c.tasks → c.board ≤ 32 → row ≡ replicate 33 (unsent c.tasks l) → Cheapest c n row l q
unfolding transfer
blank_cheapest c n row l q last few blank b h =
    let e : cheapest_on c n l q b ≡ 0 = rw last (cheapest_last c.tasks none (transfer c) (slack_on c n) q b nothing) in
    blank_entry row (unsent c.tasks l) b blank (omega arith) ∙ unsent_last c.tasks l last ∙ sym e
  where
    nothing : transfer c c.tasks q 0 ≡ 0
    nothing = ⊎_elim (λ (t : eqb q 0 ≡ true). simp t) (λ (t : eqb q 0 ≡ false). simp t) (true_or_false (eqb q 0))

-- ---- rests of too few cores

module _ (c : Chain) (n : ℕ) (w : List ℕ) (l q least : ℕ) (inside : l ≤ c.tasks) (rest : LeastRest c.tasks c.board w l least) (filled : l < c.tasks → RowFilled c n w l) (b : ℕ)
    (low : b < least) (board : b ≤ c.board) where
  before : l < c.tasks
  before = ⊎_elim (λ d. d) (λ d. absurd (omega (arith, rest.last (omega arith)))) (lt_or_le l c.tasks)

  no_slack : (i : ℕ) → slack_on c n l i b ≡ 0
  no_slack i = ⊎_elim
      (λ d. slack_narrow (split_on c n) l i b d)
      (λ d. ⊎_elim
      (λ u. sym (filled before i b u d board) ∙ rest.bare i b u d low)
      (λ u. let e : i ≡ 0 = omega arith in rw e (slack_zero (split_on c n) l b))
      (lt_or_le 0 i))
      (lt_or_le b i)

  no_chance : (i : ℕ) → chance c.tasks none (transfer c) (slack_on c n) l q b i ≡ none
  unfolding chance pick
  no_chance i = rw (no_slack i, ne_eqb l c.tasks (λ e. omega (arith, before)), le-ltb (transfer c l q i) 0 (omega arith)) refl

  -- nothing is sent to them
  pub unsent_least : cheapest_on c n l q b ≡ none
  unfolding cheapest
  unsent_least = least_none none (suc b) (chance c.tasks none (transfer c) (slack_on c n) l q b) (λ i d. omega (arith, no_chance i))

-- ---- entries

module _ (c : Chain) (w : List ℕ) (l q end : ℕ) where
  -- what the row holds once the next modules below i are entered, at whatever threshold the words are
  abbrev pub Entered : List ℕ → ℕ → Type 0
  Entered row i = (n : ℕ) → RowFilled c n w l → (b : ℕ) → b ≤ end
      → lowest none (λ j. get_or row j 0) b ≡ least none i (chance c.tasks none (transfer c) (slack_on c n) l q b)

  module _ (before : l < c.tasks) (inside : end ≤ c.board) where
    pub entered_none : (row : List ℕ) → ((j : ℕ) → j ≤ end → get_or row j 0 ≡ none) → Entered row 1
    entered_none row h n filled b low =
        row_start c.tasks none (transfer c) (slack_on c n) l q before (λ j. get_or row j 0) b (λ j d. h j (omega arith)) (omega (arith, slack_zero (split_on c n) l b))

    -- the next module of i cores is entered at r, which is the first from i or the fewest cores of a rest on
    pub entered_more : (row : List ℕ) (i e r v least from : ℕ) → 1 ≤ i → e ≡ transfer c l q i → NoRest w l least → from ≡ max i least
        → FirstServed w (l * 1089 + i * 33) from end e r → r < length row → v ≡ min (get_or row r 0) e → Entered row i → Entered (set row r v) (i + 1)
    entered_more row i e r v least from some is rest start first long ev h n filled b low = ⊎_elim
        (λ (d : end < r).
        row_same c.tasks none (transfer c) (slack_on c n) l q before (λ j. get_or (set row r v) j 0) i e end is
        (λ a u. unserved a u (omega arith))
        (λ a u. lowest_ext (λ j. get_or (set row r v) j 0) (λ j. get_or row j 0) a (λ j g. get_or-set_other row r j v 0 (omega arith)) ∙ h n filled a u)
        b low)
        (λ (d : r ≤ end).
        row_next c.tasks none (transfer c) (slack_on c n) l q before (λ q' a a' u. slack_rises (split_on c n) l q' a a' u)
        (λ j. get_or row j 0) (λ j. get_or (set row r v) j 0) i e r end is
        (omega (arith, first.serves d, filled i r some (omega (arith, first.low, start)) (omega arith)))
        (λ a u. unserved a (omega arith) u)
        (get_or-set_same row r v 0 long ∙ ev ∙ lesser_min _ _)
        (λ j u x. get_or-set_other row r j v 0 x)
        (h n filled) b low)
        (lt_or_le end r)
      where
        unserved : (a : ℕ) → a ≤ end → a < r → slack_on c n l i a ≤ e
        unserved a u x = ⊎_elim
            (λ y. omega (arith, slack_narrow (split_on c n) l i a y))
            (λ y. ⊎_elim
            (λ (z : a < from). omega (arith, rest i a some y (omega (arith, start, z)), filled i a some y (omega arith)))
            (λ z. omega (arith, first.none_before a z x, filled i a some y (omega arith)))
            (lt_or_le a from))
            (lt_or_le a i)

    -- the next module of i cores leads no rest with all cores that are left, so none with fewer
    pub entered_same : (row : List ℕ) (i : ℕ) → 1 ≤ i → i ≤ end → get_or w (l * 1089 + i * 33 + end) 0 ≡ 0 → Entered row i → Entered row (i + 1)
    entered_same row i some fits bare h n filled b low =
        row_same c.tasks none (transfer c) (slack_on c n) l q before (λ j. get_or row j 0) i (transfer c l q i) end refl
        (λ a u. omega (arith, slack_rises (split_on c n) l i a end u, filled i end some fits inside))
        (h n filled) b low

    -- all that can lead a rest of at most b cores are entered
    pub entered_all : (row : List ℕ) (i : ℕ) → end < i → Entered row i → (n : ℕ) → RowFilled c n w l → (b : ℕ) → b ≤ end
        → lowest none (λ j. get_or row j 0) b ≡ cheapest_on c n l q b
    entered_all row i done h n filled b low =
        h n filled b low ∙ row_end c.tasks none (transfer c) (slack_on c n) l q before i b (omega arith) (λ q' u. slack_narrow (split_on c n) l q' b u)
