-- What modules that end with a task push by what they leave, and the table by modules that end after a task, which each task that is ended takes
-- one further. By the laws of the slack table of a chain.
use Prim.Native.Nat.{ℕ, ◌+◌, ◌-◌, ◌*◌, ◌≤◌, ◌<◌}
use native.Mathlib.Nat.{le_refl}
use native.Mathlib.Omega.{arith}
use mathlib.Core.Path.{◌≡◌, refl, sym, ◌∙◌}
use mathlib.Core.Bool.{Bool, true, false}
use mathlib.Core.Logic.{⊎_elim}
use mathlib.Core.List.{List}
use lib.ListN.{length, get_or}
use Rattle.records.proofs.Cases.{lt_or_le, true_or_false}
use Rattle.modules.specs.Model.{Chain, handed}
use Rattle.slack.specs.Fill.{more_by, best_by, ends_at}
use Rattle.slack.specs.Problem.{none, top_threshold, fits_on, replicable_on, body_on, cheapest_on, one_on, any_on, after_on}
use Rattle.slack.proofs.After.{ends_before, ends_not, ends_any, ends_one}
use Rattle.slack.proofs.Greatest.{larger_ge, larger_zero}
use Rattle.slack.proofs.Chain.{after_start, after_next, after_slack}
use Rattle.sketch.specs.Slacks.{slack_at}
use Rattle.offers.specs.Words.{time_at, RowFilled, LeastRest}
use Rattle.offers.specs.Leaving.{Left}
use Rattle.offers.proofs.Offering.{one_bare, any_bare}
use Rattle.threshold.specs.Words.{reach_at, Laid, AllFilled, FilledAfter, OneNoMore, Pushed, NoSlacks}

-- ---- modules that leave nothing

-- no slack is below nothing
pub ends_nothing : (fits : (t l q : ℕ) → Bool) (rep : (t l : ℕ) → Bool) (body : (t l q : ℕ) → ℕ) (O B : (l q b : ℕ) → ℕ) (t q b l : ℕ) → O l q b ≡ 0 → B l q b ≡ 0
    → ends_at fits rep body O B t q b l ≡ 0
ends_nothing fits rep body O B t q b l o e = ⊎_elim
    (λ (d : t < l). ⊎_elim
    (λ (f : fits t l q ≡ true). ⊎_elim
    (λ (r : rep t l ≡ true). omega (arith, ends_any fits rep body O B t q b l d f r))
    (λ (r : rep t l ≡ false). omega (arith, ends_one fits rep body O B t q b l d f r))
    (true_or_false (rep t l)))
    (λ (f : fits t l q ≡ false). ends_not fits rep body O B t q b l f)
    (true_or_false (fits t l q)))
    (λ (d : l ≤ t). ends_before fits rep body O B t q b l d)
    (lt_or_le t l)

-- where none of them leaves something all slacks are as they should be
pub pushed_nothing : (c : Chain) (w : List ℕ) (one any : ℕ → ℕ) (l q : ℕ) → ((b : ℕ) → q ≤ b → b ≤ c.board → (one b ≡ 0) × (any b ≡ 0)) → Pushed c w w one any 0 l q
pushed_nothing c w one any l q bare = record {
  long = refl;
  made = λ t b f g u v.
      let (o, a) = bare b u v in
      sym (rw (ends_nothing (fits_on c) (replicable_on c) (body_on c) (λ l q b. one b) (λ l q b. any b) t q b l o a) (larger_zero _));
  kept = λ j x. refl;
}

-- nothing is pushed where nothing can be sent to the rests that fit beside one copy
pub pushed_bare : (c : Chain) (n l q : ℕ) (w : List ℕ) → n ≤ top_threshold → 1 ≤ q → c.board ≤ 32 → ((b : ℕ) → b + q ≤ c.board → cheapest_on c n l q b ≡ none)
    → Pushed c w w (one_on c n l q) (any_on c n l q) 0 l q
pushed_bare c n l q w high some few bare = pushed_nothing c w (one_on c n l q) (any_on c n l q) l q (λ b u v. (
  one_bare n (handed c 2) (cheapest_on c n) l q b (c.board + 1 - q) high some (omega arith) (λ x h. bare x (omega arith)) (omega arith),
  any_bare n (handed c 2) (cheapest_on c n) l q b (c.board + 1 - q) high some (omega arith) (λ x h. bare x (omega arith)) (omega arith),
))

-- ---- what is pushed is what modules leave

-- a slack depends on what copies leave with its cores only
ends_same : (fits : (t l q : ℕ) → Bool) (rep : (t l : ℕ) → Bool) (body : (t l q : ℕ) → ℕ) (O O' B B' : (l q b : ℕ) → ℕ) (t q b l : ℕ) → O l q b ≡ O' l q b → B l q b ≡ B' l q b
    → ends_at fits rep body O B t q b l ≡ ends_at fits rep body O' B' t q b l
unfolding ends_at
ends_same fits rep body O O' B B' t q b l e d = rw (e, d) refl

pub pushed_right : (c : Chain) (n l q start : ℕ) (left w w' : List ℕ) → Left c n l q left start → Pushed c w w' (λ b. get_or left b 0) (λ b. get_or left (33 + b) 0) 0 l q
    → Pushed c w w' (one_on c n l q) (any_on c n l q) 0 l q
pushed_right c n l q start left w w' leaves pushed = record {
  long = pushed.long;
  made = λ t b f g u v. pushed.made t b f g u v ∙ rw (ends_same (fits_on c) (replicable_on c) (body_on c) (λ l q b. get_or left b 0) (λ i p b. one_on c n l q b) (λ l q b. get_or left (33 + b) 0) (λ i p b. any_on c n l q b) t q b l
      (leaves.one b u v) (leaves.any b u v)) refl;
  kept = pushed.kept;
}

-- nothing is pushed where copies leave nothing with any of the board's cores
pub pushed_short : (c : Chain) (n l q start : ℕ) (left w : List ℕ) → Left c n l q left start → c.board < start → Pushed c w w (one_on c n l q) (any_on c n l q) 0 l q
pushed_short c n l q start left w leaves over = pushed_nothing c w (one_on c n l q) (any_on c n l q) l q (λ b u v.
    let z = leaves.bare b u (omega arith) in
    (sym (leaves.one b u v) ∙ z.0, sym (leaves.any b u v) ∙ z.1))

-- what one copy leaves any do too
pub left_no_more : (c : Chain) (n l q start : ℕ) (left : List ℕ) → Left c n l q left start → OneNoMore left q c.board
unfolding best_by
left_no_more c n l q start left leaves b u v =
    omega (arith, leaves.one b u v, leaves.any b u v, (larger_ge (one_on c n l q b) (more_by (time_at n) (handed c 2) (cheapest_on c n) l q b)).0)

-- ---- the words of the tasks

-- they stand where no slack does
pub laid_words : (c : Chain) (w w' : List ℕ) → ((j : ℕ) → 13068 ≤ j → get_or w' j 0 ≡ get_or w j 0) → Laid c w → Laid c w'
laid_words c w w' same laid t q h some low =
    let k = laid t q h some low in
    record {
      executes = same _ (omega arith) ∙ k.executes;
      passes = same _ (omega arith) ∙ k.passes;
      reaches = rw (same (reach_at t q) (omega arith)) k.reaches;
    }

-- two slacks that stand at one place are of rests after one task, with first modules of as many cores
slack_place : (t p b t' q b' : ℕ) → p ≤ 32 → b ≤ 32 → q ≤ 32 → b' ≤ 32 → slack_at t p b ≡ slack_at t' q b' → p ≡ q
slack_place t p b t' q b' h u g v e =
    let task : t ≡ t' = ⊎_elim (λ d. absurd (omega arith)) (λ d. ⊎_elim (λ f. absurd (omega arith)) (λ f. omega arith) (lt_or_le t' t)) (lt_or_le t t') in
    ⊎_elim (λ d. absurd (omega arith)) (λ d. ⊎_elim (λ f. absurd (omega arith)) (λ f. omega arith) (lt_or_le q p)) (lt_or_le p q)

-- ---- one task ended, number of cores by number of cores

-- modules of fewer than q cores that end with l are pushed, and no others; the slacks of rests after l are as they were
pub record Ended (c : Chain) (n : ℕ) (w₀ w : List ℕ) (l q : ℕ) : Type 0 where
  pub long : length w ≡ length w₀
  pub laid : Laid c w
  pub later : (j : ℕ) → l * 1089 ≤ j → get_or w j 0 ≡ get_or w₀ j 0
  pub done : (t p b : ℕ) → t < c.tasks → 1 ≤ p → p < q → p ≤ b → b ≤ c.board → get_or w (slack_at t p b) 0 ≡ after_on c n (l - 1) t p b
  pub left : (t p b : ℕ) → t < c.tasks → q ≤ p → p ≤ b → b ≤ c.board → get_or w (slack_at t p b) 0 ≡ after_on c n l t p b

module _ (c : Chain) (n : ℕ) (low : n ≤ top_threshold) (few : c.tasks ≤ 12) (board : c.board ≤ 32) (w₀ : List ℕ) (l : ℕ) (some : 1 ≤ l) (inside : l ≤ c.tasks) where
  -- rests that start after l or later know no module that ends with l
  rest_same : (t p b : ℕ) → l ≤ t → 1 ≤ p → b ≤ c.board → after_on c n l t p b ≡ after_on c n (l - 1) t p b
  rest_same t p b h u v = after_slack c n low l t p b h u (omega arith) ∙ sym (after_slack c n low (l - 1) t p b (omega arith) u (omega arith))

  module _ (w : List ℕ) (q : ℕ) (positive : 1 ≤ q) (ended : Ended c n w₀ w l q) where
    -- the row l holds the slacks of the rests after it
    pub ended_row : l < c.tasks → RowFilled c n w l
    ended_row h p b u v x = ⊎_elim
        (λ d. ended.done l p b h u d v x ∙ after_slack c n low (l - 1) l p b (omega arith) u (omega arith))
        (λ d. ended.left l p b h d v x ∙ after_slack c n low l l p b (le_refl l) u (omega arith))
        (lt_or_le p q)

    -- and no rest of few cores has got a slack
    pub ended_rest : (k cores least : ℕ) → LeastRest k cores w₀ l least → LeastRest k cores w l least
    ended_rest k cores least rest = record { high = rest.high; last = rest.last; bare = λ p b u v x. ended.later _ (omega arith) ∙ rest.bare p b u v x }

    pub ended_more : (w' : List ℕ) → q ≤ c.board → Pushed c w w' (one_on c n l q) (any_on c n l q) 0 l q → Ended c n w₀ w' l (q + 1)
    ended_more w' inner pushed = record {
      long = pushed.long ∙ ended.long;
      laid = laid_words c w w' (λ j h. pushed.kept j (λ t b f g u v e. omega arith)) ended.laid;
      later = λ j h. pushed.kept j (λ t b f g u v e. omega arith) ∙ ended.later j h;
      done = λ t p b h g u v x. ⊎_elim
          (λ d. other t p b h (λ e. omega arith) v x ∙ ended.done t p b h g d v x)
          (λ d. let e : p ≡ q = omega arith in rw e (own t b h (omega arith) x))
          (lt_or_le p q);
      left = λ t p b h u v x. other t p b h (λ e. omega arith) v x ∙ ended.left t p b h (omega arith) v x;
    }
      where
        other : (t p b : ℕ) → t < c.tasks → (p ≡ q → ⊥) → p ≤ b → b ≤ c.board → get_or w' (slack_at t p b) 0 ≡ get_or w (slack_at t p b) 0
        other t p b h x u v = pushed.kept (slack_at t p b) (λ t' b' f g y z e. x (slack_place t p b t' q b' (omega arith) (omega arith) (omega arith) (omega arith) e))

        own : (t b : ℕ) → t < c.tasks → q ≤ b → b ≤ c.board → get_or w' (slack_at t q b) 0 ≡ after_on c n (l - 1) t q b
        own t b h u v = ⊎_elim
            (λ d.
            let z : l - 1 + 1 ≡ l = omega arith in
            pushed.made t b (omega arith) d u v
            ∙ rw (ended.left t q b h (le_refl q) u v, ends_same (fits_on c) (replicable_on c) (body_on c) (λ i p b. one_on c n l q b) (one_on c n) (λ i p b. any_on c n l q b) (any_on c n) t q b l refl refl) refl
            ∙ sym (rw z at (after_next c n low (l - 1) t q b (omega arith))))
            (λ d.
            pushed.kept (slack_at t q b) (λ t' b' f g y x e. omega arith) ∙ ended.left t q b h (le_refl q) u v ∙ rest_same t q b d positive v)
            (lt_or_le t l)

  pub ended_all : (w : List ℕ) (q : ℕ) → c.board < q → Ended c n w₀ w l q → FilledAfter c n w (l - 1)
  ended_all w q over ended t p b h u v x = ended.done t p b h u (omega arith) v x

-- ---- the whole table

pub cleared_after : (c : Chain) (n : ℕ) → n ≤ top_threshold → (w w' : List ℕ) → NoSlacks w w' c.tasks c.board → FilledAfter c n w' c.tasks
cleared_after c n low w w' cleared t q b h u v x = cleared.made t q b h v x ∙ sym (after_start c n low t q b)

pub filled_all : (c : Chain) (n : ℕ) → n ≤ top_threshold → c.board ≤ 32 → (w : List ℕ) → FilledAfter c n w 0 → AllFilled c n w
filled_all c n low board w filled t h q b u v x = filled t q b h u v x ∙ after_slack c n low 0 t q b (omega arith) u (omega arith)
