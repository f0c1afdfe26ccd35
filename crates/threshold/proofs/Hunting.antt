-- The search for the least threshold in its steps: what a try at one threshold says, how it narrows the bracket, and when a bracket is
-- decided. By the slack table, which decides whether some plan is within a threshold. Assumes nothing.
use mathlib.Core.Path.{◌≡◌, refl, sym, subst}
use mathlib.Core.List.{List}
use mathlib.Core.Logic.{inl, inr, ⊎_elim}
use Prim.Native.Nat.{ℕ, zero, suc, min, ◌+◌, ◌-◌, ◌*◌, ◌/◌, ◌≤◌, ◌<◌}
use native.Mathlib.Omega.{arith}
use lib.ListN.{length}
use Rattle.std.specs.Prelude.{IfSome}
use Rattle.std.proofs.Common.{Option, None, Some, unwrap_or}
use Rattle.records.specs.declared.Board.{Board}
use Rattle.records.proofs.Cases.{lt_or_le}
use Rattle.modules.specs.Model.{Chain}
use Rattle.slack.specs.Problem.{top_threshold, problem, SomeWithin}
use Rattle.slack.proofs.Chain.{found_slack}
use Rattle.slack.proofs.Splits.{found_more}
use Rattle.guess.specs.declared.Hunt.{Hunt}
use Rattle.sketch.specs.Slacks.{Slacked}
use Rattle.offers.specs.Words.{Area}
use Rattle.threshold.specs.Words.{KeptBeyond, Laid, AllFilled}
use Rattle.threshold.specs.Threshold.{Decided, Searched, Bracket, power, Tried}

-- each power of 2 is twice the one before
power_half : (n : ℕ) → 1 ≤ n → power n ≡ 2 * power (n - 1)
unfolding power
power_half zero h = absurd (omega arith)
power_half (suc n) h = let e : suc n - 1 ≡ n = omega arith in rw e refl

-- 2³⁵ is more than the greatest threshold, and nothing is below 2⁰ but 0
power_most : power 35 ≡ 34359738368
unfolding power
power_most = refl

power_none : (n : ℕ) → n ≤ 0 → power n ≡ 1
unfolding power
power_none n h = let e : n ≡ 0 = omega arith in rw e refl

module _ (c : Chain) where
  -- ---- what is known of one threshold

  module _ (some : 1 ≤ c.tasks) where
    module _ (n : ℕ) (w : List ℕ) (filled : AllFilled c n w) where
      -- a slack in the first row of the table is a plan within its threshold, and without one there is none
      pub slacked_within : Slacked w c.board → SomeWithin c n
      slacked_within s = (found_slack c some n c.board).1 (record {
        q = s.q;
        one_core = s.one_core;
        cores_most = s.cores_most;
        left = omega (arith, s.left, filled 0 some s.q c.board s.one_core s.cores_most (omega arith));
      })

      pub within_slacked : SomeWithin c n → Slacked w c.board
      within_slacked f =
          let s = (found_slack c some n c.board).0 f in
          record {
            q = s.q;
            one_core = s.one_core;
            cores_most = s.cores_most;
            left = omega (arith, s.left, filled 0 some s.q c.board s.one_core s.cores_most (omega arith));
          }

  -- ---- the bracket

  -- it starts with all thresholds
  pub bracket_start : {lo hi : ℕ} → lo ≡ 0 → hi ≡ top_threshold + 1 → Bracket c lo hi
  bracket_start e f = record {
    ordered = omega arith;
    high = omega arith;
    none_below = λ m h x. absurd (omega arith);
    some_plan = λ h. absurd (omega arith);
  }

  -- without a plan within n it starts above n: a plan within less is within n
  pub bracket_missed : {lo hi lo' hi' : ℕ} (n : ℕ) → n < hi → Bracket c lo hi → (SomeWithin c n → ⊥) → lo' ≡ n + 1 → hi' ≡ hi → Bracket c lo' hi'
  bracket_missed {lo} {hi} {lo'} {hi'} n h b nothing e f = record {
    ordered = omega arith;
    high = omega (arith, b.high);
    none_below = λ m k x. nothing (found_more (problem c) m n c.board (omega arith) x);
    some_plan = λ k. subst (SomeWithin c) (sym f) (b.some_plan (omega arith));
  }

  -- with one it goes down to that plan's threshold, which is not below it
  pub bracket_found : {lo hi lo' hi' : ℕ} (n : ℕ) → n < hi → Bracket c lo hi → lo' ≡ lo → hi' ≤ n → SomeWithin c hi' → Bracket c lo' hi'
  bracket_found {lo} {hi} {lo'} {hi'} n h b e f within = record {
    ordered = ⊎_elim (λ k. absurd (b.none_below hi' (omega arith) within)) (λ k. k) (lt_or_le hi' lo');
    high = omega (arith, b.high);
    none_below = λ m k. b.none_below m (omega arith);
    some_plan = λ k. within;
  }

  -- n stands for a judged plan's threshold where there is none
  pub own_within : (n : ℕ) (own : Option ℕ) → SomeWithin c n → IfSome own (SomeWithin c) → SomeWithin c (unwrap_or own n)
  own_within n None within judged = within
  own_within n (Some m) within judged = judged

  -- the lesser of n and a judged plan's own threshold has a plan too
  pub lesser_within : {hi : ℕ} (n own : ℕ) → SomeWithin c n → SomeWithin c own → hi ≡ min n own
      → (hi ≤ n) × SomeWithin c hi
  lesser_within {hi} n own within judged e = ⊎_elim
      (λ k. let d : hi ≡ n = omega arith in (omega arith, subst (SomeWithin c) (sym d) within))
      (λ k. let d : hi ≡ own = omega arith in
      (omega arith, subst (SomeWithin c) (sym d) judged))
      (lt_or_le n own)

  -- ---- one try

  module _ {h h' : Hunt} (n : ℕ) (below : n < h.hi) (b : Bracket c h.lo h.hi) where
    -- without a plan
    pub tried_missed : (SomeWithin c n → ⊥) → (h'.lo ≡ n + 1) × (h'.hi ≡ h.hi) → Tried c n h h'
    tried_missed nothing (lo, hi) = record { bracket = bracket_missed n below b nothing lo hi; moved = inr (lo, hi) }

    -- with one
    pub tried_found : (own : ℕ) → SomeWithin c n → SomeWithin c own
        → (h'.lo ≡ h.lo) × (h'.hi ≡ min n own) → Tried c n h h'
    tried_found own within judged (lo, hi) =
        let x = lesser_within n own within judged hi in
        record { bracket = bracket_found n below b lo x.0 x.1; moved = inl (lo, x.0) }

  -- ---- tries that halve

  -- every bracket is narrower than 2³⁵
  pub bracket_narrow : {lo hi : ℕ} → Bracket c lo hi → hi < lo + power 35
  bracket_narrow b = omega (arith, b.high, power_most)

  -- a try in the middle leaves half the width
  pub tried_half : {h h' : Hunt} {n : ℕ} (left : ℕ) → 1 ≤ left → n ≡ (h.lo + h.hi) / 2 → h.lo < h.hi → h.hi < h.lo + power left → Tried c n h h'
      → h'.hi < h'.lo + power (left - 1)
  tried_half left some e k wide t =
      let twice = power_half left some in
      ⊎_elim (λ x. omega (arith, x.0, x.1, twice)) (λ x. omega (arith, x.0, x.1, twice)) t.moved

  -- one that is narrower than 2⁰ has no width
  pub width_none : (lo hi left : ℕ) → left ≤ 0 → hi < lo + power left → hi ≤ lo
  width_none lo hi left e h = omega (arith, power_none left e)

  -- a bracket of no width decides
  pub bracket_decided : {lo hi : ℕ} → Bracket c lo hi → hi ≤ lo → Decided c lo
  bracket_decided {lo} {hi} b h =
      let e : lo ≡ hi = omega (arith, b.ordered) in
      record {
        high = omega (arith, b.high);
        some_plan = λ k. subst (SomeWithin c) (sym e) (b.some_plan (omega arith));
        none_below = b.none_below;
      }

-- ---- the whole search

-- words without room are refused, and come back as they were
pub searched_refused : (c : Chain) (b : Board) (w : List ℕ) → (Area b w → ⊥) → Searched c b w w None
searched_refused c b w out = record { long = refl; answered = λ a. absurd (out a); laid = λ a. absurd (out a); refused = λ x. (refl, refl); kept = λ j h. refl }

-- words with room are answered, and hold what is laid and the slack table of the answer, and behind the tables what they held
module _ (c : Chain) (b : Board) (w : List ℕ) {w' : List ℕ} {r : ℕ} (room : Area b w) (decided : Decided c r) (long : length w' ≡ length w) (laid : Laid c w') (kept : KeptBeyond w w') where
  pub searched_none : top_threshold < r → Searched c b w w' None
  searched_none h =
      let e : r ≡ top_threshold + 1 = omega (arith, decided.high) in
      record { long = long; answered = λ a. subst (Decided c) e decided; laid = λ a. laid; refused = λ x. absurd (x room); kept = kept }

  pub searched_some : r ≤ top_threshold → AllFilled c r w' → Searched c b w w' (Some r)
  searched_some h filled = record { long = long; answered = (room, h, decided, filled); laid = λ a. laid; refused = λ x. absurd (x room); kept = kept }
