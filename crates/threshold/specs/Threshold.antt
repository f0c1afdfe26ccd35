-- The least threshold that some plan is within: what the service promises. Assumes nothing.
use Rattle.std.specs.Prelude.{ℕ, zero, suc, ◌+◌, ◌*◌, ◌≤◌, ◌<◌, ◌≡◌, List, ◌⊎◌, Option, None, MatchOption, length}
use Rattle.records.specs.declared.Board.{Board}
use Rattle.modules.specs.Model.{Chain}
use Rattle.slack.specs.Problem.{top_threshold, SomeWithin}
use Rattle.guess.specs.declared.Hunt.{Hunt}
use Rattle.offers.specs.Words.{Area}
use Rattle.threshold.specs.Words.{KeptBeyond, Laid, AllFilled}

-- r is the least threshold up to the greatest that some plan is within; one more than the greatest where there is none
pub record Decided (c : Chain) (r : ℕ) : Type 0 where
  pub high : r ≤ top_threshold + 1
  pub some_plan : r ≤ top_threshold → SomeWithin c r
  pub none_below : (m : ℕ) → m < r → SomeWithin c m → ⊥

-- what is answered to a board and words, and what the words are afterwards: what is laid and the slack table of the answer, where some plan
-- is within it; or as lent where the board is out of range or the words are too few; behind the tables as lent in each case
pub record Searched (c : Chain) (b : Board) (w w' : List ℕ) (r : Option ℕ) : Type 0 where
  pub long : length w' ≡ length w
  pub answered : MatchOption r (Area b w → Decided c (top_threshold + 1)) (λ n. Area b w × (n ≤ top_threshold) × Decided c n × AllFilled c n w')
  pub laid : Area b w → Laid c w'
  pub refused : (Area b w → ⊥) → (r ≡ None) × (w' ≡ w)
  pub kept : KeptBeyond w w'

-- ---- the search

-- no plan is within a threshold below lo; some plan is within hi, or hi is one more than the greatest threshold
pub record Bracket (c : Chain) (lo hi : ℕ) : Type 0 where
  pub ordered : lo ≤ hi
  pub high : hi ≤ top_threshold + 1
  pub none_below : (m : ℕ) → m < lo → SomeWithin c m → ⊥
  pub some_plan : hi ≤ top_threshold → SomeWithin c hi

-- 2 to the n
unfoldable pub power : ℕ → ℕ
power zero = 1
power (suc n) = 2 * power n

-- a try at n has taken the upper end of the bracket down, to n or below, or the lower end up to n + 1
pub record Tried (c : Chain) (n : ℕ) (h h' : Hunt) : Type 0 where
  pub bracket : Bracket c h'.lo h'.hi
  pub moved : ((h'.lo ≡ h.lo) × (h'.hi ≤ n)) ⊎ ((h'.lo ≡ n + 1) × (h'.hi ≡ h.hi))
