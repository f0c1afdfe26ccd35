-- The words of a search and rows of transfers beside them: how many words there are, and what the functions on rows answer. Assumes nothing.
use Rattle.std.specs.Prelude.{ℕ, ◌+◌, ◌*◌, ◌/◌, ◌≤◌, ◌<◌, ◌≡◌, cond, List, length, get_or, eqb}
use Rattle.records.specs.declared.Board.{Board}
use Rattle.modules.specs.Model.{Chain}
use Rattle.slack.specs.Fill.{lowest, left_by, best_by}
use Rattle.slack.specs.Problem.{grain, none, Sized, slack_on, cheapest_on}
use Rattle.sketch.specs.Slacks.{slack_at}

-- ---- the words

-- how many words the tables take
abbrev pub table_words : ℕ
table_words = 14256

-- the board is in range, and the tables have room in so many words
pub record Roomy (b : Board) (m : ℕ) : Type 0 where
  pub sized : Sized b
  pub long : table_words ≤ m

abbrev pub Area : Board → List ℕ → Type 0
Area b w = Roomy b (length w)

-- the row t of the slack table at the threshold n
abbrev pub RowFilled : Chain → ℕ → List ℕ → ℕ → Type 0
RowFilled c n w t = (q b : ℕ) → 1 ≤ q → q ≤ b → b ≤ c.board → get_or w (slack_at t q b) 0 ≡ slack_on c n t q b

-- r is the first number of cores from `from` to `end` at which the word after `at` is above e, end + 1 where there is none
pub record FirstServed (w : List ℕ) (at from end e r : ℕ) : Type 0 where
  pub low : from ≤ r
  pub high : r ≤ end + 1
  pub serves : r ≤ end → e < get_or w (at + r) 0
  pub none_before : (c : ℕ) → from ≤ c → c < r → get_or w (at + c) 0 ≤ e

-- no rest of fewer than `least` cores after the task l has a slack
abbrev pub NoRest : (w : List ℕ) (l least : ℕ) → Type 0
NoRest w l least = (q b : ℕ) → 1 ≤ q → q ≤ b → b < least → get_or w (slack_at l q b) 0 ≡ 0

-- so many, as found on a board: at most one more than its cores, and 0 behind the last task k, where nothing needs to come
pub record LeastRest (k cores : ℕ) (w : List ℕ) (l least : ℕ) : Type 0 where
  pub high : least ≤ cores + 1
  pub last : l ≡ k → least ≡ 0
  pub bare : NoRest w l least

-- ---- rows of transfers

-- a row of cheapest transfers, from a module of q cores that ends with the task l to rests of at most b cores
abbrev pub Cheapest : Chain → ℕ → List ℕ → (l q : ℕ) → Type 0
Cheapest c n row l q = (b : ℕ) → b + q ≤ c.board → get_or row b 0 ≡ cheapest_on c n l q b

-- those by the slacks that stand in the row l, where there is a rest, at whatever threshold they are
abbrev pub CheapestBy : Chain → (w row : List ℕ) → (l q : ℕ) → Type 0
CheapestBy c w row l q = (n : ℕ) → (l < c.tasks → RowFilled c n w l) → Cheapest c n row l q

-- what stands in such a row before any next module is entered: nothing is sent behind the last task k
abbrev pub unsent : (k l : ℕ) → ℕ
unsent k l = cond (eqb l k) 0 none

-- nothing is sent to rests of fewer than `low` cores
abbrev pub NoneBelow : (row : List ℕ) (low : ℕ) → Type 0
NoneBelow row low = (c : ℕ) → c < low → get_or row c 0 ≡ none

-- each entry up to `end` has become the least of those up to it
abbrev pub Settled : (row row' : List ℕ) → ℕ → Type 0
Settled row row' end = (c : ℕ) → c ≤ end → get_or row' c 0 ≡ lowest none (λ j. get_or row j 0) c

-- r is the first entry of a row up to `end` that is a transfer, end + 1 where there is none
pub record FirstSent (row : List ℕ) (end r : ℕ) : Type 0 where
  pub high : r ≤ end + 1
  pub sends : r ≤ end → get_or row r 0 ≡ none → ⊥
  pub none_before : NoneBelow row r

-- ---- what copies leave beside a row

-- the time that r copies have at the threshold n
abbrev pub time_at : (n r : ℕ) → ℕ
time_at n r = n * r / grain

-- a row as the cheapest transfers of modules of all kinds
abbrev pub row_of : List ℕ → (l q b : ℕ) → ℕ
row_of row l q b = get_or row b 0

-- what one copy leaves, to which no cost of handing out counts
abbrev pub LeftByOne : (n : ℕ) (row : List ℕ) (q b r : ℕ) → Type 0
LeftByOne n row q b r = (extra : ℕ) → r ≡ left_by (time_at n) extra (row_of row) 0 q b 1

-- what copies of q cores leave at the threshold n beside the transfers of a row, with b cores in all: one at b, any at 33 + b
pub record Offered (n extra : ℕ) (row : List ℕ) (q cores : ℕ) (left : List ℕ) : Type 0 where
  pub one : (b : ℕ) → q ≤ b → b ≤ cores → get_or left b 0 ≡ left_by (time_at n) extra (row_of row) 0 q b 1
  pub any : (b : ℕ) → q ≤ b → b ≤ cores → get_or left (33 + b) 0 ≡ best_by (time_at n) extra (row_of row) 0 q b

-- with q cores and more, but fewer than `start`, neither one copy nor any leave something
abbrev pub NoneLeft : (left : List ℕ) (q start : ℕ) → Type 0
NoneLeft left q start = (b : ℕ) → q ≤ b → b < start → (get_or left b 0 ≡ 0) × (get_or left (33 + b) 0 ≡ 0)
