-- What the public functions answer, and when they can be asked. Assumes nothing.
use Rattle.std.specs.Prelude.{ℕ, ◌+◌, ◌≤◌, ◌<◌, ◌≡◌, List, ◌⊎◌, length, get_or, replicate}
use Rattle.records.specs.declared.Board.{Board}
use Rattle.modules.specs.Model.{Chain, handed}
use Rattle.slack.specs.Problem.{top_threshold, one_on, any_on}
use Rattle.offers.specs.Words.{Roomy, Area, RowFilled, FirstServed, LeastRest, NoneLeft}

-- the first word above e of a row that does not end before, `from` of any other and where nothing is asked
pub record AboveFrom (w : List ℕ) (at from end e r : ℕ) : Type 0 where
  pub first : at + end < length w → from ≤ end + 1 → FirstServed w at from end e r
  pub out : (length w ≤ at + end) ⊎ (end < from) → r ≡ from

-- a number of cores below which no rest after the task l has a slack; 0 where the board is out of range, the words are too few, or the chain
-- has no such task
pub record RestBy (b : Board) (w : List ℕ) (l r : ℕ) : Type 0 where
  pub found : Area b w → l ≤ b.tasks → LeastRest b.tasks b.cores w l r
  pub out : (Area b w → l ≤ b.tasks → ⊥) → r ≡ 0

-- ---- what modules of q cores that end with the task l leave at the threshold n

-- it is asked of enough words and for so many places, on a board in range, at a threshold up to the greatest, for one of the chain's tasks, and for
-- cores beside which a rest of `least` fits
pub record Askable (b : Board) (words n l q least places : ℕ) : Type 0 where
  pub roomy : Roomy b words
  pub low : n ≤ top_threshold
  pub some : 1 ≤ l
  pub inside : l ≤ b.tasks
  pub positive : 1 ≤ q
  pub fits : q + least ≤ b.cores
  pub long : places ≡ 66

-- with b cores in all one copy leaves what stands at b, any what stands at 33 + b, and nothing with fewer than `start`
pub record Left (c : Chain) (n l q : ℕ) (left : List ℕ) (start : ℕ) : Type 0 where
  pub late : q ≤ start
  pub one : (b : ℕ) → q ≤ b → b ≤ c.board → get_or left b 0 ≡ one_on c n l q b
  pub any : (b : ℕ) → q ≤ b → b ≤ c.board → get_or left (33 + b) 0 ≡ any_on c n l q b
  pub bare : NoneLeft left q start

-- what is answered, and what the places are afterwards: what is left, where `extra` is what several copies take more, the words hold the slacks of
-- the rests, none of which has fewer than `least` cores, and the places were zeros; one more than the board's cores, and as lent, where it cannot be
-- asked
pub record LeftFrom (c : Chain) (b : Board) (w : List ℕ) (n extra l q least : ℕ) (left left' : List ℕ) (r : ℕ) : Type 0 where
  pub high : r ≤ b.cores + 1
  pub made : Askable b (length w) n l q least (length left) → extra ≡ handed c 2 → LeastRest b.tasks b.cores w l least
      → (l < b.tasks → RowFilled c n w l) → left ≡ replicate 66 0 → Left c n l q left' r
  pub out : (Askable b (length w) n l q least (length left) → ⊥) → (r ≡ b.cores + 1) × (left' ≡ left)
