-- The documents' words on a module as direct statements, beside the definitions that run: what "the fewest cores that its memory
-- allows" are (document 01, Bench way), a module's limit (document 02, M-100), a task's reach (M-102) and how many of its tasks need memory
-- (M-103). Assumes nothing.
use Rattle.std.specs.Prelude.{◌≡◌, true, false, cond, List, eqb, ℕ, ◌≤◌, ◌<◌, Result, Ok, Err}
use Rattle.records.specs.declared.Board.{Board}
use Rattle.records.specs.declared.refusal.Refusal.{Refusal}
use Rattle.records.specs.Format.{IsCosts, Finds}
use Rattle.modules.specs.Model.{Chain, chain_of, gather, nothing}
use Rattle.modules.specs.Rules.{memory_fits, fewest_cores}
use Rattle.modules.specs.Reach.{reach}

-- p of the board's cores hold the module's memory, and no fewer do
pub record IsFewest (c : Chain) (first last p : ℕ) : Type 0 where
  pub some : 1 ≤ p
  pub board : p ≤ c.board
  pub fits : memory_fits c first last p ≡ true
  pub none_below : (q : ℕ) → 1 ≤ q → q < p → memory_fits c first last q ≡ false

-- l is the limit of one of the tasks from first to last, and the least of those that they have
pub record IsLimit (c : Chain) (first last l : ℕ) : Type 0 where
  pub some : 1 ≤ l
  pub task : ℕ
  pub inside : (first ≤ task) × (task ≤ last)
  pub its : c.limit task ≡ l
  pub least : (t : ℕ) → first ≤ t → t ≤ last → 1 ≤ c.limit t → l ≤ c.limit t

-- ---- M-102: a task's reach

-- l is the last task of the longest module of the chain that starts with first and needs at most P cores
pub record IsReach (c : Chain) (first l : ℕ) : Type 0 where
  pub some : 1 ≤ first
  pub later : first ≤ l
  pub inside : l ≤ c.tasks
  pub needs : fewest_cores c first l ≤ c.board
  pub longest : (m : ℕ) → first ≤ m → m ≤ c.tasks → fewest_cores c first m ≤ c.board → m ≤ l

-- there is no such module: each that starts with first needs more
pub record NoReach (c : Chain) (first : ℕ) : Type 0 where
  pub none : 1 ≤ first → (l : ℕ) → first ≤ l → l ≤ c.tasks → c.board < fewest_cores c first l

-- some count of the board's cores holds the module's memory
pub record SomeHold (c : Chain) (first last : ℕ) : Type 0 where
  pub cores : ℕ
  pub some : 1 ≤ cores
  pub board : cores ≤ c.board
  pub fits : memory_fits c first last cores ≡ true

-- what the service is to answer
pub data Reaches (s : List ℕ) (first : ℕ) : Result ℕ Refusal → Type 0 where
  reached : (b : Board) → IsCosts s b → Reaches s first (Ok (reach (chain_of s b) first))
  costs_wrong : (e : Refusal) → Finds s (Err e) → Reaches s first (Err e)

-- ---- M-103: modules that fit at no count of cores

-- 1 for a task that needs memory, and how many of a module's tasks do
abbrev pub needy : Chain → ℕ → ℕ
needy c t = cond (eqb (c.need t) 0) 0 1

abbrev pub needing : Chain → (first last : ℕ) → ℕ
needing c first last = gather (needy c) nothing first last
