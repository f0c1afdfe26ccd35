-- The words of a search: where its tables stand, and what they hold. Assumes nothing.
use Rattle.std.specs.Prelude.{ℕ, ◌+◌, ◌-◌, ◌*◌, ◌≤◌, ◌<◌, ◌≡◌, ◌⊎◌, List, length, get_or, leb}
use Rattle.modules.specs.Model.{Chain}
use Rattle.modules.specs.Rules.{module_rules, copies_allowed}
use Rattle.slack.specs.Greatest.{larger}
use Rattle.slack.specs.Fill.{ends_at}
use Rattle.sketch.specs.Slacks.{slack_at}
use Rattle.slack.specs.Problem.{Reached, fits_on, replicable_on, body_on, after_on}
use Rattle.offers.specs.Words.{table_words, RowFilled}

-- ---- places

-- of the task t + 1 at q cores: its execution, its internal transfer to the next task, and how far a module that starts with it can go
abbrev pub execution_at : (t q : ℕ) → ℕ
execution_at t q = 13068 + (t * 33 + q)

abbrev pub internal_at : (t q : ℕ) → ℕ
internal_at t q = 13464 + (t * 33 + q)

abbrev pub reach_at : (t q : ℕ) → ℕ
reach_at t q = 13860 + (t * 33 + q)

-- the words behind the tables are as they were
abbrev pub KeptBeyond : (w w' : List ℕ) → Type 0
KeptBeyond w w' = (j : ℕ) → table_words ≤ j → get_or w' j 0 ≡ get_or w j 0

-- ---- what all thresholds share

-- of one copy of q cores, a module from the task t + 1 on keeps the rules exactly up to the task l; t where none does
pub record Longest (c : Chain) (t q l : ℕ) : Type 0 where
  pub later : t ≤ l
  pub inside : l ≤ c.tasks
  pub exact : (e : ℕ) → t < e → e ≤ c.tasks → module_rules c (t + 1) e 1 q ≡ leb e l

-- the words of the task t + 1 at q cores
pub record TaskLaid (c : Chain) (w : List ℕ) (t q : ℕ) : Type 0 where
  pub executes : get_or w (execution_at t q) 0 ≡ c.execution (t + 1) q
  pub passes : get_or w (internal_at t q) 0 ≡ c.internal (t + 1) q
  pub reaches : Longest c t q (get_or w (reach_at t q) 0)

-- those of the first t tasks at all cores of the board, and of all tasks
abbrev pub LaidTo : Chain → List ℕ → ℕ → Type 0
LaidTo c w t = (i q : ℕ) → i < t → 1 ≤ q → q ≤ c.board → TaskLaid c w i q

abbrev pub Laid : Chain → List ℕ → Type 0
Laid c w = LaidTo c w c.tasks

-- M-102: of every chain whose words these are, the module of the tasks t + 1 to l ends within its reach
abbrev pub ReachedIn : List ℕ → (t l q : ℕ) → Type 0
ReachedIn w t l q = (c : Chain) → Laid c w → l ≤ c.tasks → 1 ≤ q → q ≤ c.board → Reached c t l

-- of the tasks from the first to l the last that is not replicable, 0 where there is none: a module t + 1 to l may have copies exactly
-- if it starts after it
pub record Fixed (c : Chain) (l f : ℕ) : Type 0 where
  pub inside : f ≤ l
  pub exact : (t : ℕ) → t < l → copies_allowed c (t + 1) l 2 ≡ leb f t

-- ---- the slack table at the threshold n

-- all its rows
abbrev pub AllFilled : Chain → ℕ → List ℕ → Type 0
AllFilled c n w = (t : ℕ) → t < c.tasks → RowFilled c n w t

-- the table by modules that end after the task l
abbrev pub FilledAfter : Chain → ℕ → List ℕ → ℕ → Type 0
FilledAfter c n w l = (t q b : ℕ) → t < c.tasks → 1 ≤ q → q ≤ b → b ≤ c.board → get_or w (slack_at t q b) 0 ≡ after_on c n l t q b

-- ---- one step of a fill

-- the words of the task t + 1 at q cores are laid, and all others are as they were
pub record LaidOnly (c : Chain) (w w' : List ℕ) (t q : ℕ) : Type 0 where
  pub long : length w' ≡ length w
  pub made : TaskLaid c w' t q
  pub kept : (j : ℕ) → (j ≡ execution_at t q → ⊥) → (j ≡ internal_at t q → ⊥) → (j ≡ reach_at t q → ⊥) → get_or w' j 0 ≡ get_or w j 0

-- one copy leaves no more than any do
abbrev pub OneNoMore : (left : List ℕ) (q cores : ℕ) → Type 0
OneNoMore left q cores = (b : ℕ) → q ≤ b → b ≤ cores → get_or left b 0 ≤ get_or left (33 + b) 0

-- the words from at + low to at + high are raised to those of a row, less `own`; all others are as they were
pub record Raised (w w' : List ℕ) (row : ℕ → ℕ) (at own low high : ℕ) : Type 0 where
  pub long : length w' ≡ length w
  pub made : (b : ℕ) → low ≤ b → b ≤ high → get_or w' (at + b) 0 ≡ larger (get_or w (at + b) 0) (row b - own)
  pub kept : (j : ℕ) → (j < at + low) ⊎ (at + high < j) → get_or w' j 0 ≡ get_or w j 0

-- the slacks of rests whose first module has q cores and starts after a task of at least `from` are raised by those of modules that end
-- with the task l, where one and any are what one copy and any copies leave; all other words are as they were
pub record Pushed (c : Chain) (w w' : List ℕ) (one any : ℕ → ℕ) (from l q : ℕ) : Type 0 where
  pub long : length w' ≡ length w
  pub made : (t b : ℕ) → from ≤ t → t < l → q ≤ b → b ≤ c.board
      → get_or w' (slack_at t q b) 0
      ≡ larger (get_or w (slack_at t q b) 0) (ends_at (fits_on c) (replicable_on c) (body_on c) (λ l q b. one b) (λ l q b. any b) t q b l)
  pub kept : (j : ℕ) → ((t b : ℕ) → from ≤ t → t < l → q ≤ b → b ≤ c.board → j ≡ slack_at t q b → ⊥) → get_or w' j 0 ≡ get_or w j 0

-- the same for every chain of so many cores whose tasks are laid and whose last task up to l without copies is `fixed`: what one copy
-- leaves with b cores stands at b, what any do at 33 + b
abbrev pub PushedAll : (w w' : List ℕ) (cores l q fixed : ℕ) (left : List ℕ) → Type 0
PushedAll w w' cores l q fixed left =
    (length w' ≡ length w)
    × ((c : Chain) → c.board ≡ cores → l ≤ c.tasks → 1 ≤ q → Laid c w → Fixed c l fixed → Pushed c w w' (λ b. get_or left b 0) (λ b. get_or left (33 + b) 0) 0 l q)

-- the words from `from` to before `to` are 0, and all others as they were
pub record Cleared (w w' : List ℕ) (from to : ℕ) : Type 0 where
  pub long : length w' ≡ length w
  pub made : (j : ℕ) → from ≤ j → j < to → get_or w' j 0 ≡ 0
  pub kept : (j : ℕ) → (j < from) ⊎ (to ≤ j) → get_or w' j 0 ≡ get_or w j 0

-- no rest after the first k tasks has a slack with up to so many cores, and the words behind the slacks are as they were
pub record NoSlacks (w w' : List ℕ) (k cores : ℕ) : Type 0 where
  pub long : length w' ≡ length w
  pub made : (t q b : ℕ) → t < k → q ≤ b → b ≤ cores → get_or w' (slack_at t q b) 0 ≡ 0
  pub kept : (j : ℕ) → 13068 ≤ j → get_or w' j 0 ≡ get_or w j 0
