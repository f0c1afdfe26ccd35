-- A chain as a problem of the search, and as what a fill of the slack table is given. Assumes nothing.
use Rattle.std.specs.Prelude.{ℕ, ◌+◌, ◌*◌, ◌/◌, ◌≤◌, ◌<◌, Bool}
use Rattle.records.specs.declared.Board.{Board}
use Rattle.modules.specs.Model.{Chain, response, transfer, handed, body, passage}
use Rattle.modules.specs.Rules.{module_rules, copies_allowed}
use Rattle.modules.specs.Reach.{reach}
use Rattle.search.specs.Plan.{Measure, Rule, Problem}
use Rattle.search.specs.Sparing.{Enough, fewest, need, sparing}
use Rattle.slack.specs.Split.{Split}
use Rattle.slack.specs.Slack.{Slack, goes_on, slack}
use Rattle.slack.specs.Splits.{Found}
use Rattle.slack.specs.Fill.{Given, split_of, cheapest, left_by, best_by, ends_at, cell_after}

-- fractions whose denominators are at most 32 are equal or at least 1 / 1024 apart
abbrev pub grain : ℕ
grain = 1024

-- the greatest threshold: on accepted costs no response is above 23,000,255 ticks (M-106)
abbrev pub top_threshold : ℕ
top_threshold = 23552261120

-- M-104: what one core weighs, 2²⁵, more than the single-block time of any plan that keeps the rules
abbrev pub unit : ℕ
unit = 33554432

-- what the module of tasks t + 1 to l adds to the single-block time, before one of q cores
abbrev pub ticks : Chain → Measure
ticks c s t l r p q = passage c (t + 1) l r p q

-- its price: its cores, and what it adds to the single-block time
abbrev pub price : Chain → (t l r p q : ℕ) → ℕ
price c t l r p q = unit * (r * p) + passage c (t + 1) l r p q

-- the modules that keep the rules, their response, and their price
abbrev pub problem : Chain → Problem
problem c = record {
  tasks = c.tasks;
  board = c.board;
  allowed = λ s t l r p q. module_rules c (t + 1) l r p;
  response = λ s t l r p q. response c s (t + 1) l r p q;
  grain = grain;
  unit = unit;
  price = λ s t l r p q. price c t l r p q;
}

-- some plan keeps the rules, those of the board among them, and is within n
abbrev pub SomeWithin : Chain → ℕ → Type 0
SomeWithin c n = Found (problem c) n c.board

-- ---- its board, and modules within their reach

-- the board is in range
pub record Sized (b : Board) : Type 0 where
  pub some_tasks : 1 ≤ b.tasks
  pub tasks_most : b.tasks ≤ 12
  pub one_core : 1 ≤ b.cores
  pub cores_most : b.cores ≤ 32

-- M-102: the module of the tasks t + 1 to l ends within the reach of its first task
pub record Reached (c : Chain) (t l : ℕ) : Type 0 where
  pub later : t < l
  pub within : l ≤ reach c (t + 1)

-- ---- at the threshold n

-- of the module of the tasks t + 1 to l: whether one copy of q cores keeps the rules, whether it may have several, and its body
abbrev pub fits_on : Chain → (t l q : ℕ) → Bool
fits_on c t l q = module_rules c (t + 1) l 1 q

abbrev pub replicable_on : Chain → (t l : ℕ) → Bool
replicable_on c t l = copies_allowed c (t + 1) l 2

abbrev pub body_on : Chain → (t l q : ℕ) → ℕ
body_on c t l q = body c (t + 1) l q

-- the chain as a fill is given it: r copies may take n · r / 1024 ticks, rounded down
abbrev pub given : Chain → ℕ → Given
given c n = record {
  tasks = c.tasks;
  time = λ r. n * r / grain;
  send = transfer c;
  body = body_on c;
  fits = fits_on c;
  replicable = replicable_on c;
  extra = handed c 2;
}

-- its modules in parts
abbrev pub split_on : Chain → ℕ → Split
split_on c n = split_of (given c n)

-- the slack of its rests
abbrev pub slack_on : Chain → ℕ → Slack
slack_on c n = slack (split_on c n)

-- more than any time within which a module on a board of 32 cores can be: the greatest number of 32 bits
abbrev pub none : ℕ
none = 4294967295

module _ (c : Chain) (n : ℕ) where
  -- the cheapest transfers to these rests
  abbrev pub cheapest_on : (l q b : ℕ) → ℕ
  cheapest_on = cheapest c.tasks none (transfer c) (slack_on c n)

  -- what one copy leaves beside it, and what any copies do
  abbrev pub one_on : (l q b : ℕ) → ℕ
  one_on l q b = left_by (given c n).time (handed c 2) cheapest_on l q b 1

  abbrev pub any_on : (l q b : ℕ) → ℕ
  any_on = best_by (given c n).time (handed c 2) cheapest_on

  -- the slack by modules that end with the task l, and by modules that end after it
  abbrev pub ends_on : (t q b l : ℕ) → ℕ
  ends_on = ends_at (fits_on c) (replicable_on c) (body_on c) one_on any_on

  abbrev pub after_on : (l t q b : ℕ) → ℕ
  after_on = cell_after (fits_on c) (replicable_on c) (body_on c) one_on any_on c.tasks

  -- ---- plans of the fewest cores within n

  -- whether some rest has at most b cores: nothing is to come, or it can still receive what it is sent
  abbrev pub enough_on : Enough
  enough_on s t q b = goes_on (split_on c n) (slack_on c n) t s q b

  -- the fewest cores of a whole plan, and of a rest
  abbrev pub fewest_on : ℕ
  fewest_on = fewest c.board enough_on

  abbrev pub need_on : (s t q : ℕ) → ℕ
  need_on = need c.board enough_on

  -- the modules of plans of the fewest cores
  abbrev pub sparing_on : Rule
  sparing_on = sparing (problem c) n enough_on
