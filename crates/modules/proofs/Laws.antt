-- What holds of modules (document 01, "The chain and the board"; document 02, M-100, M-102 to M-104 and M-106): the laws that a reader looks for, and
-- that the layers above cite. The definitions are in specs/. Assumes nothing.
use mathlib.Core.Path.{◌≡◌}
use mathlib.Core.Bool.{true, false, ◌&&◌}
use mathlib.Core.List.{List}
use mathlib.Core.Logic.{◌↔◌}
use Prim.Native.Nat.{ℕ, ◌+◌, ◌-◌, ◌*◌, ◌≤◌, ◌<◌}
use Rattle.records.specs.declared.Board.{Board}
use Rattle.records.specs.declared.refusal.Refusal.{Refusal}
use Rattle.records.specs.Filled.{count_in}
use Rattle.std.specs.Prelude.{Result}
use Rattle.records.specs.Format.{IsCosts}
use Rattle.modules.specs.Model.{Chain, chain_of, body, transfer, handed, response, passage}
use Rattle.modules.specs.Rules.{share, shares, memory_fits, copies_allowed, module_limit, within_limit, module_rules, still_kept, fewest_cores}
use Rattle.modules.specs.Reach.{reach, reach_answer}
use Rattle.modules.specs.Claims.{needing, IsFewest, IsLimit, IsReach, NoReach, SomeHold, Reaches}
use Rattle.modules.proofs.Amounts as amounts
use Rattle.modules.proofs.Fewest as fewest
use Rattle.modules.proofs.Lengthening as lengthening
use Rattle.modules.proofs.Limiting as limiting
use Rattle.modules.proofs.Longest as longest
use Rattle.modules.proofs.Sharing as sharing

-- ---- dropping tasks at either end of a module never makes its memory, its limit, its rules or its response worse

module _ (c : Chain) (first last : ℕ) where
  pub memory_drop : (from to : ℕ) → first ≤ from → to ≤ last → (p : ℕ) → memory_fits c first last p ≡ true → memory_fits c from to p ≡ true
  memory_drop = sharing.memory_drop c first last

  pub limit_drop : (from to : ℕ) → first ≤ from → to ≤ last → (p : ℕ) → within_limit c first last p ≡ true → within_limit c from to p ≡ true
  limit_drop = limiting.limit_drop c first last

  pub rules_drop : (from to : ℕ) → first ≤ from → to ≤ last → (r p : ℕ) → module_rules c first last r p ≡ true → module_rules c from to r p ≡ true
  rules_drop = lengthening.rules_drop c first last

  pub response_drop_last : (s to r p q : ℕ) → to ≤ last → response c s first to r p 0 ≤ response c s first last r p q
  response_drop_last s to r p q h = amounts.response_drop_last c s first last to r p q h

  pub response_drop_first : (s from r p q : ℕ) → first ≤ from → response c 0 from last r p q ≤ response c s first last r p q
  response_drop_first s from r p q h = amounts.response_drop_first c s first last from r p q h

-- ---- M-103: memory is split task by task

module _ (c : Chain) where
  -- "need ÷ p rounded up" is the least whole number that, p times over, is the need or more
  pub share_least : (t p n : ℕ) → 1 ≤ p → (share c t p ≤ n) ↔ (c.need t ≤ n * p)
  share_least = sharing.share_least c

module _ (c : Chain) (first last : ℕ) where
  -- a module fits if its shares "add to at most the capacity", and only then; on no cores none does
  pub memory_exactly : (p : ℕ) → (memory_fits c first last p ≡ true) ↔ ((1 ≤ p) × (shares c first last p ≤ c.capacity))
  memory_exactly = sharing.memory_exactly c first last

  -- more cores never make a module that fits unfit
  pub memory_more : (p q : ℕ) → p ≤ q → memory_fits c first last p ≡ true → memory_fits c first last q ≡ true
  memory_more = sharing.memory_more c first last

  -- "some modules now fit at no count of cores": exactly those that have more tasks with a need than a core has KiB, where needs are bounded
  pub memory_never : (most : ℕ) → ((t : ℕ) → c.need t ≤ most) → ((p : ℕ) → memory_fits c first last p ≡ false) ↔ (c.capacity < needing c first last)
  memory_never = sharing.memory_never c first last

  -- the shares of no tasks, and with one task more
  pub shares_none : (p : ℕ) → last < first → shares c first last p ≡ 0
  shares_none = sharing.shares_none c first last

  pub shares_more : (p : ℕ) → 1 ≤ first → first ≤ last → shares c first last p ≡ shares c first (last - 1) p + share c last p
  shares_more = sharing.shares_more c first last

-- ---- M-104: what a module adds to the single-block time is its body, what it sends and what handing out to its copies costs (M-106); with
-- what it receives, its response

module _ (c : Chain) (first last r p q : ℕ) where
  pub passage_parts : passage c first last r p q ≡ body c first last p + transfer c last p q + handed c r
  passage_parts = amounts.passage_parts c first last r p q

  pub response_passage : (s : ℕ) → response c s first last r p q ≡ transfer c (first - 1) s p + passage c first last r p q
  response_passage s = amounts.response_passage c s first last r p q

-- ---- M-106: handing out to copies costs time

module _ (c : Chain) where
  -- D "if its r is above 1", and only then
  pub handed_some : (r : ℕ) → 1 < r → handed c r ≡ c.hand_out
  handed_some = amounts.handed_some c

  pub handed_none : (r : ℕ) → r ≤ 1 → handed c r ≡ 0
  handed_none = amounts.handed_none c

  -- it never falls with more copies, and is never above D
  pub handed_rises : (r r' : ℕ) → r ≤ r' → handed c r ≤ handed c r'
  handed_rises = amounts.handed_rises c

  pub handed_most : (r : ℕ) → handed c r ≤ c.hand_out
  handed_most = amounts.handed_most c

module _ (c : Chain) (first last r p q : ℕ) where
  -- "a module's response rises by D", whatever stands before and after it, and so does what it adds to the single-block time
  pub response_copies : (s : ℕ) → response c s first last r p q ≡ response c s first last 1 p q + handed c r
  response_copies s = amounts.response_copies c s first last r p q

  pub passage_copies : passage c first last r p q ≡ passage c first last 1 p q + handed c r
  passage_copies = amounts.passage_copies c first last r p q

  -- where D is 0 neither depends on r: every figure is the one that it was
  pub response_free : c.hand_out ≡ 0 → (s : ℕ) → response c s first last r p q ≡ response c s first last 1 p q
  response_free = amounts.response_free c first last r p q

  pub passage_free : c.hand_out ≡ 0 → passage c first last r p q ≡ passage c first last 1 p q
  passage_free = amounts.passage_free c first last r p q

-- ---- M-100: a module's limit is the least of its tasks' limits, those without one left aside

module _ (c : Chain) (first last : ℕ) where
  -- none exactly if no task has one
  pub limit_none : (module_limit c first last ≡ 0) ↔ ((t : ℕ) → first ≤ t → t ≤ last → c.limit t ≡ 0)
  limit_none = limiting.limit_none c first last

  pub limit_least : (l : ℕ) → 1 ≤ l → (module_limit c first last ≡ l) ↔ IsLimit c first last l
  limit_least = limiting.limit_least c first last

  -- within it exactly if p is at most the limit of each of its tasks that has one
  pub within_each : (p : ℕ) → (within_limit c first last p ≡ true) ↔ ((t : ℕ) → first ≤ t → t ≤ last → 1 ≤ c.limit t → p ≤ c.limit t)
  within_each = limiting.within_each c first last

  -- over it exactly if it has one and p is more
  pub over_exactly : (p : ℕ) → (within_limit c first last p ≡ false) ↔ ((1 ≤ module_limit c first last) × (module_limit c first last < p))
  over_exactly = limiting.over_exactly c first last

  -- a module within its limit is at it exactly if one core more is not within it
  pub full_exactly : (p : ℕ) → 1 ≤ p → within_limit c first last p ≡ true → (within_limit c first last (p + 1) ≡ false) ↔ (module_limit c first last ≡ p)
  full_exactly = limiting.full_exactly c first last

-- ---- a module of one copy, one task after another

module _ (c : Chain) (first last : ℕ) where
  -- the copies are a rule of their own: all else one copy has to keep too
  pub rules_apart : (r p : ℕ) → module_rules c first last r p ≡ (copies_allowed c first last r && module_rules c first last 1 p)
  rules_apart = lengthening.rules_apart c first last

  -- what keeps the rules has its shares within the capacity
  pub rules_shares : (r p : ℕ) → module_rules c first last r p ≡ true → shares c first last p ≤ c.capacity
  rules_shares = lengthening.rules_shares c first last

  -- without tasks it breaks no rule on one core or more, and with one more only `still_kept` is left to ask
  pub rules_none : (p : ℕ) → 1 ≤ p → last < first → module_rules c first last 1 p ≡ true
  rules_none = lengthening.rules_none c first last

  pub rules_longer : (p : ℕ) → first ≤ last → module_rules c first (last - 1) 1 p ≡ true
      → still_kept c last p (shares c first last p) ≡ module_rules c first last 1 p
  rules_longer = lengthening.rules_longer c first last

-- ---- the fewest cores that a module's memory allows: the least of the board's 1 .. P that do, and P + 1 where none do

module _ (c : Chain) (first last : ℕ) where
  pub fewest_least : (p : ℕ) → p ≤ c.board → (fewest_cores c first last ≡ p) ↔ IsFewest c first last p
  fewest_least = fewest.fewest_least c first last

  pub fewest_none : (fewest_cores c first last ≡ c.board + 1) ↔ ((p : ℕ) → 1 ≤ p → p ≤ c.board → memory_fits c first last p ≡ false)
  fewest_none = fewest.fewest_none c first last

-- ---- M-102: a task's reach

module _ (c : Chain) (first : ℕ) where
  -- "lengthening a module only adds to its memory need": a longer one needs no fewer cores
  pub fewest_longer : (to last : ℕ) → to ≤ last → fewest_cores c first to ≤ fewest_cores c first last
  fewest_longer = longest.fewest_longer c first

  -- the reach is the last task of the longest module that needs at most P cores, and 0 exactly if there is none
  pub reach_longest : (l : ℕ) → 1 ≤ l → (reach c first ≡ l) ↔ IsReach c first l
  reach_longest = longest.reach_longest c first

  pub reach_none : (reach c first ≡ 0) ↔ NoReach c first
  reach_none = longest.reach_none c first

  -- it is a task of the chain, or 0; and 0 for what is no task of the chain
  pub reach_inside : reach c first ≤ c.tasks
  reach_inside = longest.reach_inside c first

  pub reach_outside : (1 ≤ first → first ≤ c.tasks → ⊥) → reach c first ≡ 0
  reach_outside = longest.reach_outside c first

  -- for every first and last task of a module of the chain
  module _ (last : ℕ) (some : 1 ≤ first) (later : first ≤ last) (inside : last ≤ c.tasks) where
    -- the module needs at most P cores exactly if it ends within its reach
    pub reach_exactly : (fewest_cores c first last ≤ c.board) ↔ (last ≤ reach c first)
    reach_exactly = longest.reach_exactly c first last some later inside

    -- in the memory test's words: some count of the board's cores holds it exactly if it ends within its reach
    pub reach_memory : SomeHold c first last ↔ (last ≤ reach c first)
    reach_memory = longest.reach_memory c first last some later inside

    pub rules_reach : (r p : ℕ) → 1 ≤ p → p ≤ c.board → module_rules c first last r p ≡ true → last ≤ reach c first
    rules_reach = longest.rules_reach c first last some later inside

-- the service answers the reach exactly on accepted costs, and else refuses as reading does
pub reach_answers : (s : List ℕ) (first : ℕ) (a : Result ℕ Refusal) → (reach_answer s first ≡ a) ↔ Reaches s first a
reach_answers = longest.reach_answers

-- and the count that it answers says of each module of the chain whether it needs at most P cores
pub reach_counts : (s : List ℕ) (b : Board) → IsCosts s b → (first last : ℕ) → 1 ≤ first → first ≤ last → last ≤ b.tasks
    → (fewest_cores (chain_of s b) first last ≤ b.cores) ↔ (last ≤ count_in (reach_answer s first))
reach_counts = longest.reach_counts
