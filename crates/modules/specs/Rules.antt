-- The rules of a module (document 01, "The chain and the board"; document 02, M-100 and M-103). Assumes nothing.
use Rattle.std.specs.Prelude.{ℕ, zero, suc, ◌+◌, ◌-◌, Bool, cond, ◌&&◌, ◌||◌, ltb, leb, eqb}
use Rattle.rounding.specs.Rounding.{rounded_up}
use Rattle.modules.specs.Model.{Chain, gather, nothing}

-- ---- M-103: memory is split task by task

-- a task's share of the memory of each of p cores: its need ÷ p, rounded up
unfoldable pub share : Chain → (t p : ℕ) → ℕ
share c t p = rounded_up (c.need t) p

-- the shares of the module's tasks, added up
unfoldable pub shares : Chain → (first last p : ℕ) → ℕ
shares c first last p = gather (λ t. share c t p) nothing first last

-- a module's memory fits on p cores: the shares add to at most the capacity of one; on no cores nothing fits
unfoldable pub memory_fits : Chain → (first last p : ℕ) → Bool
memory_fits c first last p = leb 1 p && leb (shares c first last p) c.capacity

-- ---- copies

-- 1 for a task that is not replicable
abbrev pub mark : Chain → ℕ → ℕ
mark c t = cond (c.replicable t) 0 1

-- r is 1 if any task of the module is marked as not replicable
unfoldable pub copies_allowed : Chain → (first last r : ℕ) → Bool
copies_allowed c first last r = leb r 1 || eqb (gather (mark c) nothing first last) 0

-- ---- M-100: a core limit for a task

-- the lesser of two limits; 0 is none, and is left aside
unfoldable pub tighter : ℕ → ℕ → ℕ
tighter a b = cond (eqb a 0) b (cond (eqb b 0) a (cond (leb a b) a b))

-- the least limit of task t and of the n tasks after it
unfoldable pub limit_from : (limit : ℕ → ℕ) → ℕ → ℕ → ℕ
limit_from limit t zero = limit t
limit_from limit t (suc n) = tighter (limit t) (limit_from limit (t + 1) n)

-- a module's limit: the least of its tasks' limits, those without one left aside; 0, none, where no task has one
unfoldable pub module_limit : Chain → (first last : ℕ) → ℕ
module_limit c first last = cond (ltb last first) 0 (limit_from c.limit first (last - first))

-- a limit allows p cores of a copy: it is none, or p is at most it
unfoldable pub allows : (limit p : ℕ) → Bool
allows limit p = eqb limit 0 || leb p limit

-- a module is within its limit, each copy by itself
unfoldable pub within_limit : Chain → (first last p : ℕ) → Bool
within_limit c first last p = allows (module_limit c first last) p

-- ---- all rules of a module

-- what a module has to keep by itself: its copies, its memory and, by M-100, its limit
unfoldable pub module_rules : Chain → (first last r p : ℕ) → Bool
module_rules c first last r p = copies_allowed c first last r && memory_fits c first last p && within_limit c first last p

-- what is left to ask of a module of one copy that kept the rules without its last task: that task's limit, and that sum, the module's
-- shares with that task's, is at most the capacity
unfoldable pub still_kept : Chain → (last p sum : ℕ) → Bool
still_kept c last p sum = allows (c.limit last) p && leb sum c.capacity

-- ---- fewest cores

-- the least of p + 1, p + 2, .. p + n that the module's memory allows, else p + n + 1; limits don't enter it
unfoldable pub fewest_from : Chain → (first last p n : ℕ) → ℕ
fewest_from c first last p zero = p + 1
fewest_from c first last p (suc n) =
    let rest = fewest_from c first last (p + 1) n in
    cond (memory_fits c first last (p + 1)) (p + 1) rest

-- the fewest cores that the module's memory allows, tried from 1 up to P; P + 1 where none do, since by M-103 "each such module counts
-- as needing more than P"
unfoldable pub fewest_cores : Chain → (first last : ℕ) → ℕ
fewest_cores c first last = fewest_from c first last 0 c.board
