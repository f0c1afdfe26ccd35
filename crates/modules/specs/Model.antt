-- A module in the chain model (document 01, "The chain and the board"; document 02, M-104 and M-106; source document 000, 2.1 and 2.2), over
-- a chain's cost functions. Tasks are numbered from 1. 0 cores stand for "no module" before the first or after the last one. Assumes nothing.
use Rattle.std.specs.Prelude.{ℕ, zero, suc, ◌+◌, ◌-◌, List, Bool, cond, ◌||◌, ltb, eqb}
use Rattle.records.specs.declared.Board.{Board}
use Rattle.lookups.specs.Lookups.{hand_out_of, need_of, replicable_of, limit_of, execution_of, internal_of, pair_of, external_of}

-- k tasks, a board of P cores of that capacity that needs D ticks to hand out to copies (M-106), and what each task needs, allows and
-- takes; each function is 0 out of range, and a limit of 0 is none (M-100)
pub record Chain : Type 0 where
  pub tasks : ℕ
  pub board : ℕ
  pub capacity : ℕ
  pub hand_out : ℕ
  pub need : (t : ℕ) → ℕ
  pub replicable : (t : ℕ) → Bool
  pub limit : (t : ℕ) → ℕ
  pub execution : (t p : ℕ) → ℕ
  pub internal : (t p : ℕ) → ℕ
  pub external : (t s q : ℕ) → ℕ

-- the chain of a board's costs
abbrev pub chain_of : List ℕ → Board → Chain
chain_of s b = record {
  tasks = b.tasks;
  board = b.cores;
  capacity = b.capacity;
  hand_out = hand_out_of s;
  need = need_of s b;
  replicable = replicable_of s b;
  limit = limit_of s b;
  execution = execution_of s b;
  internal = internal_of s b;
  external = λ t x q. external_of (pair_of s b t) b.cores x q;
}

-- ---- one sum over a module's tasks

-- f of task t and of the n tasks after it, g between each two
unfoldable pub run : (f g : ℕ → ℕ) → ℕ → ℕ → ℕ
run f g t zero = f t
run f g t (suc n) = f t + g t + run f g (t + 1) n

-- f of each task from first to last, g between each two
unfoldable pub gather : (f g : ℕ → ℕ) → ℕ → ℕ → ℕ
gather f g first last = cond (ltb last first) 0 (run f g first (last - first))

abbrev pub nothing : ℕ → ℕ
nothing t = 0

-- ---- a module

-- the execution of each of its tasks at p, and the internal transfer at p between each two neighbours
unfoldable pub body : Chain → (first last p : ℕ) → ℕ
body c first last p = gather (λ t. c.execution t p) (λ t. c.internal t p) first last

-- the external transfer from task t to the next, nothing where there is no sender or no receiver
unfoldable pub transfer : Chain → (t s q : ℕ) → ℕ
transfer c t s q = cond (eqb s 0 || eqb q 0) 0 (c.external t s q)

-- M-106: what handing out to r copies costs, "D if its r is above 1"
unfoldable pub handed : Chain → (r : ℕ) → ℕ
handed c r = cond (ltb 1 r) c.hand_out 0

-- the response of a module of r copies of p cores, between one of s cores and one of q: what it receives, its body and
-- what it sends, each transfer counted at both its ends, and what handing out to its copies costs (M-106)
unfoldable pub response : Chain → (s first last r p q : ℕ) → ℕ
response c s first last r p q = transfer c (first - 1) s p + body c first last p + transfer c last p q + handed c r

-- M-104: what a module adds to the single-block time of a plan: its body and what it sends, so that each transfer is counted once, at
-- its sender; and by M-106 what handing out to its copies costs
unfoldable pub passage : Chain → (first last r p q : ℕ) → ℕ
passage c first last r p q = body c first last p + transfer c last p q + handed c r
