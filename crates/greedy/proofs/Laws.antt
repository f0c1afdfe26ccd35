-- What holds of the Bench way (document 01; the greedy procedure of source document 000, section 4.1; refusals 10 and 11; document
-- 02, M-100): the laws that a reader looks for. The definitions are in specs/Greedy. Assumes nothing.
use mathlib.Core.Path.{◌≡◌}
use mathlib.Core.Bool.{true, false}
use mathlib.Core.List.{List, [], ◌∷◌, Memᴰ}
use mathlib.Core.Option.{none}
use mathlib.Core.Logic.Iff
use mathlib.Core.Logic.{◌↔◌, ◌⊎◌}
use Prim.Native.Nat.{ℕ, ◌+◌, ◌-◌, ◌^◌, ◌≤◌, ◌<◌}
use Rattle.std.specs.Prelude.{Err}
use Rattle.records.specs.declared.Board.{Board}
use Rattle.records.specs.declared.refusal.Refusal.TheVariants.{NoGrouping, NoStart}
use Rattle.records.specs.Refusals.{number_in}
use Rattle.records.specs.Format.{IsCosts}
use Rattle.modules.specs.declared.Module.{Module}
use Rattle.modules.specs.Model.{Chain, chain_of}
use Rattle.figures.specs.Model.{cores_of, bottleneck}
use Rattle.figures.specs.Rules.{keeps_rules}
use Rattle.judge.specs.Judge.{judged}
use Rattle.judge.specs.Claims.{Readable, chain}
use Rattle.greedy.specs.Greedy.{SomeBit, start, time, may_take, AtLimit, predecessor, next, visited, IsEarliest, greedy_plan, OverLimit, greedy_answer, greedy_bytes}
use Rattle.greedy.proofs.Answering as answering
use Rattle.greedy.proofs.Bits as bits
use Rattle.greedy.proofs.Choosing as choosing
use Rattle.greedy.proofs.Earliest as earliest
use Rattle.greedy.proofs.Keeping as keeping
use Rattle.greedy.proofs.Visiting as visiting

-- ---- the plan keeps the rules, and Judge passes it with the figures answered

pub greedy_keeps : (s : List ℕ) (b : Board) → IsCosts s b → (g : ℕ) → cores_of (start (chain_of s b) g) ≤ b.cores → (OverLimit (chain_of s b) (start (chain_of s b) g) → ⊥)
    → keeps_rules (chain_of s b) (greedy_plan (chain_of s b) g) ≡ true
greedy_keeps s b c g l n = keeping.plan_keeps (chain_of s b) g c.ranged.some_tasks (answering.fits_unless (chain_of s b) g l n)

pub greedy_judged : (s w : List ℕ) (g : ℕ) → number_in (greedy_answer s g w) ≡ 0 → judged s (greedy_bytes s g w) ≡ greedy_answer s g w
greedy_judged = answering.plan_judged

-- ---- the plan is the earliest of least bottleneck among the assignments of the walk

module _ (c : Chain) (g : ℕ) where
  -- all that the walk visits, from the start on
  abbrev pub walked : List (List Module)
  walked = visited c (c.board - cores_of (start c g)) (start c g)

  pub greedy_earliest : IsEarliest c walked (greedy_plan c g)
  unfolding greedy_plan
  greedy_earliest = visiting.walk_earliest c (c.board - cores_of (start c g)) (start c g)

  pub greedy_visited : Memᴰ (greedy_plan c g) walked
  greedy_visited = earliest.earliest_visited c walked (greedy_plan c g) greedy_earliest

  pub greedy_least : (a : List Module) → Memᴰ a walked → time c (greedy_plan c g) ≤ time c a
  greedy_least = greedy_earliest.least

-- ---- M-100: a module at its limit takes no core; if the slowest and its neighbours are all at theirs, the walk ends

-- every assignment of the walk keeps the rules, the limits among them
pub walk_keeps : (s : List ℕ) (b : Board) → IsCosts s b → (g : ℕ) → cores_of (start (chain_of s b) g) ≤ b.cores → (OverLimit (chain_of s b) (start (chain_of s b) g) → ⊥)
    → (a : List Module) → Memᴰ a (walked (chain_of s b) g) → keeps_rules (chain_of s b) a ≡ true
walk_keeps s b c g l n = keeping.walk_keeps (chain_of s b) g c.ranged.some_tasks (answering.fits_unless (chain_of s b) g l n)

module _ (c : Chain) (a : List Module) (keeps : keeps_rules c a ≡ true) where
  -- of its modules those at their limit, and no others, take no core; nor does one that is not there
  pub takes_unless_full : (i : ℕ) → (may_take c a i ≡ false) ↔ AtLimit c a i
  takes_unless_full = keeping.takes_unless_full c a keeps

  -- there is no next assignment exactly if the first slowest module, its predecessor and its successor, as far as they exist, are at
  -- their limits
  pub ends_exactly : (next c a ≡ none) ↔ (let i = (bottleneck c a).number - 1 in AtLimit c a i × AtLimit c a (predecessor a i) × AtLimit c a (i + 1))
  ends_exactly =
      let i = (bottleneck c a).number - 1 in
      let own = takes_unless_full i in
      let left = takes_unless_full (predecessor a i) in
      let right = takes_unless_full (i + 1) in (
        λ e. let (x, y, z) = (choosing.next_none c a).0 e in (own.0 x, left.0 y, right.0 z),
        λ h. (choosing.next_none c a).1 (own.1 h.0, left.1 h.1, right.1 h.2),
      )

-- and then the walk ends, however many cores are left
pub walk_ends : (c : Chain) (a : List Module) → next c a ≡ none → (n : ℕ) → visited c n a ≡ a ∷ []
walk_ends c a e n = visiting.visited_ends c n a e

-- ---- accepted costs and 48 plan bytes: refusals 10 and 11 exactly under their conditions

module _ (s w : List ℕ) (g : ℕ) (r : Readable s w) where
  pub refusal_10 : (greedy_answer s g w ≡ Err NoGrouping) ↔ (2 ^ ((chain s w).tasks - 1) ≤ g)
  refusal_10 = answering.refused_grouping s w g r

  -- document 01's words: "a grouping bit at k − 1 or above"
  pub refusal_10_bits : (greedy_answer s g w ≡ Err NoGrouping) ↔ SomeBit g ((chain s w).tasks - 1)
  refusal_10_bits = Iff.trans refusal_10 (bits.some_bit g ((chain s w).tasks - 1))

  -- the fewest cores add up to more than P, or some module's exceed its limit
  pub refusal_11 : g < 2 ^ ((chain s w).tasks - 1)
      → (greedy_answer s g w ≡ Err NoStart) ↔ (((chain s w).board < cores_of (start (chain s w) g)) ⊎ OverLimit (chain s w) (start (chain s w) g))
  refusal_11 = answering.refused_start s w g r
