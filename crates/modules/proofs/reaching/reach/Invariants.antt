-- `reach` is the definition of that name: what is found up to the task before is the reach of a chain that ends there, and the first module
-- that needs more cores than the board has ends the search.
use mathlib.Core.Path.{◌≡◌}
use Prim.Native.Nat.{◌+◌, ◌-◌, ◌≤◌}
use Rattle.modules.specs.Model.{chain_of}
use Rattle.modules.specs.Reach.{reach_of}
use Rattle.modules.proofs.reaching.reach.Given as goal

abbrev pub invariant-loop-last : goal.invariant-loop-last
invariant-loop-last l = (l.last - l.first ≤ l.last-end + 1 - l.first) × (l.end ≡ reach_of (chain_of l.costs l.board) l.first (l.last - l.first))
