-- `fewest_cores` is the `fewest_cores` of specs: what the search from p on finds is what the whole search finds.
use mathlib.Core.Path.{◌≡◌}
use Prim.Native.Nat.{◌+◌, ◌-◌, ◌≤◌}
use Rattle.modules.specs.Model.{chain_of}
use Rattle.modules.specs.Rules.{fewest_cores, fewest_from}
use Rattle.modules.proofs.rules.fewest_cores.Given as goal

abbrev pub invariant-loop-p : goal.invariant-loop-p
invariant-loop-p l =
    (l.p ≤ l.p-end + 1) × (fewest_cores (chain_of l.costs l.board) l.first l.last ≡ fewest_from (chain_of l.costs l.board) l.first l.last (l.p - 1) (l.p-end + 1 - l.p))
