-- `body` is the chain's: what is added up and what is left of the sum are the whole, and each turn adds two 32-bit values.
use mathlib.Core.Path.{◌≡◌}
use mathlib.Core.List.{List}
use Prim.Native.Nat.{ℕ, ◌+◌, ◌-◌, ◌*◌, ◌≤◌}
use Rattle.records.specs.declared.Board.{Board}
use Rattle.lookups.specs.Lookups.{execution_of, internal_of}
use Rattle.modules.specs.Model.{run}
use Rattle.modules.proofs.cost.body.Given as goal

abbrev pub executions : List ℕ → Board → ℕ → ℕ → ℕ
executions s b p t = execution_of s b t p

abbrev pub internals : List ℕ → Board → ℕ → ℕ → ℕ
internals s b p t = internal_of s b t p

abbrev pub invariant-loop-t : goal.invariant-loop-t
invariant-loop-t l =
    let f = executions l.costs l.board l.p in
    let g = internals l.costs l.board l.p in
    (run f g l.first (l.last - l.first) ≡ l.sum + run f g l.t (l.last - l.t)) × (l.sum ≤ (l.t - l.first) * 8589934590)
