-- `longest` ends at the longest module: it keeps the rules up to `end`, and either there is no next task or it breaks one with it.
use mathlib.Core.Path.{◌≡◌}
use mathlib.Core.Bool.{true}
use Prim.Native.Nat.{◌+◌}
use Rattle.threshold.specs.Docks.{chain}
use Rattle.modules.specs.Rules.{shares, module_rules}
use Rattle.threshold.proofs.dock.Dock.longest.Given as goal

abbrev pub invariant-loop-end : goal.invariant-loop-end
invariant-loop-end l =
    let k = chain l.self in
    (module_rules k (l.t + 1) l.end 1 l.q ≡ true) × (l.sum ≡ shares k (l.t + 1) l.end l.q)
