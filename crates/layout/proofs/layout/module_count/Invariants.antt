-- `module_count` is the `module_count` of specs: what the search from record i on finds is what the whole search finds.
use mathlib.Core.Path.{◌≡◌}
use Prim.Native.Nat.{◌-◌}
use Rattle.layout.specs.Layout.{most_modules, count_from, module_count}
use Rattle.layout.proofs.layout.module_count.Given as goal

abbrev pub invariant-loop-i : goal.invariant-loop-i
invariant-loop-i l = module_count l.plan l.k ≡ count_from l.plan l.k l.i (most_modules - l.i)
