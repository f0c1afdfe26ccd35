-- `shape_fault` is the `shape_fault` of specs: what is found from record i on, with its due task, is what is found from the first one on.
use mathlib.Core.Path.{◌≡◌}
use Prim.Native.Nat.{◌-◌}
use Rattle.layout.specs.Layout.{most_modules}
use Rattle.judge.specs.Judge.{shape_fault}
use Rattle.judge.proofs.verdict.shape_fault.Given as goal

abbrev pub invariant-loop-i : goal.invariant-loop-i
invariant-loop-i l = shape_fault l.k l.plan 1 0 most_modules ≡ shape_fault l.k l.plan l.due l.i (most_modules - l.i)
