-- `blank_fault` is the `blank_fault` of specs: what is found from record i on is what is found from the first one on.
use mathlib.Core.Path.{◌≡◌}
use Prim.Native.Nat.{◌-◌}
use Rattle.layout.specs.Layout.{most_modules}
use Rattle.judge.specs.Judge.{blank_fault}
use Rattle.judge.proofs.verdict.blank_fault.Given as goal

abbrev pub invariant-loop-i : goal.invariant-loop-i
invariant-loop-i l = blank_fault l.plan l.from (most_modules - l.from) ≡ blank_fault l.plan l.i (most_modules - l.i)
