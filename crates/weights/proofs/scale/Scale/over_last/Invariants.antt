-- `over_last` is the `over_last` of specs by whatever the marked cells say: the least so far over the last tasks, up to the last with which one copy keeps the rules.
use Rattle.weights.specs.Scales.{chain_in}
use Rattle.weights.proofs.Lengthening.{Lengthened}
use Rattle.weights.proofs.scale.Scale.over_last.Given as goal

abbrev pub invariant-loop-l : goal.invariant-loop-l
invariant-loop-l l =
    Lengthened (chain_in l.self) l.self.n l.x l.initial.work l.work l.m l.stay l.rep l.l
