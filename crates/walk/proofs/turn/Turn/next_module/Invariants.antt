-- `next_module` is the module that the walk takes: no last task that is passed may come, and where some module may come, the last task does.
use Rattle.walk.specs.Tables.{chain_in}
use Rattle.walk.proofs.Coming.{NoneBelow}
use Rattle.walk.proofs.turn.Turn.next_module.Given as goal

abbrev pub invariant-loop-l : goal.invariant-loop-l
invariant-loop-l l =
    NoneBelow (chain_in l.self.tables) l.self.tables.n l.self.passed l.l
