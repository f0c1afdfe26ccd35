-- `lay_path` lays the plan of the threshold: the bytes are those of the modules that the walk has passed, and each turn takes the walk's
-- next module.
use Prim.Native.Nat.{◌-◌}
use Rattle.walk.specs.Tables.{chain_in}
use Rattle.walk.proofs.Laying.{Laid}
use Rattle.walk.proofs.tables.Tables.lay_path.Given as goal

abbrev pub invariant-loop-m : goal.invariant-loop-m
invariant-loop-m l = Laid (chain_in l.self) l.self.n l.self.work.now l.m l.i l.plan

abbrev pub decreases-loop-m : goal.decreases-loop-m
decreases-loop-m l = l.self.board.tasks - l.m.last
