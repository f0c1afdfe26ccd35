-- `end_all` ends one task: the modules of fewer cores than the loop's are pushed, and no others.
use Prim.Native.Nat.{◌+◌}
use native.Mathlib.Omega.{arith}
use Rattle.threshold.specs.Docks.{chain}
use Rattle.threshold.proofs.Ending.{Ended, ended_row, ended_rest, ended_more, ended_all}
use Rattle.threshold.proofs.dock.Dock.end_all.Goals as goal
use Rattle.threshold.proofs.dock.Dock.end_all.Goals.{After-end_at}

pub end_at-requires : goal.end_at-requires
end_at-requires c =
    let o = c.loop-q in
    let a = c.args in
    let k = chain a.self.now in
    let i = o.invariant in (
      record { sized = c.requires.0.sized; long = omega (arith, c.requires.0.long, i.long) },
      omega arith,
      omega arith,
      i.laid,
      ended_row k a.n c.requires.1 (omega arith) (omega arith) a.work.now a.l c.requires.2 c.requires.3 o.work o.q (omega arith) i,
      ended_rest k a.n c.requires.1 (omega arith) (omega arith) a.work.now a.l c.requires.2 c.requires.3 o.work o.q (omega arith) i _ _ _ (c.least_rest-least.ensures.found c.requires.0 c.requires.3),
    )

-- one number of cores more
ended : (c : After-end_at) → Ended (chain c.args.self.now) c.args.n c.args.work.now c.end_at.new.work c.args.l (c.loop-q.q + 1)
ended c =
    let a = c.args in
    ended_more (chain a.self.now) a.n c.requires.1 (omega arith) (omega arith) a.work.now a.l c.requires.2 c.requires.3 c.loop-q.work c.loop-q.q (omega arith) c.loop-q.invariant _ (omega arith) c.end_at.ensures

pub loop-q-preserved : goal.loop-q-preserved
loop-q-preserved c = ended (goal.at.loop-q-preserved c).After-end_at

pub returns-2 : goal.returns-2
returns-2 c =
    let a = c.args in
    let i = ended (goal.at.returns-2 c).After-end_at in
    (i.long, i.laid, ended_all (chain a.self.now) a.n c.requires.1 (omega arith) (omega arith) a.work.now a.l c.requires.2 c.requires.3 c.end_at.new.work (c.loop-q.q + 1) (omega arith) i, λ j h. i.later j (omega arith))
