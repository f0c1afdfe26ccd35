-- `next_module` is the module that the walk takes: no last task that is passed may come, and some module does.
use Prim.Native.Nat.{◌+◌}
use native.Mathlib.Omega.{arith}
use borrow.Author.Count.{below_more}
use Rattle.walk.specs.Tables.{chain_in}
use Rattle.walk.proofs.Coming.{comes_not, some_comes, next_is}
use Rattle.walk.proofs.turn.Turn.next_module.Goals as goal
use Rattle.walk.proofs.turn.Turn.next_module.Goals.{else-loop-l-test, then-loop-l-test+in_default+else-l-l-end}

pub loop-l-init : goal.loop-l-init
loop-l-init c =
    let a = c.args in
    let x = a.self.now in
    λ i h r _ p _. comes_not (chain_in x.tables) x.tables.n x.passed i r p (λ q f. omega (arith, f.fits.later))

pub returns-in-Some : goal.returns-in-Some
returns-in-Some c =
    let a = c.args in
    let x = a.self.now in
    next_is (chain_in x.tables) x.tables.n x.passed c.loop-l.l c.in-Some.x c.loop-l-test.true c.loop-l.invariant c.in-Some.ensures

pub unreachable-requires : goal.unreachable-requires
unreachable-requires c =
    let a = c.args in
    let x = a.self.now in
    elim c.loop-l-test.branch [
      | else-loop-l-test w ↦ absurd (omega (arith, c.loop-l.auto.l-end, c.requires.0))
      | then-loop-l-test+in_default+else-l-l-end w ↦
          some_comes (chain_in x.tables) x.tables.n x.passed (c.loop-l.l + 1) (omega arith) c.requires.1 (below_more _ _ c.loop-l.invariant w.in_default.ensures)
    ]
