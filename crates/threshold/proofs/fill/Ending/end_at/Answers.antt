-- `end_at`: nothing is pushed where no rest fits, the task alone breaks a rule, or copies leave nothing with any of the board's cores; else the
-- modules are pushed by what copies leave.
use Prim.Native.Nat.{ℕ, ◌+◌, ◌-◌, ◌≤◌, ◌<◌}
use native.Mathlib.Omega.{arith}
use mathlib.Core.Path.{refl}
use mathlib.Core.List.{List}
use lib.ListN.{replicate, length-replicate}
use Rattle.threshold.specs.declared.fill.Ending.{Ending}
use Rattle.threshold.specs.Docks.{chain}
use Rattle.offers.specs.Words.{Area, RowFilled, LeastRest}
use Rattle.offers.specs.Leaving.{Left, LeftFrom}
use Rattle.offers.proofs.Rows.{unsent_least}
use Rattle.threshold.proofs.Ending.{pushed_bare, pushed_right, pushed_short, left_no_more}
use Rattle.threshold.proofs.Pushing.{pushed_none, pushed_stop}
use Rattle.threshold.proofs.fill.Ending.end_at.Goals as goal

-- zeros may be asked for
leaves : (e : Ending) (w left : List ℕ) (q r : ℕ) → Area e.dock.board w → 1 ≤ q → q + e.least ≤ e.dock.board.cores → (e.l < e.dock.board.tasks → RowFilled (chain e.dock) e.n w e.l)
    → LeastRest e.dock.board.tasks e.dock.board.cores w e.l e.least → LeftFrom (chain e.dock) e.dock.board w e.n e.extra e.l q e.least (replicate 66 0) left r → Left (chain e.dock) e.n e.l q left r
leaves e w left q r area positive fits filled rest made =
    made.made (record { roomy = area; low = e.low; some = e.some; inside = e.inside; positive = positive; fits = fits; long = length-replicate {A = ℕ} 66 0 }) e.extra_right rest filled refl

pub returns-then-end-self : goal.returns-then-end-self
returns-then-end-self c =
    let a = c.args in
    let k = chain a.self.now.dock in
    pushed_bare k a.self.now.n a.self.now.l a.q a.work.now a.self.now.low c.requires.1 (omega arith)
    (λ i h. unsent_least k a.self.now.n a.work.now a.self.now.l a.q a.self.now.least a.self.now.inside c.requires.5 c.requires.4 i (omega arith) (omega arith))

pub returns-then-work-alone : goal.returns-then-work-alone
returns-then-work-alone c =
    let a = c.args in
    let k = chain a.self.now.dock in
    let none = pushed_none k a.work.now _ _ a.self.now.l a.q a.self.now.fixed a.self.now.inside (omega arith) (omega arith) c.requires.1 c.requires.2 c.requires.3 a.self.now.fixed_right in
    pushed_stop k a.work.now _ _ a.self.now.l a.q a.self.now.fixed a.self.now.inside (omega arith) (omega arith) c.requires.1 c.requires.2 c.requires.3 a.self.now.fixed_right
    a.work.now a.self.now.l (a.self.now.l - 1) (omega arith) none (omega arith) (omega arith)

pub returns-then-cores-start : goal.returns-then-cores-start
returns-then-cores-start c =
    let a = c.args in
    let k = chain a.self.now.dock in
    let made = leaves a.self.now a.work.now _ a.q _ c.requires.0 c.requires.1 (omega (arith, c.if-end-self.false)) c.requires.4 c.requires.5 c.left_from-start.ensures in
    pushed_short k a.self.now.n a.self.now.l a.q _ _ a.work.now made c.if-cores-start.true

pub push-requires : goal.push-requires
push-requires c =
    let a = c.args in
    let k = chain a.self.now.dock in
    let made = leaves a.self.now a.work.now _ a.q _ c.requires.0 c.requires.1 (omega (arith, c.if-end-self.false)) c.requires.4 c.requires.5 c.left_from-start.ensures in
    (omega arith, omega arith, omega arith, made.late, c.if-cores-start.false, omega arith, made.bare, left_no_more k a.self.now.n a.self.now.l a.q _ _ made)

pub returns : goal.returns
returns c =
    let a = c.args in
    let k = chain a.self.now.dock in
    let made = leaves a.self.now a.work.now _ a.q _ c.requires.0 c.requires.1 (omega (arith, c.if-end-self.false)) c.requires.4 c.requires.5 c.left_from-start.ensures in
    pushed_right k a.self.now.n a.self.now.l a.q _ _ _ _ made (c.push.ensures.1 k refl a.self.now.inside c.requires.1 c.requires.3 a.self.now.fixed_right)
