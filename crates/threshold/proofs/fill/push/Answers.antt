-- `push` goes from the shortest module on: what is pushed so far is right for every chain whose words these are, and the first module that
-- breaks a rule, or takes all that is left, ends it, since all longer ones do.
use Prim.Native.Nat.{◌+◌, ◌-◌, ◌≤◌}
use native.Mathlib.Omega.{arith}
use mathlib.Core.Path.{◌≡◌, refl, sym}
use Rattle.threshold.proofs.Pushing.{word_reached, body_none, spent_row, spent_more, pushed_none, body_grown, pushed_more, pushed_stop, pushed_spent}
use Rattle.threshold.proofs.fill.push.Goals as goal

pub loop-t-init : goal.loop-t-init
loop-t-init c =
    let a = c.args in (
      omega arith,
      c.requires.3,
      c.requires.4,
      λ i u v. let (o, m) = c.requires.6 i u v in (omega arith, λ h. omega arith),
      λ k board inside some laid fixes. (
        sym (body_none k a.l a.q),
        pushed_none k a.work.now _ _ a.l a.q a.fixed inside (omega arith) (omega arith) some (omega arith) laid fixes,
      ),
    )

pub returns-then-work-i : goal.returns-then-work-i
returns-then-work-i c =
    let o = c.loop-t in
    let a = c.args in (
      o.auto.work,
      λ k board inside some laid fixes.
          pushed_stop k a.work.now _ _ a.l a.q a.fixed inside (omega arith) (omega arith) some (omega arith) laid fixes
          o.work o.t (o.t - 1) (omega arith) (o.invariant.4 k board inside some laid fixes).1 (omega arith) (omega arith),
    )

pub grow-own-requires : goal.grow-own-requires
grow-own-requires c =
    let o = c.loop-t in
    let a = c.args in
    (omega arith, omega arith, omega arith, omega arith, word_reached o.work (o.t - 1) a.l a.q (omega arith) (omega arith), omega arith)

pub returns-then-cores-first : goal.returns-then-cores-first
returns-then-cores-first c =
    let o = c.loop-t in
    let a = c.args in
    let grown = c.grow-own in
    let taken = c.capped-taken in
    let rows = c.row_of-from.ensures.0 in
    let served = c.first_above-first in
    let found = served.ensures.first (omega arith) (omega arith) in
    let spent = spent_more a.left.now a.q a.fixed (o.t - 1) _ rows o.t o.first served.result o.own grown.result taken.result a.cores
    (omega arith) o.invariant.1 (omega (arith, grown.ensures.0)) (omega (arith, taken.ensures)) c.requires.7 found o.invariant.3 in (
      o.auto.work,
      λ k board inside some laid fixes.
          let i = o.invariant.4 k board inside some laid fixes in
          let is_body = body_grown k a.work.now _ _ a.l a.q a.fixed inside (omega arith) (omega arith) some (omega arith) laid fixes
          o.work o.t (o.t - 1) (omega arith) i.1 (omega arith) o.own grown.result i.0 grown.ensures.0 in
          pushed_spent k a.work.now _ _ a.l a.q a.fixed inside (omega arith) (omega arith) some (omega arith) laid fixes
          o.work o.t (o.t - 1) (omega arith) i.1 (omega arith) a.left.now grown.result served.result is_body (λ b. refl) (λ b. refl) spent (omega arith),
    )

pub loop-t-preserved : goal.loop-t-preserved
loop-t-preserved c =
    let o = c.loop-t in
    let a = c.args in
    let grown = c.grow-own in
    let taken = c.capped-taken in
    let rows = c.row_of-from.ensures.0 in
    let served = c.first_above-first in
    let found = served.ensures.first (omega arith) (omega arith) in
    let raised = c.raise in
    let turn = c.loop-t-test.true in
    let next : o.t ≡ o.t - 1 + 1 = omega (arith, turn) in
    let late : a.q ≤ served.result = omega (arith, found.low) in
    let spent = spent_more a.left.now a.q a.fixed (o.t - 1) _ rows o.t o.first served.result o.own grown.result taken.result a.cores
    (omega arith) o.invariant.1 (omega (arith, grown.ensures.0)) (omega (arith, taken.ensures)) c.requires.7 found o.invariant.3 in (
      omega (arith, grown.ensures.1, o.auto.t, o.invariant.0, turn),
      late,
      omega (arith, c.if-cores-first.false),
      spent,
      λ k board inside some laid fixes.
          let i = o.invariant.4 k board inside some laid fixes in
          let is_body = body_grown k a.work.now _ _ a.l a.q a.fixed inside (omega arith) (omega arith) some (omega arith) laid fixes
          o.work o.t (o.t - 1) next i.1 (omega (arith, next, o.auto.t)) o.own grown.result i.0 grown.ensures.0 in (
            is_body,
            pushed_more k a.work.now _ _ a.l a.q a.fixed inside (omega arith) (omega arith) some (omega arith) laid fixes
                o.work o.t (o.t - 1) next i.1 (omega (arith, next, o.auto.t)) raised.new.work a.left.now grown.result _
                (omega (arith, c.if-work-i.false)) is_body rows (λ b. refl) (λ b. refl) served.result late
                (spent_row a.left.now a.q a.fixed (o.t - 1) _ rows served.result grown.result spent) (rw board raised.ensures),
          ),
    )

pub returns : goal.returns
returns c =
    let o = c.loop-t in (
      o.auto.work,
      λ k board inside some laid fixes. let z : o.t ≡ 0 = omega arith in rw z at (o.invariant.4 k board inside some laid fixes).1,
    )
