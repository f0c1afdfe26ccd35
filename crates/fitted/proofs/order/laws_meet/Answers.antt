-- `laws_meet` is the `laws_meet` of specs. The loop's invariant: the test of the records from n on is the test of all; the key by its place is the
-- list's.
use mathlib.Core.Path.{sym, ap, ◌∙◌}
use Prim.Native.Nat.{◌*◌}
use native.Mathlib.Omega.{arith}
use borrow.Author.Tests.{eq-eqb, ne_eqb}
use lib.ListN.{length}
use Rattle.laws.specs.Form.{law_meets}
use Rattle.fitted.specs.Fill.{law_count, law_keys, laws_meet}
use Rattle.fitted.proofs.Keys.{laws_count, law_key_at}
use Rattle.fitted.proofs.Walks.{meet_next, meet_not, meet_end}
use Rattle.fitted.proofs.order.laws_meet.Goals as goal

pub returns-then-laws-wide : goal.returns-then-laws-wide
unfolding laws_meet
returns-then-laws-wide c =
    let a = c.args in
    simp (ne_eqb (length a.laws.now) (24 * law_count a.k) (λ e. c.if-laws-wide.true (omega (arith, c.wide.ensures.0, c.law_count-total.ensures))))

pub returns-then-not-law_meets : goal.returns-then-not-law_meets
unfolding laws_meet
returns-then-not-law_meets c =
    let a = c.args in
    let total = c.law_count-total.ensures in
    let l = c.loop-n in
    let e = ap (law_meets a.laws.now l.n) (law_key_at a.k (omega arith) l.n (omega (arith, total)) ∙ sym c.law_key-key.ensures) ∙ sym c.law_meets.ensures ∙ c.if-not-law_meets.true in
    simp (eq-eqb (length a.laws.now) (24 * law_count a.k) (omega (arith, total, c.wide.ensures.0, c.if-laws-wide.false))) (sym (l.invariant ∙ meet_not a.laws.now (law_keys a.k) l.n (omega (arith, total, laws_count a.k)) e))

pub loop-n-preserved : goal.loop-n-preserved
loop-n-preserved c =
    let a = c.args in
    let total = c.law_count-total.ensures in
    let l = c.loop-n in
    let e = ap (law_meets a.laws.now l.n) (law_key_at a.k (omega arith) l.n (omega (arith, total)) ∙ sym c.law_key-key.ensures) ∙ sym c.law_meets.ensures ∙ c.if-not-law_meets.false in
    l.invariant ∙ meet_next a.laws.now (law_keys a.k) l.n (omega (arith, total, laws_count a.k)) e

pub returns : goal.returns
unfolding laws_meet
returns c =
    let a = c.args in
    let total = c.law_count-total.ensures in
    let l = c.loop-n in
    simp (eq-eqb (length a.laws.now) (24 * law_count a.k) (omega (arith, total, c.wide.ensures.0, c.if-laws-wide.false))) (sym (l.invariant ∙ meet_end a.laws.now (law_keys a.k) l.n (omega (arith, total, laws_count a.k))))
