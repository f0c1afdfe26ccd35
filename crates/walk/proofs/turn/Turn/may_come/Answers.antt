-- `may_come` is the walk's choice: without room, past the word of the reach, without a slack at the start, or with more cores than the fewest
-- nothing goes on, no q that is passed does, and with more cores than are left none is.
use mathlib.Core.Path.{◌≡◌, sym, ap, ◌∙◌}
use Prim.Native.Nat.{ℕ, ◌+◌, ◌-◌, ◌*◌, ◌≤◌}
use native.Mathlib.Nat.{mul-le-mul_right}
use native.Mathlib.Omega.{arith}
use lib.ListN.{get_or}
use borrow.Author.Count.{below_more}
use Rattle.walk.specs.Tables.{chain_in}
use Rattle.search.proofs.Sparing.{need_most}
use Rattle.slack.specs.Problem.{enough_on}
use Rattle.threshold.specs.Words.{reach_at}
use Rattle.threshold.proofs.Pushing.{word_reached}
use Rattle.walk.proofs.Coming.{comes_at, comes_nowhere, comes_no_room, comes_not, comes_short, comes_unserved, passed_beside, passed_closed}
use Rattle.walk.proofs.turn.Turn.may_come.Goals as goal

pub returns-then-room-eq0 : goal.returns-then-room-eq0
returns-then-room-eq0 c =
    let a = c.args in
    let x = a.self.now in
    let few = mul-le-mul_right {m = 1} {n = a.r} a.p c.requires.2 in
    sym (comes_no_room (chain_in x.tables) x.tables.n x.passed a.l a.r a.p (x.rooms_right.at a.p (omega arith)) c.if-room-eq0.true)

pub returns-then-self-p : goal.returns-then-self-p
returns-then-self-p c =
    let a = c.args in
    let x = a.self.now in
    let same : 13860 + x.passed.last * 33 + a.p ≡ reach_at x.passed.last a.p = omega arith in
    let word = ap (λ (i : ℕ). get_or x.tables.work.now i 0) same in
    sym (comes_short (chain_in x.tables) x.tables.n x.passed a.l a.r a.p x.tables.tabled.laid (omega (arith, word, c.if-self-p.true)))

pub returns-then-starts_short : goal.returns-then-starts_short
returns-then-starts_short c =
    let a = c.args in
    let x = a.self.now in
    let few = mul-le-mul_right {m = 1} {n = a.r} a.p c.requires.2 in
    sym (comes_unserved (chain_in x.tables) x.tables.n x.passed a.l a.r a.p x.passed_right x.tables.tabled.slacks (omega (arith, c.requires.0, c.requires.1)) c.requires.3 (omega arith) (sym c.starts_short.ensures ∙ c.if-starts_short.true))

pub cores_left-left-requires : goal.cores_left-left-requires
cores_left-left-requires c =
    let a = c.args in
    let x = a.self.now in
    let few = mul-le-mul_right {m = 1} {n = a.r} a.p c.requires.2 in
    let most : a.p ≤ x.tables.board.cores = omega arith in
    let beside = passed_beside (chain_in x.tables) x.tables.n x.passed x.passed_right a.p (x.rooms_right.at a.p most) c.if-room-eq0.false most in
    (omega arith, c.requires.3, beside)

pub returns-then-left-used : goal.returns-then-left-used
returns-then-left-used c =
    let a = c.args in
    let x = a.self.now in
    let left = c.cores_left-left.ensures x.tables.n x.tables.tabled.slacks x.passed_right.whole in
    sym (comes_not (chain_in x.tables) x.tables.n x.passed a.l a.r a.p (λ q f. omega (arith, f.few, left, c.if-left-used.true)))

pub goes_on-requires : goal.goes_on-requires
goes_on-requires c =
    let a = c.args in
    let x = a.self.now in
    let k = chain_in x.tables in
    let few = mul-le-mul_right {m = 1} {n = a.r} a.p c.requires.2 in
    let most : a.p ≤ x.tables.board.cores = omega arith in
    let same : 13860 + x.passed.last * 33 + a.p ≡ reach_at x.passed.last a.p = omega arith in
    let word = ap (λ (i : ℕ). get_or x.tables.work.now i 0) same in
    let reached = word_reached x.tables.work.now x.passed.last a.l a.p c.requires.0 (omega (arith, word, c.if-self-p.false)) k x.tables.tabled.laid c.requires.1 c.requires.3 most in
    let left = c.cores_left-left.ensures x.tables.n x.tables.tabled.slacks x.passed_right.whole in
    let high = need_most x.tables.board.cores (enough_on k x.tables.n) x.passed.cores x.passed.last a.p in
    let spare : c.cores_left-left.result - a.r * a.p ≤ x.tables.board.cores = omega arith in
    let closed = passed_closed k x.tables.n x.passed x.passed_right a.p (x.rooms_right.at a.p most) c.if-room-eq0.false x.tables.weighed (omega arith) c.requires.3 most in
    (reached, spare, omega (arith, left, c.if-left-used.false), omega (arith, left), closed, c.requires.3, most, omega (arith, spare, c.loop-q-test.true))

pub returns-then-goes_on : goal.returns-then-goes_on
returns-then-goes_on c =
    let a = c.args in
    let x = a.self.now in
    let k = chain_in x.tables in
    let few = mul-le-mul_right {m = 1} {n = a.r} a.p c.requires.2 in
    let left = c.cores_left-left.ensures x.tables.n x.tables.tabled.slacks x.passed_right.whole in
    let high = need_most x.tables.board.cores (enough_on k x.tables.n) x.passed.cores x.passed.last a.p in
    comes_at k x.tables.n x.passed a.l a.r a.p (x.rooms_right.at a.p (omega arith)) c.loop-q.q (omega (arith, c.loop-q-test.true)) c.goes_on.ensures c.if-goes_on.true

pub loop-q-preserved : goal.loop-q-preserved
loop-q-preserved c = below_more _ _ c.loop-q.invariant (sym c.if-goes_on.ensures)

pub returns-else-goes_on : goal.returns-else-goes_on
returns-else-goes_on c =
    let a = c.args in
    let x = a.self.now in
    let few = mul-le-mul_right {m = 1} {n = a.r} a.p c.requires.2 in
    let left = c.cores_left-left.ensures x.tables.n x.tables.tabled.slacks x.passed_right.whole in
    sym (comes_nowhere (chain_in x.tables) x.tables.n x.passed a.l a.r a.p (x.rooms_right.at a.p (omega arith))
    (λ q f. below_more _ _ c.loop-q.invariant (sym c.if-goes_on.ensures) q (omega (arith, f.most, left))))
