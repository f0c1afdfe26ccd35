-- `copies_to` finds the fewest copies that may come: no rest follows at all; or the fewest that do by one division, where they have room and leave
-- enough, since more leave less.
use Prim.Native.Nat.{ℕ, ◌-◌, ◌*◌}
use native.Mathlib.Nat.{le_refl, mul-le-mul}
use native.Mathlib.Omega.{arith}
use mathlib.Core.Path.{◌≡◌, refl, sym, ap, subst, ◌∙◌}
use lib.Dec.{T}
use Rattle.weights.specs.Scales.{chain_in}
use Rattle.search.proofs.Sparing.{need_most, sparing_i}
use Rattle.slack.specs.Problem.{problem, enough_on, need_on}
use Rattle.rests.specs.Words.{served_in}
use Rattle.rests.proofs.Fewest.{served_is}
use Rattle.weights.specs.Cells.{FewestCopies}
use Rattle.weights.proofs.Fitting.{reached_inside, spares_facts}
use Rattle.weights.proofs.Cells.{fewest_fits, copies_none, copies_some, copies_unserved}
use Rattle.weights.proofs.grown.Grown.copies_to.Goals as goal

pub returns-then-not-served_in : goal.returns-then-not-served_in
returns-then-not-served_in c =
    let a = c.args in
    let k = chain_in a.self.now.scale in
    copies_unserved k a.self.now.scale.n a.self.now.rest.before a.self.now.rest.from a.self.now.rest.cores a.self.now.last a.q2 (a.self.now.rest.left - a.self.now.rest.cores) (ap (λ (v : ℕ). v - a.self.now.rest.cores) c.args.self.now.stands.left) (c.served_in.ensures ∙ served_is k a.self.now.scale.n a.self.now.scale.board a.work.now a.self.now.last a.q2 (a.self.now.rest.left - a.self.now.rest.cores) 0 refl c.requires.0.slacks (reached_inside c.args.self.now.loaded.reached) (omega (arith, c.args.self.now.stands.left, need_most a.self.now.scale.board.cores (enough_on k a.self.now.scale.n) a.self.now.rest.before a.self.now.rest.from a.self.now.rest.cores, c.args.self.now.stands.one_core))) (c.if-not-served_in.true)

pub returns-in_err-r : goal.returns-in_err-r
returns-in_err-r c =
    let a = c.args in
    let k = chain_in a.self.now.scale in
    let z = c.sent_to-sent.ensures in
    subst (FewestCopies k a.self.now.scale.n a.self.now.rest.before a.self.now.rest.from a.self.now.rest.cores a.self.now.last a.q2) (sym c.from_residual.ensures)
    (copies_none c.args.self.now.loaded a.self.now.scale.n a.q2 z (sym c.in_err-r.ensures) c.args.self.now.stands.one_core (λ u. let f = spares_facts k a.self.now.scale.n a.self.now.rest.before a.self.now.rest.from a.self.now.last 0 a.self.now.rest.cores a.q2 u in omega (arith, f.fits.one_copy)))

pub returns-then-self-r : goal.returns-then-self-r
returns-then-self-r c =
    let a = c.args in
    let k = chain_in a.self.now.scale in
    let z = c.sent_to-sent.ensures in
    let r = c.in_ok-r.r in
    let e = c.in_ok-r.ensures.1 in
    copies_none c.args.self.now.loaded a.self.now.scale.n a.q2 z e c.args.self.now.stands.one_core (λ u. let f = spares_facts k a.self.now.scale.n a.self.now.rest.before a.self.now.rest.from a.self.now.last r a.self.now.rest.cores a.q2 u in omega (arith, f.fits.room, c.if-self-r.true, mul-le-mul {n₁ = r} {m₁ = 1} (le_refl r) f.fits.one_core))

pub returns-then-self-x : goal.returns-then-self-x
returns-then-self-x c =
    let a = c.args in
    let k = chain_in a.self.now.scale in
    let z = c.sent_to-sent.ensures in
    let r = c.in_ok-r.r in
    let e = c.in_ok-r.ensures.1 in
    copies_none c.args.self.now.loaded a.self.now.scale.n a.q2 z e c.args.self.now.stands.one_core (λ u. let f = spares_facts k a.self.now.scale.n a.self.now.rest.before a.self.now.rest.from a.self.now.last r a.self.now.rest.cores a.q2 u in omega (arith, f.fits.room, c.if-self-x.true))

pub returns-then-x-used : goal.returns-then-x-used
returns-then-x-used c =
    let a = c.args in
    let k = chain_in a.self.now.scale in
    let z = c.sent_to-sent.ensures in
    let r = c.in_ok-r.r in
    let e = c.in_ok-r.ensures.1 in
    copies_none c.args.self.now.loaded a.self.now.scale.n a.q2 z e c.args.self.now.stands.one_core (λ u. let f = spares_facts k a.self.now.scale.n a.self.now.rest.before a.self.now.rest.from a.self.now.last r a.self.now.rest.cores a.q2 u in omega (arith, f.few, c.args.self.now.stands.left, c.if-x-used.true))

pub returns-then-not-served_in-2 : goal.returns-then-not-served_in-2
returns-then-not-served_in-2 c =
    let a = c.args in
    let k = chain_in a.self.now.scale in
    let z = c.sent_to-sent.ensures in
    let r = c.in_ok-r.r in
    let e = c.in_ok-r.ensures.1 in
    let x = a.self.now.rest in
    let sent = c.sent_to-sent.result in
    let some = mul-le-mul {n₁ = 1} {m₁ = 1} {n₂ = r} {m₂ = x.cores} c.in_ok-r.ensures.0 c.args.self.now.stands.one_core in
    let here = c.served_in-2.ensures ∙ served_is k a.self.now.scale.n a.self.now.scale.board a.work.now a.self.now.last a.q2 (x.left - r * x.cores) sent refl c.requires.0.slacks (reached_inside c.args.self.now.loaded.reached) (omega (arith, c.args.self.now.stands.left, need_most a.self.now.scale.board.cores (enough_on k a.self.now.scale.n) x.before x.from x.cores)) in
    let is : served_in k a.self.now.scale.n a.self.now.last a.q2 (x.left - r * x.cores) sent ≡ enough_on k a.self.now.scale.n x.cores a.self.now.last a.q2 (need_on k a.self.now.scale.n x.before x.from x.cores - r * x.cores) =
    ap (λ (v : ℕ). served_in k a.self.now.scale.n a.self.now.last a.q2 (v - r * x.cores) sent) c.args.self.now.stands.left ∙ ap (λ (v : ℕ). served_in k a.self.now.scale.n a.self.now.last a.q2 (need_on k a.self.now.scale.n x.before x.from x.cores - r * x.cores) v) z in
    copies_none c.args.self.now.loaded a.self.now.scale.n a.q2 z e c.args.self.now.stands.one_core
    (λ u. subst T (sym is ∙ sym here ∙ c.if-not-served_in-2.true) (spares_facts k a.self.now.scale.n a.self.now.rest.before a.self.now.rest.from a.self.now.last r a.self.now.rest.cores a.q2 u).enough)

pub returns : goal.returns
returns c =
    let a = c.args in
    let k = chain_in a.self.now.scale in
    let z = c.sent_to-sent.ensures in
    let r = c.in_ok-r.r in
    let e = c.in_ok-r.ensures.1 in
    let x = a.self.now.rest in
    let sent = c.sent_to-sent.result in
    let some = mul-le-mul {n₁ = 1} {m₁ = 1} {n₂ = r} {m₂ = x.cores} c.in_ok-r.ensures.0 c.args.self.now.stands.one_core in
    let here = c.served_in-2.ensures ∙ served_is k a.self.now.scale.n a.self.now.scale.board a.work.now a.self.now.last a.q2 (x.left - r * x.cores) sent refl c.requires.0.slacks (reached_inside c.args.self.now.loaded.reached) (omega (arith, c.args.self.now.stands.left, need_most a.self.now.scale.board.cores (enough_on k a.self.now.scale.n) x.before x.from x.cores)) in
    let is : served_in k a.self.now.scale.n a.self.now.last a.q2 (x.left - r * x.cores) sent ≡ enough_on k a.self.now.scale.n x.cores a.self.now.last a.q2 (need_on k a.self.now.scale.n x.before x.from x.cores - r * x.cores) =
    ap (λ (v : ℕ). served_in k a.self.now.scale.n a.self.now.last a.q2 (v - r * x.cores) sent) c.args.self.now.stands.left ∙ ap (λ (v : ℕ). served_in k a.self.now.scale.n a.self.now.last a.q2 (need_on k a.self.now.scale.n x.before x.from x.cores - r * x.cores) v) z in
    copies_some c.args.self.now.loaded a.self.now.scale.n a.q2 z e c.args.self.now.stands.one_core
    (sparing_i (problem k) a.self.now.scale.n (enough_on k a.self.now.scale.n) x.before x.from a.self.now.last r x.cores a.q2
    (fewest_fits c.args.self.now.loaded a.self.now.scale.n a.q2 z e c.args.self.now.stands.one_core c.in_ok-r.ensures.0 (omega (arith, c.if-self-x.false)))
    (omega (arith, c.if-x-used.false, c.args.self.now.stands.left)) (subst T (sym c.if-not-served_in-2.false ∙ here ∙ is) tt))
