-- `over_copies` is the `over_copies` of specs by whatever the marked cells say: the fewest copies that may come are the cheapest, and the rest after them is marked.
use Prim.Native.Nat.{◌+◌, ◌*◌, ◌<◌}
use native.Mathlib.Nat.{eq-or-lt_of_le}
use native.Mathlib.Omega.{arith}
use mathlib.Core.Path.{◌≡◌, refl, ◌∙◌}
use mathlib.Core.Logic.{⊎_elim}
use Rattle.weights.specs.Scales.{chain_in}
use Rattle.search.specs.Least.{lesser}
use Rattle.slack.specs.Problem.{unit}
use Rattle.weights.specs.Cells.{no_plan}
use Rattle.weights.proofs.Fitting.{reached_inside, spares_facts}
use Rattle.weights.proofs.Cells.{min_is, priced}
use Rattle.weights.proofs.Looking.{looked_unfit, looked_end, looked_mark}
use Rattle.weights.proofs.grown.Grown.over_copies.Goals as goal

pub returns-in_default : goal.returns-in_default
returns-in_default c =
    let a = c.args in
    looked_unfit (chain_in a.self.now.scale) a.self.now.scale.n a.self.now.rest.before a.self.now.rest.from a.self.now.rest.cores a.work.now a.self.now.last a.q2 c.no_plan-none.ensures.0 c.in_default.ensures

pub weight_after-rest-requires : goal.weight_after-rest-requires
weight_after-rest-requires c =
    let a = c.args in
    let k = chain_in a.self.now.scale in
    let r = c.in-Some in
    let f = spares_facts k a.self.now.scale.n a.self.now.rest.before a.self.now.rest.from a.self.now.last r.copies a.self.now.rest.cores a.q2 r.ensures.comes in
    (c.requires.0.area, c.args.self.now.stands.one_core, omega (arith, f.fits.later), f.fits.inside, λ more. (f.goes more, omega (arith, f.beside)))

pub returns : goal.returns
returns c =
    let a = c.args in
    let k = chain_in a.self.now.scale in
    let x = a.self.now.rest in
    let r = c.in-Some in
    let z = c.sent_to-sent in
    let p = c.paid in
    let own = unit * (r.copies * x.cores) + (a.self.now.stay + z.result + p.result) in
    let is_own = priced c.args.self.now.loaded a.self.now.scale.n a.q2 z.ensures r.ensures {own = own} p.ensures refl in
    let rest = c.weight_after-rest.result in
    let least : c.min.result ≡ lesser (no_plan a.self.now.scale.board.cores) (own + rest) = rw c.no_plan-none.ensures.0 at (c.min.ensures ∙ min_is _ _) in
    let after = c.weight_after-rest.ensures in
    ⊎_elim
    (λ (e : a.self.now.last ≡ k.tasks).
    let w = after.0 e in
    rw w.1 (looked_end k a.self.now.scale.n x.before x.from x.cores c.args.self.now.loaded a.q2 z.ensures r.ensures own rest is_own least a.work.now e w.0))
    (λ (e : a.self.now.last < k.tasks).
    let w = after.1 e in
    let f = spares_facts k a.self.now.scale.n x.before x.from a.self.now.last r.copies x.cores a.q2 r.ensures.comes in
    rw w.1 (looked_mark k a.self.now.scale.n x.before x.from x.cores c.args.self.now.loaded a.q2 z.ensures r.ensures own rest is_own least a.work.now
    (omega (arith, c.requires.0.area.long, c.requires.0.area.sized.tasks_most, c.requires.0.area.sized.cores_most, f.goes e, f.beside)) e w.0))
    (eq-or-lt_of_le (reached_inside c.args.self.now.loaded.reached))
