-- `spares_at` is `sparing_on`: that the module has no more than the fewest cores is known, that a rest of those that it leaves can receive what
-- it sends is asked of the slacks, and what is left of the definition is `fits_at`.
use mathlib.Core.Path.{refl, ◌∙◌}
use Rattle.walk.specs.Tables.{chain_in}
use Rattle.rests.proofs.Fewest.{served_is}
use Rattle.weights.proofs.Fitting.{reached_inside, spares_unserved, spares_served}
use Rattle.walk.proofs.tables.Tables.spares_at.Goals as goal

pub returns-else-served_in : goal.returns-else-served_in
returns-else-served_in c =
    let a = c.args in
    let k = chain_in a.self.now in
    c.if-served_in.false ∙ spares_unserved k a.self.now.n a.s a.t a.l a.r a.p a.q c.requires.2 c.requires.3 c.transfer-sent.ensures
    (c.served_in.ensures ∙ served_is k a.self.now.n a.self.now.board a.self.now.work.now a.l a.q a.spare _ refl c.args.self.now.tabled.slacks (reached_inside c.requires.0) c.requires.1) c.if-served_in.false

pub returns-then-served_in : goal.returns-then-served_in
returns-then-served_in c =
    let a = c.args in
    let k = chain_in a.self.now in
    spares_served k a.self.now.n a.s a.t a.l a.r a.p a.q c.requires.2 c.requires.3 c.transfer-sent.ensures
    (c.served_in.ensures ∙ served_is k a.self.now.n a.self.now.board a.self.now.work.now a.l a.q a.spare _ refl c.args.self.now.tabled.slacks (reached_inside c.requires.0) c.requires.1) c.if-served_in.true c.fits_at.ensures
