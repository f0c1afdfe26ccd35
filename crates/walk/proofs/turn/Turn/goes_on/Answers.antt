-- `goes_on` is the `goes_on` of specs by the room at the module's cores: what is not marked does not follow a module of a plan of the fewest cores; where the module is one of a plan of the fewest cores, the rest after it has a word,
-- which is right, and its weight decides.
use mathlib.Core.Path.{refl, sym, ◌∙◌}
use Rattle.walk.specs.Tables.{chain_in}
use Rattle.walk.proofs.Coming.{rest_read, goes_unmarked, goes_not, goes_spares, goes_by}
use Rattle.walk.proofs.turn.Turn.goes_on.Goals as goal

pub returns-then-not-marked : goal.returns-then-not-marked
returns-then-not-marked c =
    let a = c.args in
    let x = a.self.now in
    goes_unmarked (chain_in x.tables) x.tables.n x.passed.cores x.passed.last a.l a.r a.p a.q x.tables.board x.tables.work.now refl refl c.requires.4 a.room c.weight_of-rest.ensures (sym c.marked.ensures ∙ c.if-not-marked.true)

pub returns-then-not-spares_at : goal.returns-then-not-spares_at
returns-then-not-spares_at c =
    let a = c.args in
    let x = a.self.now in
    goes_not (chain_in x.tables) x.tables.n x.passed.cores x.passed.last a.l a.r a.p a.q a.room c.spares_at.ensures c.if-not-spares_at.true

pub returns : goal.returns
returns c =
    let a = c.args in
    let x = a.self.now in
    let spares = c.spares_at.ensures in
    let u = goes_spares (chain_in x.tables) x.tables.n x.passed.cores x.passed.last a.l a.r a.p a.q a.room spares c.if-not-spares_at.false in
    let rest = rest_read (chain_in x.tables) x.tables.n x.passed.cores x.passed.last a.l a.r a.p a.q x.tables.board x.tables.work.now refl refl c.requires.4 x.tables.weighed u c.weight_of-rest.ensures in
    goes_by (chain_in x.tables) x.tables.n x.passed.cores x.passed.last a.l a.r a.p a.q a.room spares c.if-not-spares_at.false c.price.ensures.0 rest
