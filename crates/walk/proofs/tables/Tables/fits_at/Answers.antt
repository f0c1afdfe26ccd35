-- `fits_at` is the `fits_at` of specs: each test that fails denies one of the facts that the definition asks for, and where all others hold the last
-- one decides. Response and threshold times small numbers fit.
use mathlib.Core.Path.{sym}
use mathlib.Core.Logic.{inl, inr}
use native.Mathlib.Omega.{arith}
use Rattle.walk.specs.Tables.{chain_in}
use Rattle.weights.proofs.Fitting.{fits_not, fits_kept_not, fits_within}
use Rattle.walk.proofs.tables.Tables.fits_at.Goals as goal

pub returns-then-r-lt1 : goal.returns-then-r-lt1
returns-then-r-lt1 c =
    let a = c.args in
    sym (fits_not (chain_in a.self.now) a.self.now.n a.s a.t a.l a.r a.p a.q (λ f. elim c.then-r-lt1.either [ inl few ↦ omega arith | inr few ↦ omega arith ]))

pub returns-then-self-s : goal.returns-then-self-s
returns-then-self-s c =
    let a = c.args in
    sym (fits_not (chain_in a.self.now) a.self.now.n a.s a.t a.l a.r a.p a.q (λ f. omega arith))

pub returns-then-not-rules_met : goal.returns-then-not-rules_met
returns-then-not-rules_met c =
    let a = c.args in
    sym (fits_kept_not (chain_in a.self.now) a.self.now.n a.s a.t a.l a.r a.p a.q c.rules_met.ensures c.if-not-rules_met.true)

pub returns : goal.returns
returns c =
    let a = c.args in
    fits_within (chain_in a.self.now) a.self.now.n a.s a.t a.l a.r a.p a.q c.requires (omega arith) (omega arith)
    c.rules_met.ensures c.if-not-rules_met.false (omega arith) c.response_of-response.ensures.0
