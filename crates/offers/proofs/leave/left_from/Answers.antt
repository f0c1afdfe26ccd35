-- `left_from` leaves all as it is where it cannot be asked; else it makes the row of cheapest transfers, in which none are below `least` where the
-- rests have no fewer cores, and offers by it from the first entry that is a transfer on.
use native.Mathlib.Omega.{arith}
use mathlib.Core.Path.{◌∙◌}
use Rattle.modules.specs.Model.{chain_of}
use Rattle.offers.proofs.Offering.{left_offered}
use Rattle.offers.proofs.Rows.{unsent_least}
use Rattle.offers.proofs.leave.left_from.Goals as goal

pub returns : goal.returns
returns c =
    let a = c.args in
    let k = chain_of a.costs.now a.board in
    let ask = c.askable.ensures.0 (c.if-not-askable.false) in
    let first = c.first_sent-low in
    record {
      high = omega (arith, ask.fits, first.ensures.0);
      made = λ _ extra rest filled zeros.
          let right = c.cheapest.ensures rest.bare a.n filled in
          let sent = first.ensures.1 (λ i h. right i (omega (arith, ask.fits)) ∙ unsent_least k a.n a.work.now a.l a.q a.least ask.inside rest filled i h (omega (arith, ask.fits))) in
          left_offered k a.n a.extra a.l a.q first.result _ _ ask.low ask.positive ask.roomy.sized.cores_most (omega (arith, ask.fits, first.ensures.0)) extra right
          sent.none_before (c.offer.ensures sent.none_before zeros);
      out = λ h. absurd (h ask);
    }
