-- `cheapest` keeps a row whose least entry up to c is the cheapest transfer so far to a rest of at most c cores: each next module is
-- entered at the fewest cores of a rest that it can lead, and one that leads none need not be. `settle` then takes the least up to each entry.
use Prim.Native.Nat.{ℕ, ◌+◌, ◌-◌, ◌*◌, ◌≤◌, ◌<◌, min, max}
use native.Mathlib.Omega.{arith}
use mathlib.Core.Path.{◌≡◌, ◌∙◌}
use mathlib.Core.List.{List}
use lib.ListN.{length, get_or, set}
use lib.Seq.{get_or-set_other}
use Rattle.modules.specs.Model.{Chain, chain_of, transfer}
use Rattle.offers.specs.Words.{FirstServed}
use Rattle.offers.proofs.Rows.{unsent_before, blank_length, blank_entry, blank_cheapest, entered_none, entered_same, entered_more, entered_all}
use Rattle.offers.proofs.ends.cheapest.Goals as goal
use Rattle.offers.proofs.ends.cheapest.Goals.{else-loop-led-test, then-loop-led-test+then-work-at-eq0+else-led-end, then-loop-led-test+else-work-at-eq0+else-led-end-2}
use Rattle.offers.proofs.ends.cheapest.Invariants.{EnteredBelow}

module _ (c : Chain) (w : List ℕ) (l q end least : ℕ) (before : l < c.tasks) (inside : end ≤ c.board) where
  below_same : (row : List ℕ) (i : ℕ) → 1 ≤ i → i ≤ end → get_or w (l * 1089 + i * 33 + end) 0 ≡ 0
      → EnteredBelow c w l q end least row i → EnteredBelow c w l q end least row (i + 1)
  below_same row i some fits none h = record { entered = λ rest. entered_same c w l q end before inside row i some fits none (h.entered rest); bare = h.bare }

  below_next : (row : List ℕ) (i e from r v : ℕ) → 1 ≤ i → e ≡ transfer c l q i → from ≡ max i least → FirstServed w (l * 1089 + i * 33) from end e r
      → r < length row → v ≡ min (get_or row r 0) e → EnteredBelow c w l q end least row i → EnteredBelow c w l q end least (set row r v) (i + 1)
  below_next row i e from r v some is start first long ev h = record {
    entered = λ rest. entered_more c w l q end before inside row i e r v least from some is rest start first long ev (h.entered rest);
    bare = λ j u. get_or-set_other row r j v 0 (omega (arith, first.low, start)) ∙ h.bare j u;
  }

pub returns-then-l-board : goal.returns-then-l-board
returns-then-l-board c =
    let a = c.args in
    λ rest n filled. blank_cheapest (chain_of a.costs.now a.board) n a.row.now a.l a.q c.if-l-board.true (omega arith) c.requires.5

pub loop-led-init : goal.loop-led-init
loop-led-init c =
    let a = c.args in
    let blank : (j : ℕ) → j ≤ 32 → _ = λ j h. blank_entry a.row.now _ j c.requires.5 h ∙ unsent_before a.board.tasks a.l (omega arith) in
    record {
      entered = λ rest. entered_none (chain_of a.costs.now a.board) a.work.now a.l a.q _ (omega arith) (omega arith) a.row.now (λ j h. blank j (omega arith));
      bare = λ j h. blank j (omega arith);
    }

pub loop-led-preserved-then-work-at-eq0 : goal.loop-led-preserved-then-work-at-eq0
loop-led-preserved-then-work-at-eq0 c =
    let a = c.args in
    below_same (chain_of a.costs.now a.board) a.work.now a.l a.q _ a.least (omega arith) (omega arith) c.loop-led.row c.loop-led.led (omega arith) (omega arith) (omega arith) c.loop-led.invariant

pub loop-led-preserved : goal.loop-led-preserved
loop-led-preserved c =
    let a = c.args in
    let first = c.first_served-c.ensures in
    below_next (chain_of a.costs.now a.board) a.work.now a.l a.q _ a.least (omega arith) (omega arith) c.loop-led.row c.loop-led.led _ _ _ _ (omega arith)
    c.transfer-e.ensures c.max.ensures first (omega (arith, first.high, blank_length _ _ c.requires.5)) c.min.ensures c.loop-led.invariant

pub returns : goal.returns
returns c =
    let a = c.args in
    let o = c.loop-led in
    let k = chain_of a.costs.now a.board in
    let end = a.board.cores - a.q in
    λ rest n filled b low.
    let (i, past, all) : (i : ℕ) × (end < i) × EnteredBelow k a.work.now a.l a.q end a.least c.loop-led-test.row i = elim c.loop-led-test.branch [
      | else-loop-led-test w ↦ (o.led, omega arith, rw w.row-is o.invariant)
      | then-loop-led-test+then-work-at-eq0+else-led-end w ↦ (
        o.led + 1,
        omega arith,
        rw w.row-is (below_same k a.work.now a.l a.q end a.least (omega arith) (omega arith) o.row o.led (omega arith) (omega arith) (omega arith) o.invariant),
      )
      | then-loop-led-test+else-work-at-eq0+else-led-end-2 w ↦ (
        o.led + 1,
        omega arith,
        let first = w.first_served-c.ensures in
            rw w.row-is (below_next k a.work.now a.l a.q end a.least (omega arith) (omega arith) o.row o.led _ _ _ _ (omega arith)
            w.transfer-e.ensures w.max.ensures first (omega (arith, first.high, blank_length _ _ c.requires.5)) w.min.ensures o.invariant),
      )
    ] in
    c.settle.ensures all.bare b (omega arith)
    ∙ entered_all k a.work.now a.l a.q end (omega arith) (omega arith) c.loop-led-test.row i past (all.entered rest) n (filled (omega arith)) b (omega arith)
