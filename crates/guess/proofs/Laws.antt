-- What holds of the least threshold of a response: the law that the layers above cite. The definition is in specs/Guess. By the laws of
-- quotients rounded up. Assumes nothing.
use mathlib.Core.Path.{◌≡◌, refl}
use mathlib.Core.Logic.{⊎_elim}
use Prim.Native.Nat.{ℕ, ◌+◌, ◌*◌, ◌≤◌, ◌<◌}
use native.Mathlib.Omega.{arith}
use borrow.Author.Tests.{le-leb, lt-leb}
use Rattle.records.proofs.Cases.{lt_or_le}
use Rattle.rounding.specs.Rounding.{rounded_up}
use Rattle.rounding.proofs.Laws.{rounded_reaches}
use Rattle.slack.specs.Problem.{grain, top_threshold}
use Rattle.guess.specs.Guess.{threshold_of}

-- a threshold up to the greatest is one that the response is within
pub threshold_reaches : (response copies : ℕ) → 1 ≤ copies → threshold_of response copies ≤ top_threshold → response * grain ≤ threshold_of response copies * copies
unfolding threshold_of
threshold_reaches response copies some h = ⊎_elim
    (λ (l : top_threshold * copies < response * grain).
    let none : threshold_of response copies ≡ top_threshold + 1 =
    simp (le-leb 1 copies some, lt-leb (response * grain) (top_threshold * copies) l) refl in
    absurd (omega arith))
    (λ (l : response * grain ≤ top_threshold * copies).
    let least : threshold_of response copies ≡ rounded_up (response * grain) copies =
    simp (le-leb 1 copies some, le-leb (response * grain) (top_threshold * copies) l) refl in
    rw least (rounded_reaches (response * grain) copies some))
    (lt_or_le (top_threshold * copies) (response * grain))
