-- Whether the first row of a slack table holds a slack, in the steps of the loop that looks for one. Assumes nothing.
use mathlib.Core.Path.{◌≡◌, ap}
use mathlib.Core.List.{List}
use mathlib.Core.Logic.{⊎_elim}
use Prim.Native.Nat.{ℕ, ◌+◌, ◌*◌, ◌≤◌, ◌<◌}
use native.Mathlib.Omega.{arith}
use lib.ListN.{get_or}
use Rattle.records.proofs.Cases.{lt_or_le}
use Rattle.sketch.specs.Slacks.{slack_at, Slacked}

-- those of the whole chain stand in the first row
slack_first : (w : List ℕ) (b q : ℕ) → get_or w (slack_at 0 q b) 0 ≡ get_or w (q * 33 + b) 0
slack_first w b q = ap (λ (i : ℕ). get_or w i 0) (omega arith)

-- no first module of fewer than q cores leaves one with b cores in all
abbrev pub Bare : List ℕ → (b q : ℕ) → Type 0
Bare w b q = (i : ℕ) → 1 ≤ i → i < q → get_or w (i * 33 + b) 0 ≤ 0

-- nor one of q cores
pub bare_more : (w : List ℕ) (b q : ℕ) {x : ℕ} → Bare w b q → x ≡ get_or w (q * 33 + b) 0 → x ≤ 0 → Bare w b (q + 1)
bare_more w b q {x} bare e none i a h = ⊎_elim
    (λ (l : i < q). bare i a l)
    (λ (l : q ≤ i). let d : i ≡ q = omega arith in rw d (omega (arith, e, none)))
    (lt_or_le i q)

-- none at all does
pub bare_slackless : (w : List ℕ) (b q : ℕ) → b < q → Bare w b q → Slacked w b → ⊥
bare_slackless w b q h bare s =
    omega (arith, s.left, slack_first w b s.q, bare s.q s.one_core (omega (arith, s.cores_most)))
