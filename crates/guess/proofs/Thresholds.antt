-- The threshold of a response in each case that a program tells apart. Assumes nothing.
use mathlib.Core.Path.{◌≡◌}
use mathlib.Core.Bool.{and-false}
use Prim.Native.Nat.{ℕ, suc, ◌+◌, ◌-◌, ◌*◌, ◌/◌, ◌%◌, ◌≤◌, ◌<◌}
use native.Mathlib.Nat.{add-mul-div_right, div-add-mod', mod-lt, mul-le-mul_right, mul_right_comm}
use mathlib.Core.Logic.{⊎_elim}
use Rattle.std.specs.Int.{div_ceil}
use Rattle.std.proofs.lemmas.Grind.{div_ceil_times}
use Rattle.records.proofs.Cases.{lt_or_le}
use native.Mathlib.Omega.{arith}
use borrow.Author.Tests.{le-leb, lt-leb}
use Rattle.rounding.specs.Rounding.{rounded_up}
use Rattle.slack.specs.Problem.{grain, top_threshold}
use Rattle.guess.specs.Guess.{threshold_of}

-- no threshold up to the greatest takes a response of more than 23,000,255 ticks for each copy
pub none_where_long : (response copies : ℕ) → 23000255 * copies < response → threshold_of response copies ≡ top_threshold + 1
unfolding threshold_of
none_where_long response copies h = simp (lt-leb (response * grain) (top_threshold * copies) (omega arith), and-false)

-- and none takes a response of no copies
pub none_without_copies : (response copies : ℕ) → copies < 1 → threshold_of response copies ≡ top_threshold + 1
unfolding threshold_of
none_without_copies response copies h = simp (lt-leb 1 copies h)

-- a quotient rounded up, as std has it
ceil_is : (x c : ℕ) → 1 ≤ c → (x + (c - 1)) / c ≡ div_ceil x c
ceil_is x c some =
    let up = (x + (c - 1)) / c in
    let bounds = div_ceil_times x c some in
    let parts = div-add-mod' (x + (c - 1)) c in
    let less = mod-lt (x + (c - 1)) {m = c} some in
    ⊎_elim
    (λ (d : up < div_ceil x c). absurd (omega (arith, bounds.1, parts, less, mul-le-mul_right {m = suc up} {n = div_ceil x c} c d)))
    (λ (d : div_ceil x c ≤ up). ⊎_elim
    (λ (e : div_ceil x c < up). absurd (omega (arith, bounds.0, parts, mul-le-mul_right {m = suc (div_ceil x c)} {n = up} c e)))
    (λ (e : up ≤ div_ceil x c). omega arith)
    (lt_or_le (div_ceil x c) up))
    (lt_or_le up (div_ceil x c))

-- where it is within a threshold, it is worked out from the ticks for each copy, whole and rest, so that no product is large
pub from_whole_and_rest : (response copies : ℕ) → 1 ≤ copies → response ≤ 23000255 * copies
    → threshold_of response copies ≡ response / copies * grain + div_ceil (response % copies * grain) copies
unfolding threshold_of rounded_up
from_whole_and_rest response copies some short =
    let whole = response / copies in
    let rest = response % copies in
    let sum = div-add-mod' response copies in
    let product = mul_right_comm whole grain copies in
    let parts : response * grain + (copies - 1) ≡ rest * grain + (copies - 1) + whole * grain * copies = omega arith in
    let split = add-mul-div_right (rest * grain + (copies - 1)) (whole * grain) {z = copies} some in
    simp (le-leb 1 copies some, le-leb (response * grain) (top_threshold * copies) (omega arith)) (rw parts (omega (arith, split, ceil_is (rest * grain) copies some)))
