-- The digits that `io::decimal` promises of a number are `decimal`, by induction along them: a number below 10 has one digit, and
-- any other those of its tenth and one more. And they are text. Assumes nothing.
use mathlib.Core.Path.{◌≡◌, refl}
use mathlib.Core.Logic.{inl, inr}
use Prim.Native.Nat.{ℕ, zero, suc, ◌+◌, ◌-◌, ◌/◌, ◌%◌, ◌^◌, ◌≤◌, ◌<◌}
use native.Mathlib.Nat.{mod-lt, mod-eq_of_lt, pow-suc, one-le-pow, pow-le-pow_right, le-div_iff_mul-le, div-lt_iff_lt-mul}
use native.Mathlib.Omega.{arith}
use lib.Dec.{lit<}
use borrow.Author.Tests.{lt-ltb, le-ltb}
use Rattle.std.specs.Prelude.{IsAscii, IsUtf8}
use Rattle.std.proofs.lemmas.Str.{IsUtf8-from_ascii}
use Rattle.std.proofs.lemmas.Str.Ascii.{IsAscii-push}
use Rattle.io.specs.Digits.{hex_digit_ascii, last_digits, IsDigitCount}
use Rattle.records.proofs.Cases.{lt_or_le}
use Rattle.console.specs.Room.{number_room}
use Rattle.console.specs.Text.{spell, decimal}

glyph_digit : (n : ℕ) → hex_digit_ascii (n % 10) ≡ 48 + n % 10
glyph_digit n = rw (lt-ltb (n % 10) 10 (mod-lt n (lit< tt))) (refl)

less_one : (k : ℕ) → suc k - 1 ≡ k
less_one k = omega arith

-- ---- a number and its tenth, which has one digit less

below_tenth : (k n : ℕ) → n < 10 ^ suc (suc k) → n / 10 < 10 ^ suc k
below_tenth k n h = (div-lt_iff_lt-mul {k = 10} {x = n} {y = 10 ^ suc k} (lit< tt)).1 (rw (pow-suc 10 (suc k)) at h)

above_tenth : (k n : ℕ) → 10 ^ suc k ≤ n → 10 ^ k ≤ n / 10
above_tenth k n h = (le-div_iff_mul-le {k = 10} {x = 10 ^ k} {y = n} (lit< tt)).1 (rw (pow-suc 10 k) at h)

spell_digits : (f k n : ℕ) → k ≤ f → IsDigitCount 10 1 n k → last_digits 10 k n ≡ spell f n
unfolding spell
spell_digits f zero n h w = absurd (omega (arith, w.0))
spell_digits zero (suc k) n h w = absurd (omega arith)
spell_digits (suc f) (suc zero) n h w =
    let small : n < 10 = w.1 in
    rw (lt-ltb n 10 small, glyph_digit n, mod-eq_of_lt small) (refl)
spell_digits (suc f) (suc (suc k)) n h w =
    let low : 10 ^ suc k ≤ n = rw (less_one (suc k)) at (w.2 (omega arith)) in
    let large : 10 ≤ n = omega (arith, pow-suc 10 k, one-le-pow k 10 (lit< tt)) in
    let tenth : IsDigitCount 10 1 (n / 10) (suc k) = (omega arith, below_tenth k n w.1, λ _. rw (less_one k) (above_tenth k n low)) in
    rw (le-ltb n 10 large, glyph_digit n, spell_digits f (suc k) (n / 10) (omega arith) tenth) (refl)

-- ---- a number of 64 bits

-- it has at most 20 digits: 21 would make it 10 ^ 20 at least
pub digits_few : (n k : ℕ) → n < 2 ^ 64 → IsDigitCount 10 1 n k → k ≤ number_room
digits_few n k h w = elim (lt_or_le number_room k) [
  | inl u ↦ absurd (omega (arith, w.2 (omega arith), pow-le-pow_right {n = 10} (lit< tt) {i = 20} {j = k - 1} (omega arith)))
  | inr u ↦ u
]

pub digits_decimal : (n k : ℕ) → n < 2 ^ 64 → IsDigitCount 10 1 n k → last_digits 10 k n ≡ decimal n
digits_decimal n k h w = spell_digits number_room k n (digits_few n k h w) w

-- ---- digits are ASCII, and so text

digits_ascii : (k n : ℕ) → IsAscii (last_digits 10 k n)
digits_ascii zero n = λ i. omega arith
digits_ascii (suc k) n =
    IsAscii-push (last_digits 10 k (n / 10)) (hex_digit_ascii (n % 10)) (digits_ascii k (n / 10)) (let low : n % 10 < 10 = mod-lt n (lit< tt) in omega (arith, glyph_digit n))

pub digits_text : (k n : ℕ) → IsUtf8 (last_digits 10 k n)
digits_text k n = IsUtf8-from_ascii (last_digits 10 k n) (digits_ascii k n)
