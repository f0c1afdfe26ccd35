-- A number has a bit set at k or above exactly if it is at least 2 ^ k: shifted down by k places it is then above 0, and a number above
-- 0, halved until it is 1, has a bit that is set. Assumes nothing.
use mathlib.Core.Path.{◌≡◌, refl, sym, ◌∙◌}
use mathlib.Core.Bool.{true}
use mathlib.Core.Logic.{◌↔◌, ⊎_elim}
use Prim.Native.Nat.{ℕ, zero, suc, ◌+◌, ◌/◌, ◌%◌, ◌^◌, ◌≤◌}
use native.Mathlib.Nat.{le-div_iff_mul-le, mod-le}
use native.Mathlib.Omega.{arith}
use lib.Pow.{pow_pos, pow_mono, shr-shr}
use borrow.Author.Tests.{eqb-true}
use Rattle.records.proofs.Cases.{lt_or_le}
use Rattle.greedy.specs.Greedy.{bit, SomeBit}

pub bit_shifted : (g j i : ℕ) → bit (g / 2 ^ j) i ≡ bit g (j + i)
unfolding bit
bit_shifted g j i = rw shr-shr

bit_one : bit 1 0 ≡ true
unfolding bit
bit_one = refl

-- a bit of a number shifted down is one of the number
shifted : (g j : ℕ) → SomeBit (g / 2 ^ j) 0 → SomeBit g j
shifted g j s = record { at = j + s.at; high = omega arith; set = sym (bit_shifted g j s.at) ∙ s.set }

lower : (g j : ℕ) → SomeBit g j → SomeBit g 0
lower g j s = record { at = s.at; high = omega arith; set = s.set }

some_set : (n g : ℕ) → 1 ≤ g → g ≤ n → SomeBit g 0
some_set zero g a b = absurd (omega arith)
some_set (suc n) g a b = ⊎_elim
    (λ l. let e : g ≡ 1 = omega arith in rw e (record { at = 0; high = omega arith; set = bit_one }))
    (λ l. lower g 1 (shifted g 1 (some_set n (g / 2) (omega arith) (omega arith))))
    (lt_or_le g 2)

some_above : (g k : ℕ) → bit g k ≡ true → 2 ^ k ≤ g
unfolding bit
some_above g k t =
    let one = eqb-true (g / 2 ^ k % 2) 1 t in
    omega (arith, (le-div_iff_mul-le {x = 1} {y = g} (pow_pos k)).0 (omega (arith, one, mod-le (g / 2 ^ k) 2)))

pub some_bit : (g k : ℕ) → (2 ^ k ≤ g) ↔ SomeBit g k
some_bit g k = (
  λ h. shifted g k (some_set (g / 2 ^ k) (g / 2 ^ k) ((le-div_iff_mul-le {x = 1} {y = g} (pow_pos k)).1 (omega arith)) (omega arith)),
  λ s. omega (arith, some_above g s.at s.set, pow_mono {i = k} {j = s.at} s.high),
)
