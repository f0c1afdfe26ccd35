-- Four bytes compared as one number: a record bears a key none of whose bytes is free exactly where the numbers are equal.
-- Assumes nothing.
use mathlib.Core.Path.{◌≡◌, refl, ◌∙◌}
use mathlib.Core.List.{List}
use mathlib.Core.Bool.{true, false}
use Prim.Native.Nat.{ℕ, ◌+◌, ◌*◌}
use native.Mathlib.Omega.{arith}
use lib.ListN.{get_or}
use Rattle.fields.specs.Fields.{byte_at, word_of, value_at}
use Rattle.records.specs.declared.Key.{Key}
use Rattle.records.specs.Costs.{key_meets}
use Rattle.records.specs.Format.{Bears}
use Rattle.records.specs.Runs.{Word, Plain}
use Rattle.records.proofs.Cases.{false_unless}
use Rattle.records.proofs.Exact.{meets_bears, bears_meets}

-- the number that a key's bytes make
abbrev pub key_word : Key → ℕ
key_word d = word_of d.kind d.task d.a d.b

module _ (s : List ℕ) (n : ℕ) (d : Key) (plain : Plain d) {r : ℕ} (found : Word s (8 * n) r) where
  first : byte_at s n 0 ≡ get_or s (8 * n) 0
  first = let e : 8 * n + 0 ≡ 8 * n = omega arith in rw e (refl)

  pub word_meets : r ≡ key_word d → key_meets s n d ≡ true
  word_meets e =
      let w = found.number in
      let h₀ = found.lowest in
      let h₁ = found.second in
      let h₂ = found.third in
      let h₃ = found.highest in
      bears_meets s n d (record {
        kind = first ∙ omega arith;
        task = λ z. omega arith;
        a = λ z. omega arith;
        b = λ z. omega arith;
      })

  pub word_other : (r ≡ key_word d → ⊥) → key_meets s n d ≡ false
  word_other other = false_unless (key_meets s n d) (meets_bears s n d) (λ b. other (same b))
    where
      same : Bears s n d → r ≡ key_word d
      same b =
          let e₀ = b.kind in
          let e₁ = b.task (λ z. omega arith) in
          let e₂ = b.a (λ z. omega arith) in
          let e₃ = b.b (λ z. omega arith) in
          omega (arith, found.number, first)

-- the value's four bytes are behind the key's
pub word_value : (s : List ℕ) (n : ℕ) {r : ℕ} → Word s (8 * n + 4) r → r ≡ value_at s n
unfolding value_at
word_value s n h =
    let e₁ : 8 * n + 4 + 1 ≡ 8 * n + 5 = omega arith in
    let e₂ : 8 * n + 4 + 2 ≡ 8 * n + 6 = omega arith in
    let e₃ : 8 * n + 4 + 3 ≡ 8 * n + 7 = omega arith in
    h.number ∙ rw (e₁, e₂, e₃) (refl)
