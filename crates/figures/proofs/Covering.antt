-- What a list of modules that covers the tasks says of each of them. Assumes nothing.
use mathlib.Core.Path.{◌≡◌}
use mathlib.Core.Bool.{true}
use mathlib.Core.List.{List, [], ◌∷◌}
use Prim.Native.Nat.{ℕ, ◌+◌, ◌≤◌}
use native.Mathlib.Omega.{arith}
use lib.ListN.{length}
use borrow.Author.Tests.{eq-eqb, le-leb, leb-true, eqb-true}
use Rattle.records.proofs.Cases.{and-true}
use Rattle.modules.specs.declared.Module.{Module}
use Rattle.figures.specs.Rules.{covers}

pub covers_head : (k t : ℕ) (m : Module) (ms : List Module) → covers k t (m ∷ ms) ≡ true
    → (m.first ≡ t) × (m.first ≤ m.last) × (m.last ≤ k) × (1 ≤ m.copies) × (1 ≤ m.cores) × (covers k (m.last + 1) ms ≡ true)
unfolding covers
covers_head k t m ms e =
    let h₅ = and-true _ _ e in
    let h₄ = and-true _ _ h₅.0 in
    let h₃ = and-true _ _ h₄.0 in
    let h₂ = and-true _ _ h₃.0 in
    let h₁ = and-true _ _ h₂.0 in
    (eqb-true _ _ h₁.0, leb-true _ _ h₁.1, leb-true _ _ h₂.1, leb-true _ _ h₃.1, leb-true _ _ h₄.1, h₅.1)

pub covers_end : (k t : ℕ) → covers k t [] ≡ true → t ≡ k + 1
unfolding covers
covers_end k t e = eqb-true _ _ e

-- each module takes a task
pub covers_length : (k t : ℕ) (ms : List Module) → covers k t ms ≡ true → length ms + t ≤ k + 1
covers_length k t [] e = omega (arith, covers_end k t e)
covers_length k t (m ∷ ms) e = let h = covers_head k t m ms e in omega (arith, covers_length k (m.last + 1) ms h.5)

pub covers_cons : (k t : ℕ) (m : Module) (ms : List Module) → m.first ≡ t → m.first ≤ m.last → m.last ≤ k → 1 ≤ m.copies → 1 ≤ m.cores
    → covers k (m.last + 1) ms ≡ true → covers k t (m ∷ ms) ≡ true
unfolding covers
covers_cons k t m ms a b c d e h =
    simp (eq-eqb m.first t a, le-leb m.first m.last b, le-leb m.last k c, le-leb 1 m.copies d, le-leb 1 m.cores e, h)

pub covers_nil : (k t : ℕ) → t ≡ k + 1 → covers k t [] ≡ true
unfolding covers
covers_nil k t e = eq-eqb t (k + 1) e
