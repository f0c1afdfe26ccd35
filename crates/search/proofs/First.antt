-- The first module in module order that passes a test: it passes, it is not after any that does, and it is what three nested loops
-- find. By cases on the first of last task, copies and cores where two modules differ.
use Prim.Native.Nat.{ℕ, ◌≤◌, ◌<◌}
use native.Mathlib.Omega.{arith}
use native.Mathlib.Nat.{eq-or-lt_of_le}
use mathlib.Core.Path.{◌≡◌}
use mathlib.Core.Bool.{Bool, not}
use mathlib.Core.Logic.{◌⊎◌, inl, inr}
use lib.Dec.{T, T_not}
use Rattle.figures.specs.Plan.{ModuleBefore}
use Rattle.search.specs.Plan.{module_after}
use Rattle.search.specs.Walk.{some_cores, some_copies, first_last, first_copies, first_cores, first_module}
use Rattle.search.proofs.Find.{find_le, some_i, some_e, some_lt}

-- of last tasks l below A, and copies r and cores p below B

module _ (A B : ℕ) (f : (l r p : ℕ) → Bool) where
  module _ (l r p : ℕ) (hl : l < A) (hr : r < B) (hp : p < B) (u : T (f l r p)) where
    some_cores_at : T (some_cores A B f l r)
    some_cores_at = some_i B (f l r) p hp u

    some_copies_at : T (some_copies A B f l)
    some_copies_at = some_i B (some_cores A B f l) r hr some_cores_at

    -- where one passes, the first does
    one_copy : T (some_copies A B f (first_last A B f))
    unfolding first_last
    one_copy = some_e A (some_copies A B f) (some_i A (some_copies A B f) l hl some_copies_at)

    one_core : T (some_cores A B f (first_last A B f) (first_copies A B f))
    unfolding first_copies
    one_core = some_e B (some_cores A B f (first_last A B f)) one_copy

    pub first_passes : T (f (first_last A B f) (first_copies A B f) (first_cores A B f))
    unfolding first_cores
    first_passes = some_e B (f (first_last A B f) (first_copies A B f)) one_core

    first_bounds : (first_copies A B f < B) × (first_cores A B f < B)
    unfolding first_copies first_cores
    first_bounds = (
      some_lt B (some_cores A B f (first_last A B f)) one_copy,
      some_lt B (f (first_last A B f) (first_copies A B f)) one_core,
    )

    first_last_le : first_last A B f ≤ l
    unfolding first_last
    first_last_le = find_le A 0 (some_copies A B f) l (omega arith) (omega arith) some_copies_at

    first_copies_le : first_last A B f ≡ l → first_copies A B f ≤ r
    unfolding first_copies
    first_copies_le e = find_le B 0 (some_cores A B f (first_last A B f)) r (omega arith) (omega arith) (rw e some_cores_at)

    first_cores_le : first_last A B f ≡ l → first_copies A B f ≡ r → first_cores A B f ≤ p
    unfolding first_cores
    first_cores_le e d = find_le B 0 (f (first_last A B f) (first_copies A B f)) p (omega arith) (omega arith) (rw (e, d) u)

    -- and it is the one or before it
    pub first_before : (t : ℕ)
        → (first_module A B f t ≡ module_after t l r p) ⊎ ModuleBefore (first_module A B f t) (module_after t l r p)
    unfolding ModuleBefore
    first_before t = elim (eq-or-lt_of_le first_last_le) [
      | inr h ↦ inr (inl h)
      | inl e ↦ elim (eq-or-lt_of_le (first_copies_le e)) [
        | inr h ↦ inr (inr (e, inl h))
        | inl d ↦ elim (eq-or-lt_of_le (first_cores_le e d)) [
          | inr h ↦ inr (inr (e, inr (d, h)))
          | inl c ↦ inl (λ i. module_after t (e i) (d i) (c i))
        ]
      ]
    ]

    -- nothing before it passes, so loops that stop at the first module that passes have found it
    pub first_is : (t : ℕ)
        → ((l' r' p' : ℕ) → r' < B → p' < B → ModuleBefore (module_after t l' r' p') (module_after t l r p) → T (not (f l' r' p')))
        → first_module A B f t ≡ module_after t l r p
    first_is t g = elim (first_before t) [
      | inl e ↦ e
      | inr b ↦
          absurd (T_not (f (first_last A B f) (first_copies A B f) (first_cores A B f))
          (g (first_last A B f) (first_copies A B f) (first_cores A B f) first_bounds.0 first_bounds.1 b) first_passes)
    ]

    -- the same by what each of three nested loops has passed over
    pub first_nested : (t : ℕ) → ((l' r' p' : ℕ) → l' < l → r' < B → p' < B → T (not (f l' r' p')))
        → ((r' p' : ℕ) → r' < r → p' < B → T (not (f l r' p')))
        → ((p' : ℕ) → p' < p → T (not (f l r p')))
        → first_module A B f t ≡ module_after t l r p
    unfolding ModuleBefore
    first_nested t no-l no-r no-p = first_is t (λ l' r' p' hr' hp' b. elim b [
      | inl h ↦ no-l l' r' p' h hr' hp'
      | inr c ↦ rw c.0 (elim c.1 [
        | inl h ↦ no-r r' p' h hp'
        | inr d ↦ rw d.0 (no-p p' d.1)
      ])
    ])
