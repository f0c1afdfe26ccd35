-- The copies of a module (document 02, M-106): its load is one of a single copy and one of each of several, which carries what handing out
-- costs, so that at a threshold one copy may do where two don't and three do. Still the fewest that do are the best. By the search's laws at the
-- problem of a chain. Assumes nothing.
use mathlib.Core.Path.{◌≡◌, sym, ap, subst, ◌∙◌}
use mathlib.Core.Bool.{Bool, true, ◌&&◌, ◌||◌, and_comm, or_comm}
use mathlib.Core.Logic.{◌⊎◌, inl, inr, ⊎_elim}
use Prim.Native.Nat.{ℕ, ◌+◌, ◌*◌, ◌≤◌, ◌<◌}
use native.Mathlib.Nat.{eq-or-lt_of_le, suc-mul, mul-le-mul_right}
use native.Mathlib.Omega.{arith}
use lib.Dec.{T, leb, le→leb}
use lib.Arith.{lt→nleb}
use Rattle.records.proofs.Cases.{lt_or_le}
use Rattle.modules.specs.Model.{Chain, response}
use Rattle.modules.specs.Rules.{module_rules, copies_allowed}
use Rattle.modules.proofs.Laws.{passage_copies, response_copies, handed_some, handed_none, handed_rises, rules_apart}
use Rattle.search.specs.Copies.{load_of, fewest}
use Rattle.search.specs.Best.{fits_at}
use Rattle.search.proofs.Tests.{bool_eq}
use Rattle.search.proofs.Least.{pick_yes, pick_no}
use Rattle.search.proofs.Cheapest.{fewest_fit}
use Rattle.slack.specs.Problem.{grain, price, problem}
use Rattle.weights.proofs.Fitting.{fits_facts}

module _ (c : Chain) (s t l p q : ℕ) where
  -- whether it may have more than one copy
  abbrev pub copied : Bool
  copied = copies_allowed c (t + 1) l 2

  -- its load in i copies, times the grain: one for a single copy, one for each of several
  abbrev pub load_at : ℕ → ℕ
  load_at i = response c s (t + 1) l i p q * grain

  pub copies_allow : (i : ℕ) → module_rules c (t + 1) l i p ≡ (module_rules c (t + 1) l 1 p && (copied || leb i 1))
  unfolding copies_allowed
  copies_allow i =
      rules_apart c (t + 1) l i p
      ∙ and_comm (copies_allowed c (t + 1) l i) (module_rules c (t + 1) l 1 p)
      ∙ ap (λ x. module_rules c (t + 1) l 1 p && x) (or_comm (leb i 1) copied)

  pub copies_load : (i : ℕ) → load_at i ≡ load_of (load_at 1) (load_at 2) i
  copies_load i = ⊎_elim
      (λ more. omega (
        arith,
        pick_no (leb i 1) (load_at 1) (load_at 2) (lt→nleb i 1 more),
        response_copies c (t + 1) l i p q s,
        response_copies c (t + 1) l 2 p q s,
        handed_some c i more,
        handed_some c 2 (omega arith),
      ))
      (λ one. omega (arith, pick_yes (leb i 1) (load_at 1) (load_at 2) (le→leb i 1 one), response_copies c (t + 1) l i p q s, handed_none c i one))
      (lt_or_le 1 i)

  load_rises : load_at 1 ≤ load_at 2
  load_rises = omega (arith, response_copies c (t + 1) l 2 p q s)

  -- where r copies fit at the threshold n, so do the fewest: they are the r copies, or have fewer copies and cores and weigh less
  pub copies_best : (n r : ℕ) → fits_at (problem c) n s t l r p q ≡ true
      → (let f = fewest copied (load_at 1) (load_at 2) n in
      (fits_at (problem c) n s t l f p q ≡ true) × ((f ≡ r) ⊎ ((f < r) × (f * p < r * p) × (price c t l f p q < price c t l r p q))))
  copies_best n r e =
      let f = fewest copied (load_at 1) (load_at 2) n in
      let h = fits_facts c n s t l r p q e in
      let (fits, few) = fewest_fit (problem c) n s t p l q (module_rules c (t + 1) l 1 p) copied (load_at 1) (load_at 2) copies_allow copies_load
      h.later h.inside h.one_core load_rises r (subst T (sym e) tt) in (
        bool_eq (fits_at (problem c) n s t l f p q) true (λ _. tt) (λ _. fits),
        elim (eq-or-lt_of_le few) [
          | inl same ↦ inl same
          | inr less ↦
              let cores : f * p < r * p = omega (arith, suc-mul f p, mul-le-mul_right p less, h.one_core) in
              inr (less, cores, omega (arith, passage_copies c (t + 1) l f p q, passage_copies c (t + 1) l r p q, handed_rises c f r (omega arith)))
        ],
      )
