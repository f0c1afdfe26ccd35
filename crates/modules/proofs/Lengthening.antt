-- All rules of a module: fewer tasks break none. And of one copy, one task after another: without tasks it breaks no rule, and with one
-- more only that task's limit and the memory are left to ask for. Assumes nothing.
use mathlib.Core.Path.{◌≡◌}
use mathlib.Core.Bool.{true, ◌&&◌, and_assoc}
use Prim.Native.Nat.{ℕ, ◌-◌, ◌≤◌, ◌<◌}
use native.Mathlib.Omega.{arith}
use lib.Dec.{leb}
use borrow.Author.Tests.{le-leb, leb-true}
use Rattle.records.proofs.Cases.{same_test, and-true}
use Rattle.modules.specs.Model.{Chain}
use Rattle.modules.specs.Rules.{shares, memory_fits, copies_allowed, allows, within_limit, module_rules, still_kept}
use Rattle.modules.proofs.Amounts.{copies_drop}
use Rattle.modules.proofs.Limiting.{limit_drop, within_none, within_more, within_task}
use Rattle.modules.proofs.Sharing.{shares_none, memory_exactly, memory_drop}

module _ (c : Chain) (first last : ℕ) where
  -- the copies are a rule of their own: all else one copy has to keep too
  pub rules_apart : (r p : ℕ) → module_rules c first last r p ≡ (copies_allowed c first last r && module_rules c first last 1 p)
  unfolding module_rules copies_allowed
  rules_apart r p = and_assoc (copies_allowed c first last r) (memory_fits c first last p) (within_limit c first last p)

  -- what keeps the rules has its shares within the capacity
  pub rules_shares : (r p : ℕ) → module_rules c first last r p ≡ true → shares c first last p ≤ c.capacity
  unfolding module_rules
  rules_shares r p e =
      let t = and-true _ (within_limit c first last p) e in
      ((memory_exactly c first last p).0 (and-true (copies_allowed c first last r) (memory_fits c first last p) t.0).1).1

  pub rules_none : (p : ℕ) → 1 ≤ p → last < first → module_rules c first last 1 p ≡ true
  unfolding module_rules copies_allowed
  rules_none p i h =
      let fits = (memory_exactly c first last p).1 (i, omega (arith, shares_none c first last p h)) in
      simp (fits, within_none c last p first h)

  pub rules_longer : (p : ℕ) → first ≤ last → module_rules c first (last - 1) 1 p ≡ true
      → still_kept c last p (shares c first last p) ≡ module_rules c first last 1 p
  unfolding module_rules copies_allowed still_kept
  rules_longer p h e =
      let before = and-true (memory_fits c first (last - 1) p) (within_limit c first (last - 1) p) e in
      let some = ((memory_exactly c first (last - 1) p).0 before.0).0 in
      same_test _ _
      (λ t.
      let u = and-true (allows (c.limit last) p) (leb (shares c first last p) c.capacity) t in
      let fits = (memory_exactly c first last p).1 (some, leb-true (shares c first last p) c.capacity u.1) in
      simp (fits, within_more c last p first before.1 u.0))
      (λ t.
      let u = and-true (memory_fits c first last p) (within_limit c first last p) t in
      let fits = ((memory_exactly c first last p).0 u.0).1 in
      simp (le-leb (shares c first last p) c.capacity fits, within_task c last p first h u.1))

-- dropping tasks at an end
pub rules_drop : (c : Chain) (first last from to : ℕ) → first ≤ from → to ≤ last → (r p : ℕ) → module_rules c first last r p ≡ true → module_rules c from to r p ≡ true
unfolding module_rules
rules_drop c first last from to h i r p e =
    let t = and-true _ (within_limit c first last p) e in
    let u = and-true (copies_allowed c first last r) (memory_fits c first last p) t.0 in
    simp (copies_drop c first last from to h i r u.0, memory_drop c first last from to h i p u.1, limit_drop c first last from to h i p t.1)
