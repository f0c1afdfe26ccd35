-- A module's limit (document 02, M-100): it is the least of the limits that its tasks have, and it allows what each of them allows.
-- By induction over the tasks, with the tighter of two limits at each step. Assumes nothing.
use mathlib.Core.Path.{◌≡◌, refl, sym, ◌∙◌}
use mathlib.Core.Bool.{Bool, true, false}
use mathlib.Core.Logic.{◌↔◌, ◌⊎◌, inl, inr, ⊎_elim}
use Prim.Native.Nat.{ℕ, zero, suc, ◌+◌, ◌-◌, ◌≤◌, ◌<◌}
use native.Mathlib.Nat.{eq-or-lt_of_le, le_antisymm}
use native.Mathlib.Omega.{arith}
use lib.Dec.{leb, eqb}
use borrow.Author.Tests.{le-leb, lt-leb, eq-eqb, ne_eqb, lt-ltb, le-ltb, leb-true}
use Rattle.records.proofs.Cases.{lt_or_le, true_not_false, same_test, false_unless, or_unless, or_right}
use Rattle.modules.specs.Model.{Chain}
use Rattle.modules.specs.Rules.{tighter, limit_from, module_limit, allows, within_limit}
use Rattle.modules.specs.Claims.{IsLimit}

-- ---- one limit

allows_most : (limit p : ℕ) → allows limit p ≡ true → 1 ≤ limit → p ≤ limit
unfolding allows
allows_most limit p e some = leb-true p limit (or_right (eqb limit 0) (leb p limit) e (ne_eqb limit 0 (λ z. omega arith)))

most_allows : (limit p : ℕ) → (1 ≤ limit → p ≤ limit) → allows limit p ≡ true
unfolding allows
most_allows limit p h = ⊎_elim
    (λ l. simp (eq-eqb limit 0 (omega arith)))
    (λ l. or_unless (eqb limit 0) (leb p limit) (λ _. le-leb p limit (h l)))
    (lt_or_le limit 1)

-- ---- the tighter of two

-- m is one of a and b, and there and at most each of them that is there
record IsTighter (a b m : ℕ) : Type 0 where
  one : (m ≡ a) ⊎ (m ≡ b)
  left : 1 ≤ a → (1 ≤ m) × (m ≤ a)
  right : 1 ≤ b → (1 ≤ m) × (m ≤ b)

tighter_of : (a b : ℕ) → IsTighter a b (tighter a b)
unfolding tighter
tighter_of a b = ⊎_elim
    (λ l. rw (eq-eqb a 0 (omega arith)) (record { one = inr refl; left = λ h. absurd (omega arith); right = λ h. (h, omega arith) }))
    (λ l. ⊎_elim
    (λ k. rw (ne_eqb a 0 (λ z. omega arith), eq-eqb b 0 (omega arith)) (record { one = inl refl; left = λ h. (h, omega arith); right = λ h. absurd (omega arith) }))
    (λ k. ⊎_elim
    (λ o. rw (ne_eqb a 0 (λ z. omega arith), ne_eqb b 0 (λ z. omega arith), lt-leb a b o) (record { one = inr refl; left = λ h. (k, omega arith); right = λ h. (h, omega arith) }))
    (λ o. rw (ne_eqb a 0 (λ z. omega arith), ne_eqb b 0 (λ z. omega arith), le-leb a b o) (record { one = inl refl; left = λ h. (h, omega arith); right = λ h. (l, omega arith) }))
    (lt_or_le b a))
    (lt_or_le b 1))
    (lt_or_le a 1)

-- ---- of the tasks from first to last

-- m, if there, is the limit of one of them, and it is there and at most each that is
record Least (limit : ℕ → ℕ) (first last m : ℕ) : Type 0 where
  one : 1 ≤ m → (u : ℕ) × (first ≤ u) × (u ≤ last) × (limit u ≡ m)
  most : (t : ℕ) → first ≤ t → t ≤ last → 1 ≤ limit t → (1 ≤ m) × (m ≤ limit t)

least_from : (limit : ℕ → ℕ) (n t : ℕ) → Least limit t (t + n) (limit_from limit t n)
unfolding limit_from
least_from limit zero t = record {
  one = λ h. (t, omega arith, omega arith, refl);
  most = λ u a b s. let e : u ≡ t = omega arith in rw e (rw e at s, omega arith);
}
least_from limit (suc n) t =
    let m = limit_from limit (t + 1) n in
    let x = tighter_of (limit t) m in
    let y = least_from limit n (t + 1) in
    record {
      one = λ h. ⊎_elim
          (λ e. (t, omega arith, omega arith, sym e))
          (λ e. let (u, a, b, q) = y.one (omega arith) in (u, omega arith, omega arith, q ∙ sym e))
          x.one;
      most = λ u a b s. ⊎_elim
          (λ e. rw (← e) (x.left (rw (← e) at s)))
          (λ l. let z = y.most u (omega arith) (omega arith) s in let w = x.right z.0 in (w.0, omega arith))
          (eq-or-lt_of_le a);
    }

module _ (c : Chain) (first last : ℕ) where
  module_least : Least c.limit first last (module_limit c first last)
  unfolding module_limit
  module_least = ⊎_elim
      (λ l. rw (lt-ltb last first l) (record { one = λ h. absurd (omega arith); most = λ t a b s. absurd (omega arith) }))
      (λ l. let e : first + (last - first) ≡ last = omega arith in rw (le-ltb last first l) (rw e at (least_from c.limit (last - first) first)))
      (lt_or_le last first)

  -- no limit exactly if no task has one; else it is the least of those that they have
  pub limit_none : (module_limit c first last ≡ 0) ↔ ((t : ℕ) → first ≤ t → t ≤ last → c.limit t ≡ 0)
  limit_none = (
    λ e t a b. ⊎_elim (λ l. omega arith) (λ l. absurd (omega (arith, (module_least.most t a b l).0, e))) (lt_or_le (c.limit t) 1),
    λ h. ⊎_elim
        (λ l. omega arith)
        (λ l. let (u, a, b, q) = module_least.one l in absurd (omega (arith, q, h u a b)))
        (lt_or_le (module_limit c first last) 1),
  )

  pub limit_least : (l : ℕ) → 1 ≤ l → (module_limit c first last ≡ l) ↔ IsLimit c first last l
  limit_least l some = (
    λ e. let (u, a, b, q) = module_least.one (omega (arith, e)) in
        record { some = some; task = u; inside = (a, b); its = q ∙ e; least = λ t x y s. omega (arith, (module_least.most t x y s).1, e) },
    λ h.
        let d = module_least.most h.task h.inside.0 h.inside.1 (omega (arith, h.its)) in
        let (u, a, b, q) = module_least.one d.0 in
        le_antisymm (omega (arith, d.1, h.its)) (omega (arith, q, h.least u a b (omega (arith, q, d.0)))),
  )

  -- within it exactly if p is at most the limit of each task that has one
  pub within_each : (p : ℕ) → (within_limit c first last p ≡ true) ↔ ((t : ℕ) → first ≤ t → t ≤ last → 1 ≤ c.limit t → p ≤ c.limit t)
  unfolding within_limit
  within_each p = (
    λ e t a b s. let d = module_least.most t a b s in omega (arith, allows_most (module_limit c first last) p e d.0, d.1),
    λ h. most_allows (module_limit c first last) p (λ s. let (u, a, b, q) = module_least.one s in omega (arith, q, h u a b (omega (arith, q)))),
  )

  -- over it exactly if there is one and p is more
  pub over_exactly : (p : ℕ) → (within_limit c first last p ≡ false) ↔ ((1 ≤ module_limit c first last) × (module_limit c first last < p))
  unfolding within_limit
  over_exactly p = (
    λ f. ⊎_elim
        (λ l. true_not_false _ (most_allows (module_limit c first last) p (λ s. absurd (omega arith))) f)
        (λ l. ⊎_elim (λ k. (l, k)) (λ k. true_not_false _ (most_allows (module_limit c first last) p (λ s. k)) f) (lt_or_le (module_limit c first last) p))
        (lt_or_le (module_limit c first last) 1),
    λ h. false_unless _ (λ t. allows_most (module_limit c first last) p t h.0) (λ k. omega (arith, h.1, k)),
  )

  -- a module within its limit is at it exactly if one core more is not
  pub full_exactly : (p : ℕ) → 1 ≤ p → within_limit c first last p ≡ true → (within_limit c first last (p + 1) ≡ false) ↔ (module_limit c first last ≡ p)
  full_exactly p some e = (
    λ f. let (l, k) = (over_exactly (p + 1)).0 f in
        ⊎_elim (λ o. true_not_false _ e ((over_exactly p).1 (l, o))) (λ o. le_antisymm (omega arith) o) (lt_or_le (module_limit c first last) p),
    λ d. (over_exactly (p + 1)).1 (omega (arith, d), omega (arith, d)),
  )

-- fewer tasks allow no less
pub limit_drop : (c : Chain) (first last from to : ℕ) → first ≤ from → to ≤ last → (p : ℕ) → within_limit c first last p ≡ true → within_limit c from to p ≡ true
limit_drop c first last from to h i p e = (within_each c from to p).1 (λ t a b s. (within_each c first last p).0 e t (omega arith) (omega arith) s)

-- ---- one task after another

module _ (c : Chain) (last p : ℕ) where
  pub within_none : (first : ℕ) → last < first → within_limit c first last p ≡ true
  within_none first h = (within_each c first last p).1 (λ t a b s. absurd (omega arith))

  -- a task that allows p leaves it to the others, one that does not decides
  pub within_next : (t : ℕ) {x : Bool} → x ≡ allows (c.limit t) p → x ≡ true → within_limit c t last p ≡ within_limit c (t + 1) last p
  within_next t d e = same_test _ _ (limit_drop c t last (t + 1) last (omega arith) (omega arith) p) (λ g. (within_each c t last p).1 (λ u a b s. ⊎_elim
      (λ q. rw (← q) (allows_most (c.limit t) p (sym d ∙ e) (rw (← q) at s)))
      (λ l. (within_each c (t + 1) last p).0 g u (omega arith) b s)
      (eq-or-lt_of_le a)))

  pub within_not : (t : ℕ) {x : Bool} → t ≤ last → x ≡ allows (c.limit t) p → x ≡ false → within_limit c t last p ≡ false
  within_not t {x} h d e = false_unless (within_limit c t last p)
      (λ g. most_allows (c.limit t) p ((within_each c t last p).0 g t (omega arith) h))
      (λ g. true_not_false x (d ∙ g) e)

  -- with its last task a module is within its limit if it was without it and that task allows p
  pub within_more : (first : ℕ) → within_limit c first (last - 1) p ≡ true → allows (c.limit last) p ≡ true → within_limit c first last p ≡ true
  within_more first e d = (within_each c first last p).1 (λ t a b s. ⊎_elim
      (λ q. rw q (allows_most (c.limit last) p d (rw q at s)))
      (λ l. (within_each c first (last - 1) p).0 e t a (omega arith) s)
      (eq-or-lt_of_le b))

  -- and only if that task does; that it was without it is `limit_drop`
  pub within_task : (first : ℕ) → first ≤ last → within_limit c first last p ≡ true → allows (c.limit last) p ≡ true
  within_task first h e = most_allows (c.limit last) p ((within_each c first last p).0 e last h (omega arith))
