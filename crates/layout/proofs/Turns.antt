-- Records of plan bytes, one turn after another. Assumes nothing.
use mathlib.Core.Path.{◌≡◌, refl}
use mathlib.Core.List.{List}
use Prim.Native.Nat.{ℕ, suc, ◌+◌, ◌-◌, ◌≤◌, ◌<◌}
use borrow.Author.Tests.{lt-ltb, eq-eqb, ne_eqb}
use Rattle.modules.specs.declared.Module.{Module}
use Rattle.modules.proofs.Left.{left_some, left_none}
use Rattle.layout.specs.Layout.{most_modules, module_at, record_of, count_from}

-- one of the twelve
pub record_here : (w : List ℕ) (i : ℕ) → i < most_modules → record_of w i ≡ module_at w i
unfolding record_of
record_here w i h = rw (lt-ltb i most_modules h) (refl)

-- the count ends at the record whose last task is k, else goes on with the next
module _ (w : List ℕ) (k i n : ℕ) where
  pub count_found : (module_at w i).last ≡ k → count_from w k i (suc n) ≡ i + 1
  unfolding count_from
  count_found e = simp (eq-eqb (module_at w i).last k e)

  pub count_on : ((module_at w i).last ≡ k → ⊥) → count_from w k i (suc n) ≡ count_from w k (i + 1) n
  unfolding count_from
  count_on e = simp (ne_eqb (module_at w i).last k e)

-- the same as a turn of the loop up to n, which has read the module m
module _ (w : List ℕ) (i n : ℕ) where
  pub count_end : (k : ℕ) → n ≤ i → count_from w k i (n - i) ≡ i
  unfolding count_from
  count_end k h = rw (left_none h)

  module _ {m : Module} (h : i < n) (e : m ≡ module_at w i) where
    pub count_here : (k : ℕ) → m.last ≡ k → count_from w k i (n - i) ≡ i + 1
    count_here k l = rw (left_some h) (count_found w k i _ (rw e at l))

    pub count_next : (k : ℕ) → (m.last ≡ k → ⊥) → count_from w k i (n - i) ≡ count_from w k (i + 1) (n - (i + 1))
    count_next k l = rw (left_some h) (count_on w k i _ (rw e at l))
