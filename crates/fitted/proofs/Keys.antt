-- The due keys of the laws, and the keys of a cost's records: as many as stated, and each the computed one. Assumes nothing.
use mathlib.Core.Path.{◌≡◌, ◌∙◌}
use mathlib.Core.Bool.{true, false}
use mathlib.Core.List.{List, ◌++◌}
use mathlib.Core.Logic.{⊎_elim}
use Prim.Native.Nat.{ℕ, ◌+◌, ◌-◌, ◌*◌, ◌/◌, ◌%◌, ◌≤◌, ◌<◌}
use native.Mathlib.Nat.{mod-lt, div-lt_iff_lt-mul}
use native.Mathlib.Omega.{arith}
use lib.ListN.{length, get_or, length-append}
use lib.Dec.{eqb}
use borrow.Author.Tests.{lt-ltb, le-ltb, eq-eqb, ne_eqb}
use Rattle.records.specs.declared.Key.{Key}
use Rattle.records.specs.Costs.{key, each}
use Rattle.records.proofs.Cases.{lt_or_le, true_or_false, pos_of_lt_mul}
use Rattle.records.proofs.Listing.{get_or_before, get_or_past, length_each, each_at, length_join, join_at}
use Rattle.fitted.specs.Fill.{law_count, law_keys, law_key, cost_keys, cost_count, a_of, b_of}

-- stands where a list has no key
abbrev pub no_key : Key
no_key = key 0 0 0 0

-- ---- laws

module _ (k : ℕ) where
  executions : List Key
  executions = each k (λ t. key 3 t 0 0)

  internals : List Key
  internals = each (k - 1) (λ t. key 4 t 0 0)

  externals : List Key
  externals = each (k - 1) (λ t. key 5 t 0 0)

  long_executions : length executions ≡ k
  unfolding executions
  long_executions = length_each 0 k (λ t. key 3 t 0 0)

  long_internals : length internals ≡ k - 1
  unfolding internals
  long_internals = length_each 0 (k - 1) (λ t. key 4 t 0 0)

  long_externals : length externals ≡ k - 1
  unfolding externals
  long_externals = length_each 0 (k - 1) (λ t. key 5 t 0 0)

  pub laws_count : length (law_keys k) ≡ law_count k
  unfolding law_keys executions internals externals
  laws_count =
      omega (arith, length-append executions (internals ++ externals), length-append internals externals, long_executions, long_internals, long_externals)

  pub law_key_at : 1 ≤ k → (n : ℕ) → n < law_count k → get_or (law_keys k) n no_key ≡ law_key k n
  unfolding law_keys law_key executions internals externals
  law_key_at some n h = ⊎_elim
      (λ l. get_or_before executions (internals ++ externals) k long_executions no_key n l ∙ each_at k (λ t. key 3 t 0 0) no_key n l ∙ simp (lt-ltb n k l))
      (λ g. get_or_past executions (internals ++ externals) k long_executions no_key n g ∙ ⊎_elim
      (λ (l : n - k < k - 1). get_or_before internals externals (k - 1) long_internals no_key (n - k) l ∙ each_at (k - 1) (λ t. key 4 t 0 0) no_key (n - k) l
      ∙ simp (le-ltb n k g, lt-ltb n (2 * k - 1) (omega arith)))
      (λ (m : k - 1 ≤ n - k).
      let e : n - k - (k - 1) + 1 ≡ n - (2 * k - 1) + 1 = omega arith in
      get_or_past internals externals (k - 1) long_internals no_key (n - k) m ∙ each_at (k - 1) (λ t. key 5 t 0 0) no_key (n - k - (k - 1)) (omega arith)
      ∙ simp (le-ltb n k g, le-ltb n (2 * k - 1) (omega arith), e))
      (lt_or_le (n - k) (k - 1)))
      (lt_or_le n k)

-- ---- a cost's records

module _ (kind task p : ℕ) where
  row : ℕ → List Key
  row a = each p (λ b. key kind task a b)

  long_row : (a : ℕ) → length (row a) ≡ p
  unfolding row
  long_row a = length_each 0 p (λ b. key kind task a b)

  pub cost_count_lem : length (cost_keys kind task p) ≡ cost_count kind p
  unfolding cost_keys cost_count row
  cost_count_lem = ⊎_elim
      (λ (t : eqb kind 5 ≡ true). rw t (length_join p row long_row 0 p))
      (λ (t : eqb kind 5 ≡ false). rw t (length_each 0 p (λ a. key kind task a 0)))
      (true_or_false (eqb kind 5))

  pub cost_key : (j : ℕ) → j < cost_count kind p → get_or (cost_keys kind task p) j no_key ≡ key kind task (a_of kind p j) (b_of kind p j)
  unfolding cost_keys cost_count a_of b_of row
  cost_key j h = ⊎_elim
      (λ (t : eqb kind 5 ≡ true). rw t
      (let l : j < p * p = rw t at h in
      join_at p row long_row no_key p j l ∙ each_at p (λ b. key kind task (j / p + 1) b) no_key (j % p) (mod-lt j (pos_of_lt_mul j p p l))))
      (λ (t : eqb kind 5 ≡ false). rw t (each_at p (λ a. key kind task a 0) no_key j (rw t at h)))
      (true_or_false (eqb kind 5))

-- a place in a square of p by p is a row and a column below p, and one in a row of p is below p
pub square_places : (kind p j : ℕ) → kind ≡ 5 → j < cost_count kind p → (j / p < p) × (j % p < p)
unfolding cost_count
square_places kind p j e h =
    let l : j < p * p = rw (eq-eqb kind 5 e) at h in
    let s = pos_of_lt_mul j p p l in
    ((div-lt_iff_lt-mul s).1 l, mod-lt j s)

pub row_places : (kind p j : ℕ) → (kind ≡ 5 → ⊥) → j < cost_count kind p → j < p
unfolding cost_count
row_places kind p j e h = rw (ne_eqb kind 5 e) at h
