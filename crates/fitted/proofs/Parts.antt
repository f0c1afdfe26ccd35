-- The keys of the task records, behind one that stands for the board's record: as many as stated, each task's its own. Assumes nothing.
use mathlib.Core.Path.{◌≡◌, ap, ◌∙◌}
use Prim.Native.Nat.{ℕ, ◌+◌, ◌-◌, ◌≤◌}
use mathlib.Core.List.{List, ◌∷◌}
use native.Mathlib.Omega.{arith}
use lib.ListN.{length}
use Rattle.records.specs.declared.Key.{Key}
use Rattle.records.specs.Costs.{key, each, fault_at}
use Rattle.records.proofs.Listing.{length_each, each_at, get_or_behind}
use Rattle.records.proofs.Walk.{fault_of}
use Rattle.fitted.specs.Fill.{task_keys}
use Rattle.fitted.proofs.Keys.{no_key}

abbrev pub listed : ℕ → List Key
listed k = no_key ∷ task_keys k

pub listed_count : (k : ℕ) → length (listed k) ≡ 1 + k
unfolding task_keys
listed_count k = omega (arith, length_each 0 k (λ t. key 2 t 0 0))

-- the fault by the list's key is the fault by a task's
pub listed_fault : (s : List ℕ) (k n : ℕ) → 1 ≤ n → n ≤ k → fault_of s (listed k) n ≡ fault_at s n (key 2 n 0 0)
unfolding task_keys
listed_fault s k n l u =
    let e : n - 1 + 1 ≡ n = omega arith in
    ap (fault_at s n)
    (get_or_behind no_key (each k (λ t. key 2 t 0 0)) no_key n l ∙ each_at k (λ t. key 2 t 0 0) no_key (n - 1) (omega arith) ∙ ap (λ (t : ℕ). key 2 t 0 0) e)
