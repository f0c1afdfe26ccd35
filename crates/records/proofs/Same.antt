-- Of files that differ in the task byte of the first record alone (document 02, M-106: D) the same is read: no test asks for it. Assumes nothing.
use mathlib.Core.Path.{◌≡◌, refl}
use mathlib.Core.List.{List, [], ◌∷◌}
use Prim.Native.Nat.{ℕ, ◌+◌, ◌*◌, ◌≤◌}
use native.Mathlib.Omega.{arith}
use lib.ListN.{length, get_or}
use Rattle.fields.specs.Fields.{byte_at, value_at}
use Rattle.records.specs.declared.Board.{Board}
use Rattle.records.specs.declared.Key.{Key}
use Rattle.records.proofs.Refusing.{then_same}
use Rattle.records.specs.Costs.{task_meets, key_meets, value_meets, fault_at, first_fault, length_meets, head_meets, read_head, read_board, read_records, read_costs}

module _ (s s' : List ℕ) (long : length s ≡ length s') (same : (i : ℕ) → (i ≡ 1 → ⊥) → get_or s i 0 ≡ get_or s' i 0) where
  byte_same : (n j : ℕ) → 1 ≤ n → byte_at s n j ≡ byte_at s' n j
  byte_same n j h = same (8 * n + j) (λ e. omega arith)

  value_same : (n : ℕ) → value_at s n ≡ value_at s' n
  unfolding value_at
  value_same n =
      rw (same (8 * n + 4) (λ e. omega arith), same (8 * n + 5) (λ e. omega arith), same (8 * n + 6) (λ e. omega arith), same (8 * n + 7) (λ e. omega arith)) (refl)

  fault_same : (n : ℕ) (d : Key) → 1 ≤ n → fault_at s n d ≡ fault_at s' n d
  unfolding task_meets key_meets value_meets fault_at
  fault_same n d h = rw (byte_same n 0 h, byte_same n 1 h, byte_same n 2 h, byte_same n 3 h, value_same n) (refl)

  faults_same : (n : ℕ) (ds : List Key) → 1 ≤ n → first_fault s n ds ≡ first_fault s' n ds
  unfolding first_fault
  faults_same n [] h = refl
  faults_same n (d ∷ ds) h = rw (fault_same n d h, faults_same (n + 1) ds (omega arith)) (refl)

  head_same : read_board s ≡ read_board s'
  unfolding length_meets head_meets read_head read_board
  head_same = rw (long, same 0 (λ e. omega arith), same 2 (λ e. omega arith), same 3 (λ e. omega arith), value_same 0) (refl)

  records_same : (b : Board) → read_records s b ≡ read_records s' b
  unfolding read_records
  records_same b = rw (long, faults_same 1 _ (omega arith)) (refl)

  pub read_same : read_costs s ≡ read_costs s'
  unfolding read_costs
  read_same = rw head_same (then_same records_same (read_board s'))
