-- What holds of lookups in cost records (document 01, "Cost records"): the laws that a reader looks for, and that the layers above
-- cite. The definitions are in specs/Lookups. Assumes nothing.
use mathlib.Core.Path.{◌≡◌}
use mathlib.Core.List.{List}
use Prim.Native.Nat.{ℕ, ◌%◌, ◌≤◌, ◌<◌}
use native.Mathlib.Omega.{arith}
use lib.Dec.{eqb}
use Rattle.fields.specs.Fields.{byte_at, value_at}
use Rattle.records.specs.declared.Board.{Board}
use Rattle.records.specs.Costs.{most_cores, most_value, key}
use Rattle.records.specs.Format.{IsCosts}
use Rattle.lookups.specs.Lookups.{RecordSays, hand_out_of, need_of, replicable_of, limit_of, execution_of, internal_of, pair_of, external_of}
use Rattle.lookups.proofs.Looked as looked

module _ (s : List ℕ) (b : Board) (c : IsCosts s b) where
  -- each is what the one record says that bears the key; of D (M-106) that is the board's record
  pub hand_out_says : RecordSays s b (key 1 0 b.cores b.tasks) (λ n. byte_at s n 1 % 256) (hand_out_of s)
  hand_out_says = looked.hand_out_says s b c

  pub need_says : (t : ℕ) → 1 ≤ t → t ≤ b.tasks → RecordSays s b (key 2 t 0 0) (value_at s) (need_of s b t)
  need_says = looked.need_says s b c

  pub replicable_says : (t : ℕ) → 1 ≤ t → t ≤ b.tasks → RecordSays s b (key 2 t 0 0) (λ n. eqb (byte_at s n 2) 1) (replicable_of s b t)
  replicable_says = looked.replicable_says s b c

  pub limit_says : (t : ℕ) → 1 ≤ t → t ≤ b.tasks → RecordSays s b (key 2 t 0 0) (λ n. byte_at s n 3) (limit_of s b t)
  limit_says = looked.limit_says s b c

  pub execution_says : (t p : ℕ) → 1 ≤ t → 1 ≤ p → p ≤ b.cores → t ≤ b.tasks → RecordSays s b (key 3 t p 0) (value_at s) (execution_of s b t p)
  execution_says = looked.execution_says s b c

  pub internal_says : (t p : ℕ) → 1 ≤ t → 1 ≤ p → p ≤ b.cores → t < b.tasks → RecordSays s b (key 4 t p 0) (value_at s) (internal_of s b t p)
  internal_says = looked.internal_says s b c

  pub external_says : (t : ℕ) → 1 ≤ t → t < b.tasks → (x q : ℕ) → 1 ≤ x → x ≤ b.cores → 1 ≤ q → q ≤ b.cores
      → RecordSays s b (key 5 t x q) (value_at s) (external_of (pair_of s b t) b.cores x q)
  external_says = looked.external_says s b c

  -- and none, at any numbers, is above the most value, nor a limit above the most cores
  pub need_most : (t : ℕ) → need_of s b t ≤ most_value
  need_most = looked.need_most s b c

  pub limit_most : (t : ℕ) → limit_of s b t ≤ most_cores
  limit_most = looked.limit_most s b c

  pub execution_most : (t p : ℕ) → execution_of s b t p ≤ most_value
  execution_most = looked.execution_most s b c

  pub internal_most : (t p : ℕ) → internal_of s b t p ≤ most_value
  internal_most = looked.internal_most s b c

  pub external_most : (t x q : ℕ) → external_of (pair_of s b t) b.cores x q ≤ most_value
  external_most = looked.external_most s b c

-- M-106: D is 0 to 255 in every list, and the task byte itself where that is a byte
pub hand_out_most : (s : List ℕ) → hand_out_of s ≤ 255
unfolding hand_out_of
hand_out_most s = omega arith

pub hand_out_byte : (s : List ℕ) → byte_at s 0 1 < 256 → hand_out_of s ≡ byte_at s 0 1
unfolding hand_out_of
hand_out_byte s h = omega arith
