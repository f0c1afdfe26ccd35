-- When a module is through with a block. Assumes nothing.
use Prim.Native.Nat.{ℕ, ◌+◌, ◌≤◌}
use native.Mathlib.Omega.{arith}
use Rattle.timetable.specs.Stages.{Stage}
use Rattle.timetable.specs.Timetable.{through_at}

-- the transfer starts after both are free, and no later than both allow
module _ (s : Stage) (ready free : ℕ) where
  pub through_both : (ready + s.body + s.send ≤ through_at s ready free) × (free + s.send ≤ through_at s ready free)
  unfolding through_at
  through_both = omega arith

  pub through_least : (z : ℕ) → ready + s.body ≤ z → free ≤ z → through_at s ready free ≤ z + s.send
  unfolding through_at
  through_least z h g = omega arith
