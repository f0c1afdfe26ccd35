-- The first number of a range that passes a test, and whether there is one. Assumes nothing.
use Rattle.std.specs.Prelude.{ℕ, zero, suc, ◌+◌, Bool, ltb}
use Rattle.search.specs.Least.{pick}

-- the first of a, a + 1, .. a + n - 1 that passes the test, or a + n
unfoldable pub find : ℕ → ℕ → (ℕ → Bool) → ℕ
find zero a f = a
find (suc n) a f = let rest = find n (a + 1) f in pick (f a) a rest

-- some number below n passes
abbrev pub some : ℕ → (ℕ → Bool) → Bool
some n f = ltb (find n 0 f) n
