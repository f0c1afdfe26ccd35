-- Document 01's small dock as a file of cost records, a line to a record. Assumes nothing.
use Rattle.std.specs.Prelude.{ℕ, zero, suc, List, [], ◌∷◌, ◌++◌, take, drop, set}

unfoldable pub small_dock : List ℕ
small_dock =
    1 ∷ 0 ∷ 4 ∷ 2 ∷ 100 ∷ 0 ∷ 0 ∷ 0
    ∷ 2 ∷ 1 ∷ 1 ∷ 0 ∷ 50 ∷ 0 ∷ 0 ∷ 0
    ∷ 2 ∷ 2 ∷ 1 ∷ 0 ∷ 150 ∷ 0 ∷ 0 ∷ 0
    ∷ 3 ∷ 1 ∷ 1 ∷ 0 ∷ 12 ∷ 0 ∷ 0 ∷ 0
    ∷ 3 ∷ 1 ∷ 2 ∷ 0 ∷ 7 ∷ 0 ∷ 0 ∷ 0
    ∷ 3 ∷ 1 ∷ 3 ∷ 0 ∷ 5 ∷ 0 ∷ 0 ∷ 0
    ∷ 3 ∷ 1 ∷ 4 ∷ 0 ∷ 4 ∷ 0 ∷ 0 ∷ 0
    ∷ 3 ∷ 2 ∷ 1 ∷ 0 ∷ 20 ∷ 0 ∷ 0 ∷ 0
    ∷ 3 ∷ 2 ∷ 2 ∷ 0 ∷ 10 ∷ 0 ∷ 0 ∷ 0
    ∷ 3 ∷ 2 ∷ 3 ∷ 0 ∷ 8 ∷ 0 ∷ 0 ∷ 0
    ∷ 3 ∷ 2 ∷ 4 ∷ 0 ∷ 6 ∷ 0 ∷ 0 ∷ 0
    ∷ 4 ∷ 1 ∷ 1 ∷ 0 ∷ 1 ∷ 0 ∷ 0 ∷ 0
    ∷ 4 ∷ 1 ∷ 2 ∷ 0 ∷ 1 ∷ 0 ∷ 0 ∷ 0
    ∷ 4 ∷ 1 ∷ 3 ∷ 0 ∷ 1 ∷ 0 ∷ 0 ∷ 0
    ∷ 4 ∷ 1 ∷ 4 ∷ 0 ∷ 1 ∷ 0 ∷ 0 ∷ 0
    ∷ 5 ∷ 1 ∷ 1 ∷ 1 ∷ 2 ∷ 0 ∷ 0 ∷ 0
    ∷ 5 ∷ 1 ∷ 1 ∷ 2 ∷ 2 ∷ 0 ∷ 0 ∷ 0
    ∷ 5 ∷ 1 ∷ 1 ∷ 3 ∷ 2 ∷ 0 ∷ 0 ∷ 0
    ∷ 5 ∷ 1 ∷ 1 ∷ 4 ∷ 2 ∷ 0 ∷ 0 ∷ 0
    ∷ 5 ∷ 1 ∷ 2 ∷ 1 ∷ 2 ∷ 0 ∷ 0 ∷ 0
    ∷ 5 ∷ 1 ∷ 2 ∷ 2 ∷ 2 ∷ 0 ∷ 0 ∷ 0
    ∷ 5 ∷ 1 ∷ 2 ∷ 3 ∷ 2 ∷ 0 ∷ 0 ∷ 0
    ∷ 5 ∷ 1 ∷ 2 ∷ 4 ∷ 2 ∷ 0 ∷ 0 ∷ 0
    ∷ 5 ∷ 1 ∷ 3 ∷ 1 ∷ 2 ∷ 0 ∷ 0 ∷ 0
    ∷ 5 ∷ 1 ∷ 3 ∷ 2 ∷ 2 ∷ 0 ∷ 0 ∷ 0
    ∷ 5 ∷ 1 ∷ 3 ∷ 3 ∷ 2 ∷ 0 ∷ 0 ∷ 0
    ∷ 5 ∷ 1 ∷ 3 ∷ 4 ∷ 2 ∷ 0 ∷ 0 ∷ 0
    ∷ 5 ∷ 1 ∷ 4 ∷ 1 ∷ 2 ∷ 0 ∷ 0 ∷ 0
    ∷ 5 ∷ 1 ∷ 4 ∷ 2 ∷ 2 ∷ 0 ∷ 0 ∷ 0
    ∷ 5 ∷ 1 ∷ 4 ∷ 3 ∷ 2 ∷ 0 ∷ 0 ∷ 0
    ∷ 5 ∷ 1 ∷ 4 ∷ 4 ∷ 2 ∷ 0 ∷ 0 ∷ 0
    ∷ []

-- task 1 is not replicable
unfoldable pub fixed_dock : List ℕ
fixed_dock = set small_dock 10 0

-- the capacity of a core, below 256 KiB
unfoldable pub dock_of : ℕ → List ℕ
dock_of capacity = set small_dock 4 capacity

-- M-106: handing out to copies costs D
unfoldable pub copying_dock : ℕ → List ℕ
copying_dock d = set small_dock 1 d

-- M-103: needs 5 and 5 with capacity 5
unfoldable pub fives_dock : List ℕ
fives_dock = set (set (dock_of 5) 12 5) 20 5

-- the value of each of n records is 0, below 256 before
unfoldable pub zeroed : ℕ → List ℕ → List ℕ
zeroed zero s = s
zeroed (suc n) s = set (take 8 s) 4 0 ++ zeroed n (drop 8 s)

-- all times are 0: the records after those of the board and the two tasks
unfoldable pub idle_dock : List ℕ
idle_dock = take 24 small_dock ++ zeroed 28 (drop 24 small_dock)
