-- The fewest copies of a module that bring its load down to a threshold, by one division. Assumes nothing.
use Rattle.std.specs.Prelude.{ℕ, ◌*◌, Bool, ◌&&◌, ◌||◌, leb}
use Rattle.rounding.specs.Rounding.{rounded_up}
use Rattle.search.specs.Least.{pick}

-- the load of a module of r copies: a where there is one copy, b where there are more
abbrev pub load_of : (a b r : ℕ) → ℕ
load_of a b r = pick (leb r 1) a b

-- r copies are enough: they are allowed (rep: the module is replicable), and their load is at most n for each
abbrev pub enough : (rep : Bool) (a b n r : ℕ) → Bool
enough rep a b n r = (rep || leb r 1) && leb (load_of a b r) (n * r)

-- the fewest copies that are enough, 0 where none are
unfoldable pub fewest : (rep : Bool) (a b n : ℕ) → ℕ
fewest rep a b n = pick (leb a n) 1 (pick (rep && leb 1 n) (rounded_up b n) 0)
