-- The three tables of a fill, each a function of the others' entries: the cheapest transfer to a rest, the best that a module leaves
-- with any copies, and the slack. No entry takes a division, and only the slack's depends on where a module starts. Assumes nothing.
use Rattle.std.specs.Prelude.{ℕ, suc, ◌+◌, ◌*◌, ◌-◌, Bool, ◌&&◌, ◌||◌, ltb, leb, eqb}
use Rattle.search.specs.Least.{pick, least}
use Rattle.slack.specs.Greatest.{larger, greatest}
use Rattle.slack.specs.Split.{Split}
use Rattle.slack.specs.Slack.{Slack}

-- what a fill is given: the tasks, what a module of r copies may take, the transfer from a module that ends with l, the body of a
-- module after t up to l, whether it fits in q cores a copy, whether it may have copies, and what copies add to it
pub record Given : Type 0 where
  pub tasks : ℕ
  pub time : (r : ℕ) → ℕ
  pub send : (l p q : ℕ) → ℕ
  pub body : (t l q : ℕ) → ℕ
  pub fits : (t l q : ℕ) → Bool
  pub replicable : (t l : ℕ) → Bool
  pub extra : ℕ

-- what r copies add
abbrev pub added : ℕ → ℕ → ℕ
added D r = pick (leb r 1) 0 D

-- as a problem at one threshold
abbrev pub split_of : Given → Split
split_of G = record {
  tasks = G.tasks;
  time = G.time;
  may = λ t l r q. G.fits t l q && (leb r 1 || G.replicable t l);
  own = λ t l r q. G.body t l q + added G.extra r;
  send = G.send;
}

-- the transfer to a rest whose first module has q' cores, none where no such rest of at most c cores can still serve it
unfoldable pub chance : (k none : ℕ) → (send : (l p q : ℕ) → ℕ) → Slack → (l q c q' : ℕ) → ℕ
chance k none send R l q c q' = pick ((eqb l k && eqb q' 0) || ltb (send l q q') (R l q' c)) (send l q q') none

-- the cheapest transfer from a module of q cores up to l to a rest of at most c cores
unfoldable pub cheapest : (k none : ℕ) → (send : (l p q : ℕ) → ℕ) → Slack → (l q c : ℕ) → ℕ
cheapest k none send R l q c = least none (suc c) (chance k none send R l q c)

-- the least of the words 0 to c of a row, none where all are greater
unfoldable pub lowest : (none : ℕ) → (row : ℕ → ℕ) → ℕ → ℕ
lowest none row c = least none (suc c) row

module _ (time : ℕ → ℕ) (D : ℕ) (C : (l q c : ℕ) → ℕ) where
  -- what r copies of q cores leave in b cores, by the table C of cheapest transfers
  unfoldable pub left_by : (l q b r : ℕ) → ℕ
  left_by l q b r = pick (leb (r * q) b) (suc (time r) - (C l q (b - r * q) + added D r)) 0

  -- that of two or more copies
  unfoldable pub several : (l q b r : ℕ) → ℕ
  several l q b r = pick (leb 2 r) (left_by l q b r) 0

  -- the greatest over two or more copies
  unfoldable pub more_by : (l q b : ℕ) → ℕ
  more_by l q b = greatest (suc b) (several l q b)

  -- and over any
  unfoldable pub best_by : (l q b : ℕ) → ℕ
  best_by l q b = larger (left_by l q b 1) (more_by l q b)

module _ (fits : (t l q : ℕ) → Bool) (replicable : (t l : ℕ) → Bool) (body : (t l q : ℕ) → ℕ) (O B : (l q b : ℕ) → ℕ) where
  -- the slack of a first module up to l, by the tables O of what one copy leaves and B of what any copies leave
  unfoldable pub ends_at : (t q b l : ℕ) → ℕ
  ends_at t q b l = pick (ltb t l && fits t l q) (pick (replicable t l) (B l q b) (O l q b) - body t l q) 0

  -- that of a rest of k tasks: the greatest over l
  unfoldable pub cell_by : ℕ → Slack
  cell_by k t q b = greatest (suc k) (ends_at t q b)

  -- that by first modules which end after the task l only
  unfoldable pub cell_after : (k l : ℕ) → Slack
  cell_after k l t q b = greatest (suc k) (λ l'. pick (ltb l l') (ends_at t q b l') 0)
