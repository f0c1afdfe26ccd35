-- The walk over the weighed cells: what its functions hand on. Assumes nothing.
use Rattle.std.specs.Prelude.{ℕ, suc, ◌+◌, ◌-◌, ◌*◌, ◌≤◌, ◌<◌, ◌≡◌, List, Bool, not, true, false, cond, get_or, Option, MatchOption, eqb}
use Rattle.modules.specs.declared.Module.{Module}
use Rattle.modules.specs.Model.{Chain}
use Rattle.search.specs.Least.{pick}
use Rattle.search.specs.Walk.{Room, choice, walk}
use Rattle.slack.specs.Problem.{price, problem, Reached, fewest_on, need_on, sparing_on}
use Rattle.threshold.specs.Words.{AllFilled}
use Rattle.weights.specs.Cells.{weight_on, light_on, Closed}
use Rattle.walk.specs.declared.rooms.Passed.{Passed}

-- the first of the lightest plans of the fewest cores
abbrev pub plan_on : Chain → ℕ → List Module
plan_on c n = walk (problem c) (sparing_on c n) (weight_on c n) c.tasks 0 0 (λ q. suc (light_on c n))

-- the module that the walk has passed, where there is one: it ends within its reach (M-102), all that may come after it is marked, and it
-- leaves so many of the fewest cores
pub record PassedRight (c : Chain) (n : ℕ) (w : List ℕ) (m : Passed) : Type 0 where
  pub whole : m.whole ≡ fewest_on c n
  pub board : m.whole ≤ c.board
  pub before : m.last ≡ 0 → m.cores ≡ 0
  pub reached : (m.last ≡ 0 → ⊥) → Reached c m.from m.last
  pub closed : (m.last ≡ 0 → ⊥) → Closed c n w m.before m.from m.cores
  pub spares : (m.last ≡ 0 → ⊥) → (m.copies * m.cores ≤ need_on c n m.before m.from m.cores)
      × (m.spare ≡ need_on c n m.before m.from m.cores - m.copies * m.cores)
  pub few : (m.last ≡ 0 → ⊥) → m.spare ≤ c.board

-- whether a rest that weighs v is marked, the one after the task l whose first module has q cores; behind the last task k, whether none is asked for
abbrev pub marked_by : (k l q v : ℕ) → Bool
marked_by k l q v = cond (eqb l k) (eqb q 0) (not (eqb v 0))

-- r is the fewest cores of the rest after m whose first module has p
abbrev pub LeftBy : Chain → List ℕ → Passed → (p r : ℕ) → Type 0
LeftBy c w m p r = (n : ℕ) → AllFilled c n w → m.whole ≡ fewest_on c n → r ≡ need_on c n m.cores m.last p

-- the room that a module leaves for one of q cores: what was left before it, less its price; before the first all that is left
unfoldable pub room_of : Chain → ℕ → Passed → Room
room_of c n m q =
    let fits = sparing_on c n m.before m.from m.last m.copies m.cores q in
    let own = price c m.from m.last m.copies m.cores q in
    cond (eqb m.last 0) m.left (pick fits (m.left - own) 0)

-- the room for each number of cores
pub record RoomsOf (c : Chain) (n : ℕ) (m : Passed) (rooms : List ℕ) : Type 0 where
  pub at : (q : ℕ) → q ≤ c.board → get_or rooms q 0 ≡ room_of c n m q

module _ (c : Chain) (n : ℕ) (m : Passed) where
  -- the module l r p may come after m
  abbrev pub may_come : (l r p : ℕ) → Bool
  may_come l r p = choice (problem c) (sparing_on c n) (weight_on c n) m.cores m.last (room_of c n m) l r p

  -- x is the first count of cores, with the last task l and r copies, that may come
  pub record LeastCores (l r x : ℕ) : Type 0 where
    pub high : x ≤ c.board
    pub comes : may_come l r x ≡ true
    pub none_below : (p : ℕ) → p < x → may_come l r p ≡ false

  -- x is that count, and there is none where none may come
  abbrev pub FirstCores : (l r : ℕ) → Option ℕ → Type 0
  FirstCores l r x = MatchOption x ((p : ℕ) → p ≤ c.board → may_come l r p ≡ false) (LeastCores l r)

  -- x has the first copies with their first cores, with the last task l, that may come
  pub record LeastCopies (l : ℕ) (x : Module) : Type 0 where
    pub first : x.first ≡ m.last + 1
    pub last : x.last ≡ l
    pub high : (x.copies ≤ c.board) × (x.cores ≤ c.board)
    pub comes : may_come l x.copies x.cores ≡ true
    pub none_below : (r : ℕ) → r < x.copies → (p : ℕ) → p ≤ c.board → may_come l r p ≡ false
    pub cores_first : (p : ℕ) → p < x.cores → may_come l x.copies p ≡ false

  -- x is that module, and there is none where none may come
  abbrev pub FirstCopies : ℕ → Option Module → Type 0
  FirstCopies l x = MatchOption x ((r : ℕ) → r ≤ c.board → (p : ℕ) → p ≤ c.board → may_come l r p ≡ false) (LeastCopies l)

  -- some module may come
  pub record SomeNext : Type 0 where
    pub last : ℕ
    pub copies : ℕ
    pub cores : ℕ
    pub inside : (last ≤ c.tasks) × (copies ≤ c.board) × (cores ≤ c.board)
    pub comes : may_come last copies cores ≡ true
