-- What the rests of plans of the fewest cores weigh: the cells, and what a sweep over them leaves there. Assumes nothing.
use Rattle.std.specs.Prelude.{ℕ, suc, ◌+◌, ◌-◌, ◌*◌, ◌≤◌, ◌<◌, ◌≡◌, List, Bool, not, true, cond, ◌&&◌, length, get_or, Option, MatchOption, T, leb, eqb}
use Rattle.records.specs.declared.Board.{Board}
use Rattle.modules.specs.Model.{Chain, transfer, handed, body}
use Rattle.modules.specs.Rules.{module_rules, copies_allowed}
use Rattle.search.specs.Least.{pick, least}
use Rattle.search.specs.Plan.{cap}
use Rattle.search.specs.Weight.{Table, over_last, table}
use Rattle.slack.specs.Problem.{unit, problem, Reached, sparing_on}

-- what stands for "none" on a board of p cores: more than any plan on it weighs
abbrev pub no_plan : ℕ → ℕ
no_plan p = unit * (p + 1)

-- ---- the cells

-- the word of the rest after a module of s cores and the task t whose first module has q, on a board of P: a slack has no word for fewer
-- cores than its first module's, and these are the words that are left
abbrev pub cell_at : (P s t q : ℕ) → ℕ
cell_at P s t q = t * 1089 + (P + 1 - q) * 33 + (s - 1)

-- what stands there, by the words: nothing at the last task, and where p or q is 0 or they are more than the board's cores
abbrev pub weight_by : Board → List ℕ → (p l q : ℕ) → ℕ
weight_by a w p l q = cond (not (eqb l a.tasks) && leb 1 p && leb 1 q && leb (p + q) a.cores) (get_or w (cell_at a.cores p l q) 0) 0

module _ (c : Chain) where
  -- there is such a rest on the board
  pub record Celled (s t q : ℕ) : Type 0 where
    pub some_tasks : 1 ≤ t
    pub inside : t < c.tasks
    pub before : 1 ≤ s
    pub first : 1 ≤ q
    pub room : s + q ≤ c.board

  -- its word, and that it is marked: as long as no plan of the fewest cores is known to have such a rest, it is 0
  abbrev pub cell_in : List ℕ → (s t q : ℕ) → ℕ
  cell_in w s t q = get_or w (cell_at c.board s t q) 0

  abbrev pub Marked : List ℕ → (s t q : ℕ) → Type 0
  Marked w s t q = 1 ≤ cell_in w s t q

  -- R is what the marked cells after the task t say, and 0 where nothing is left
  pub record Reads (w : List ℕ) (t : ℕ) (R : Table) : Type 0 where
    pub cell : (s u q : ℕ) → t < u → Celled s u q → Marked w s u q → R s u q ≡ cell_in w s u q
    pub end : (s : ℕ) → R s c.tasks 0 ≡ 0

module _ (c : Chain) (n : ℕ) where
  -- what the rests of plans of the fewest cores weigh
  abbrev pub weight_on : Table
  weight_on = table (problem c) (sparing_on c n)

  -- the least weight of such a plan
  abbrev pub light_on : ℕ
  light_on = least (cap (problem c)) (suc c.board) (weight_on 0 0)

  -- every rest that may come after the first module of s t q is marked
  abbrev pub Closed : List ℕ → (s t q : ℕ) → Type 0
  Closed w s t q = (l r q' : ℕ) → T (sparing_on c n s t l r q q') → l < c.tasks → Marked c w q l q'

  -- r is the fewest copies with which the module up to l may come before one of q' cores
  pub record LeastCopies (s t q l q' r : ℕ) : Type 0 where
    pub few : r ≤ c.board
    pub comes : T (sparing_on c n s t l r q q')
    pub fewer : (i : ℕ) → T (sparing_on c n s t l i q q') → r ≤ i

  -- r is that number, and there is none where it may not come
  abbrev pub FewestCopies : (s t q l q' : ℕ) → Option ℕ → Type 0
  FewestCopies s t q l q' r = MatchOption r ((i : ℕ) → T (sparing_on c n s t l i q q') → ⊥) (LeastCopies s t q l q')

  -- the modules of the rest s t q whose last task and next cores are among some have been looked at: the rests after them are marked, no
  -- other word is written, and v is their least weight by whatever the marked cells say
  pub record Looked (s t q : ℕ) (w w' : List ℕ) (Among : (l q' : ℕ) → Type 0) (v : ℕ) (value : Table → ℕ) : Type 0 where
    pub long : length w' ≡ length w
    pub kept : (j : ℕ)
        → ((l r q' : ℕ) → Among l q' → T (sparing_on c n s t l r q q') → l < c.tasks → j ≡ cell_at c.board q l q' → 1 ≤ get_or w j 0)
        → get_or w' j 0 ≡ get_or w j 0
    pub closed : (l r q' : ℕ) → Among l q' → T (sparing_on c n s t l r q q') → l < c.tasks → Marked c w' q l q'
    pub weighs : (R : Table) → Reads c w' t R → v ≡ value R
    pub some : 1 ≤ v
    pub most : v ≤ no_plan c.board

  -- the cells of the row t that are among some have been weighed: no others but rests after them, which are marked, are written, and where
  -- these were marked before, no others at all. By right weights after t they are right
  pub record Swept (t : ℕ) (w w' : List ℕ) (Among : (s q : ℕ) → Type 0) : Type 0 where
    pub long : length w' ≡ length w
    pub other : (j : ℕ) → ((s u q : ℕ) → t ≤ u → Celled c s u q → j ≡ cell_at c.board s u q → ⊥) → get_or w' j 0 ≡ get_or w j 0
    pub grows : (s u q : ℕ) → Celled c s u q → Marked c w s u q → Marked c w' s u q
    pub row : (s q : ℕ) → Celled c s t q → Marked c w' s t q → Marked c w s t q
    pub apart : (s q : ℕ) → Celled c s t q → (Among s q → ⊥) → cell_in c w' s t q ≡ cell_in c w s t q
    pub closed : (s q : ℕ) → Among s q → Celled c s t q → Marked c w s t q → Closed w' s t q
    pub still : ((s q : ℕ) → Celled c s t q → Marked c w s t q → Closed w s t q)
        → (s u q : ℕ) → t < u → Celled c s u q → cell_in c w' s u q ≡ cell_in c w s u q
    pub right : ((s q : ℕ) → Celled c s t q → Marked c w s t q → Closed w s t q) → Reads c w t weight_on
        → (s q : ℕ) → Among s q → Celled c s t q → Marked c w s t q → cell_in c w' s t q ≡ weight_on s t q

  -- the first modules of fewer than i cores have been looked at; v is the least weight of a plan that starts with one
  pub record Begun (w w' : List ℕ) (i v : ℕ) : Type 0 where
    pub long : length w' ≡ length w
    pub other : (j : ℕ) → ((s u q : ℕ) → Celled c s u q → j ≡ cell_at c.board s u q → ⊥) → get_or w' j 0 ≡ get_or w j 0
    pub closed : (q : ℕ) → 1 ≤ q → q < i → Closed w' 0 0 q
    pub still : ((q : ℕ) → 1 ≤ q → q < i → Closed w 0 0 q) → (j : ℕ) → get_or w' j 0 ≡ get_or w j 0
    pub weighs : (R : Table) → Reads c w' 0 R → v ≡ least (cap (problem c)) i (λ q. pick (eqb q 0) (cap (problem c)) (over_last (problem c) (sparing_on c n) R 0 0 q))
    pub most : v ≤ no_plan c.board

  -- the rows up to t are closed: with a marked rest all that may come after it are marked
  pub record ClosedTo (w : List ℕ) (t : ℕ) : Type 0 where
    pub start : (q : ℕ) → 1 ≤ q → q ≤ c.board → Closed w 0 0 q
    pub rows : (s u q : ℕ) → u ≤ t → Celled c s u q → Marked c w s u q → Closed w s u q

-- ---- one module in its place

-- what is known of the module up to task l: it ends within its reach, in one copy it keeps the rules, what it takes before it sends, its
-- body alone, what handing out to several copies costs (M-106), and whether it may have them
pub record Loaded (c : Chain) (s t q l base stay out : ℕ) (rep : Bool) : Type 0 where
  pub reached : Reached c t l
  pub keeps : module_rules c (t + 1) l 1 q ≡ true
  pub taken : base ≡ transfer c t s q + stay
  pub stays : stay ≡ body c (t + 1) l q
  pub low : base < 17592186044416
  pub handing : out ≡ handed c 2
  pub little : out < 4294967296
  pub replicable : rep ≡ copies_allowed c (t + 1) l 2

-- the cells are weighed: they are closed, and what is marked is right
pub record Weighed (c : Chain) (n : ℕ) (w : List ℕ) : Type 0 where
  pub closed : ClosedTo c n w c.tasks
  pub right : Reads c w 0 (weight_on c n)
