-- Rests of plans, by the words of a slack table. Assumes nothing.
use Rattle.std.specs.Prelude.{ℕ, ◌+◌, ◌*◌, ◌≤◌, ◌<◌, ◌≡◌, List, ◌⊎◌, Bool, cond, ◌&&◌, ◌||◌, length, get_or, ltb, leb, eqb}
use Rattle.records.specs.declared.Board.{Board}
use Rattle.modules.specs.Model.{Chain}
use Rattle.slack.specs.Problem.{slack_on}
use Rattle.sketch.specs.Slacks.{slack_at, Slacked}
use Rattle.offers.specs.Words.{FirstServed}

-- whether nothing is to come after the task l, or a rest of at most b cores whose first module has q can still receive in the time e
abbrev pub served_in : Chain → ℕ → (l q b e : ℕ) → Bool
served_in c n l q b e = (eqb l c.tasks && eqb q 0) || ltb e (slack_on c n l q b)

-- the same by the words of a slack table: a rest has a module of at least one core and at most all
abbrev pub served_by : Board → List ℕ → (l q b e : ℕ) → Bool
served_by a w l q b e = cond (eqb l a.tasks) (eqb q 0) (leb 1 q && leb q b && ltb e (get_or w (slack_at l q b) 0))

-- from q on r is the first number of cores with which a rest can still receive in the time e, by those words; q itself where it is more
-- than the board's, the board has more than 32, or there are not so many words
pub record NeededBy (a : Board) (w : List ℕ) (t q e r : ℕ) : Type 0 where
  pub first : q ≤ a.cores → a.cores ≤ 32 → t * 1089 + q * 33 + a.cores < length w → FirstServed w (t * 1089 + q * 33) q a.cores e r
  pub none : (a.cores < q) ⊎ (32 < a.cores) ⊎ (length w ≤ t * 1089 + q * 33 + a.cores) → r ≡ q

-- r is the fewest cores of a whole plan on a board of so many, by those words, one more than so many where there is none; 0 where they are
-- more than any board's
pub record FewestBy (cores : ℕ) (w : List ℕ) (r : ℕ) : Type 0 where
  pub first : cores ≤ 32 → (r ≤ cores + 1) × (r ≤ cores → Slacked w r) × ((b : ℕ) → b < r → Slacked w b → ⊥)
  pub none : 32 < cores → r ≡ 0
