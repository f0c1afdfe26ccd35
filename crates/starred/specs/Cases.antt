-- The starred examples of document 01, "A small dock", and the figures of document 02, as entries of one list. An entry has the file's
-- bytes, what else the service is given, and what the document says that comes of it: the answer and, where a plan is filled in, its bytes.
-- Where M-103 gives another figure than document 01, it stands in its place. Assumes nothing.
use Rattle.std.specs.Prelude.{ℕ, ◌≡◌, List, [], ◌∷◌, replicate}
use Rattle.figures.specs.declared.answer.Answer.{Answer}
use Rattle.figures.specs.Plan.{answer_of, refusal}
use Rattle.judge.specs.Judge.{judged}
use Rattle.greedy.specs.Greedy.{greedy_answer, greedy_bytes}
use Rattle.planners.specs.Best.{work_words, best_answer, best_bytes}
use Rattle.starred.specs.Dock.{small_dock, fixed_dock, dock_of, copying_dock, fives_dock, idle_dock}

-- ---- what is lent, and what is answered

-- plan bytes and words as they are lent: nothing of a plan, and not zero
unfoldable pub lent : List ℕ
lent = replicate 48 255

unfoldable pub words : List ℕ
words = replicate work_words 7

-- the figures of a plan: module count, cores, the first slowest module, its response and its copies
abbrev pub figures : (modules cores slowest response copies : ℕ) → Answer
figures modules cores slowest response copies =
    record { number = 0; place = 0; modules = modules; cores = cores; slowest = slowest; copies = copies; response = response }

-- the 48 bytes of a plan of one module, and of two: first task, last task, r, p
abbrev pub one : (first last r p : ℕ) → List ℕ
one first last r p = first ∷ last ∷ r ∷ p ∷ replicate 44 0

abbrev pub two : (first last r p first2 last2 r2 p2 : ℕ) → List ℕ
two first last r p first2 last2 r2 p2 = first ∷ last ∷ r ∷ p ∷ first2 ∷ last2 ∷ r2 ∷ p2 ∷ replicate 40 0

-- ---- the cases

-- Best plan of some costs, Bench way of some costs and a grouping, each with its answer and the plan bytes afterwards; Judge of some
-- costs and plan bytes, with its answer
pub data Case : Type 0 where
  best : List ℕ → Answer → List ℕ → Case
  bench : List ℕ → ℕ → Answer → List ℕ → Case
  judge : List ℕ → List ℕ → Answer → Case

-- the definitions that the services' promises cite say so
abbrev pub Holds : Case → Type 0
Holds (best s a w) = (answer_of (best_answer s lent words) ≡ a) × (best_bytes s lent words ≡ w)
Holds (bench s g a w) = (answer_of (greedy_answer s g lent) ≡ a) × (greedy_bytes s g lent ≡ w)
Holds (judge s w a) = answer_of (judged s w) ≡ a

-- each case of a list holds
abbrev pub Each : List Case → Type 0
Each [] = Unit {0}
Each (x ∷ xs) = Holds x × Each xs

unfoldable pub starred : List Case
starred =
    best small_dock (figures 1 4 1 18 2) (one 1 2 2 2)
    ∷ best fixed_dock (figures 1 4 1 11 1) (one 1 2 1 4)
    ∷ best (dock_of 50) (figures 2 4 1 14 1) (two 1 1 1 1 2 2 1 3)
    ∷ best (dock_of 49) (refusal 9 0) lent
    ∷ best idle_dock (figures 1 2 1 0 1) (one 1 2 1 2)
    ∷ best (copying_dock 10) (figures 1 4 1 11 1) (one 1 2 1 4)
    ∷ bench small_dock 1 (figures 2 4 2 12 1) (two 1 1 1 2 2 2 1 2)
    ∷ bench small_dock 0 (figures 1 4 1 11 1) (one 1 2 1 4)
    ∷ bench small_dock 2 (refusal 10 0) lent
    ∷ judge small_dock (two 1 1 2 1 2 2 1 2) (figures 2 4 2 12 1)
    ∷ judge small_dock (two 1 1 2 1 2 2 1 3) (refusal 15 0)
    ∷ judge small_dock (one 1 2 1 1) (refusal 14 1)
    ∷ judge fives_dock (one 1 2 1 2) (refusal 14 1)
    ∷ judge fives_dock (one 1 2 1 3) (figures 1 3 1 14 1)
    ∷ []
