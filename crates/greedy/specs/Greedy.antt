-- The greedy procedure of source document 000, section 4.1, on document 01's terms ("Bench way"), with the limits of document 02,
-- M-100: every module has one copy, and the grouping fixes which tasks share one. Assumes nothing.
use Rattle.std.specs.Prelude.{ℕ, zero, suc, ◌+◌, ◌-◌, ◌/◌, ◌%◌, ◌^◌, ◌≤◌, ◌<◌, ◌≡◌, Bool, true, cond, ◌&&◌, length, get_or, drop, ltb, leb, eqb, Result, Ok, Err}
use mathlib.Core.List.{List, [], ◌∷◌, ◌++◌, Memᴰ}
use Rattle.std.proofs.Math.Option.{Option, none, some}
use Rattle.records.specs.declared.refusal.Refusal.{Refusal}
use Rattle.records.specs.declared.refusal.Refusal.TheVariants.{ShortPlan, NoGrouping, NoStart}
use Rattle.records.specs.Refusals.{number_in, and_then}
use Rattle.records.specs.Costs.{board_in, read_costs}
use Rattle.modules.specs.declared.Module.{Module}
use Rattle.modules.specs.Model.{Chain, chain_of}
use Rattle.modules.specs.Rules.{module_limit, within_limit, fewest_cores}
use Rattle.layout.specs.Layout.{plan_bytes, encode_plan}
use Rattle.figures.specs.declared.PlanFigures.{PlanFigures}
use Rattle.figures.specs.Model.{cores_of, bottleneck}
use Rattle.figures.specs.Plan.{figures_of}
use Rattle.judge.specs.Judge.{first_failing, limit_test}
use Rattle.judge.specs.Claims.{no_module}

-- ---- step 1: each module has the fewest cores that its memory allows

-- bit i of the grouping, counted from 0: a module ends after task i + 1
unfoldable pub bit : ℕ → ℕ → Bool
bit g i = eqb (g / 2 ^ i % 2) 1

-- some bit at k or above is set
pub record SomeBit (g k : ℕ) : Type 0 where
  pub at : ℕ
  pub high : k ≤ at
  pub set : bit g at ≡ true

abbrev pub least : Chain → ℕ → ℕ → Module
least c first last = record { first = first; last = last; copies = 1; cores = fewest_cores c first last }

-- the modules of task t and the n tasks after it, the last of which ends one; the first of them began with task `first`
unfoldable pub start_from : Chain → ℕ → ℕ → ℕ → ℕ → List Module
start_from c g first t zero = least c first t ∷ []
start_from c g first t (suc n) =
    let ended = least c first t ∷ start_from c g (t + 1) (t + 1) n in
    let goes_on = start_from c g first (t + 1) n in
    cond (bit g (t - 1)) ended goes_on

unfoldable pub start : Chain → ℕ → List Module
start c g = start_from c g 1 1 (c.tasks - 1)

-- ---- step 3: who gets a core

-- the bottleneck of a whole assignment: all copies are 1, so it is the longest response
abbrev pub time : Chain → List Module → ℕ
time c ms = (bottleneck c ms).response

-- one core more for the i-th module, counted from 0
unfoldable pub give : List Module → ℕ → List Module
give [] i = []
give (m ∷ ms) zero = record { first = m.first; last = m.last; copies = m.copies; cores = m.cores + 1 } ∷ ms
give (m ∷ ms) (suc i) = m ∷ give ms i

-- who may get one: a module that exists and is not at its limit (M-100), so that with one core more it is within it
unfoldable pub may_take : Chain → List Module → ℕ → Bool
may_take c ms i = let m = get_or ms i no_module in ltb i (length ms) && within_limit c m.first m.last (m.cores + 1)

-- M-100: the i-th module, if there is one, is at its limit
abbrev pub AtLimit : Chain → List Module → ℕ → Type 0
AtLimit c ms i = i < length ms → module_limit c (get_or ms i no_module).first (get_or ms i no_module).last ≡ (get_or ms i no_module).cores

-- the candidate i against the best so far: it must give a smaller bottleneck, so of equals the earlier stays
unfoldable pub consider : Chain → List Module → Option (List Module) → ℕ → Option (List Module)
consider c ms none i = cond (may_take c ms i) (some (give ms i)) none
consider c ms (some x) i = cond (may_take c ms i && ltb (time c (give ms i)) (time c x)) (some (give ms i)) (some x)

-- the place before the i-th, none for the first
unfoldable pub predecessor : List Module → ℕ → ℕ
predecessor ms zero = length ms
predecessor ms (suc i) = i

-- the next assignment: the first slowest module, its predecessor or its successor has one core more
unfoldable pub next : Chain → List Module → Option (List Module)
next c ms =
    let i = (bottleneck c ms).number - 1 in
    consider c ms (consider c ms (consider c ms none i) (predecessor ms i)) (i + 1)

-- ---- steps 2 and 4: while a core is left, and the earliest assignment of least bottleneck

abbrev pub better : Chain → List Module → List Module → List Module
better c x best = cond (ltb (time c x) (time c best)) x best

-- n cores are left, ms is the latest assignment, best the best so far; the walk ends where nobody may get a core
unfoldable pub greedy_from : Chain → ℕ → List Module → List Module → List Module
greedy_from c zero ms best = best
greedy_from c (suc n) ms best = elim (next c ms) [ none ↦ best | some x ↦ greedy_from c n x (better c x best) ]

-- the assignments of the walk in their order, ms first
unfoldable pub visited : Chain → ℕ → List Module → List (List Module)
visited c zero ms = ms ∷ []
visited c (suc n) ms = ms ∷ (elim (next c ms) [ none ↦ [] | some x ↦ visited c n x ])

-- x is the earliest of least bottleneck among them
pub record IsEarliest (c : Chain) (all : List (List Module)) (x : List Module) : Type 0 where
  pub before : List (List Module)
  pub after : List (List Module)
  pub split : all ≡ before ++ (x ∷ after)
  pub least : (a : List Module) → Memᴰ a all → time c x ≤ time c a
  pub first : (a : List Module) → Memᴰ a before → time c x < time c a

unfoldable pub greedy_plan : Chain → ℕ → List Module
greedy_plan c g = greedy_from c (c.board - cores_of (start c g)) (start c g) (start c g)

-- ---- the service

-- some module's cores exceed its limit (M-100)
pub record OverLimit (c : Chain) (ms : List Module) : Type 0 where
  pub at : ℕ
  pub there : at < length ms
  pub limited : 1 ≤ module_limit c (get_or ms at no_module).first (get_or ms at no_module).last
  pub exceeds : module_limit c (get_or ms at no_module).first (get_or ms at no_module).last < (get_or ms at no_module).cores

-- refusal 11 is due unless this holds: the modules' fewest cores add up to at most P, and no module's exceed its limit (M-100)
unfoldable pub start_fits : Chain → ℕ → Bool
start_fits c g = leb (cores_of (start c g)) c.board && eqb (first_failing (limit_test c) 1 (start c g)) 0

unfoldable pub greedy_on : Chain → ℕ → Result PlanFigures Refusal
greedy_on c g =
    cond (ltb g (2 ^ (c.tasks - 1)))
    (cond (start_fits c g) (Ok (figures_of c (greedy_plan c g))) (Err NoStart))
    (Err NoGrouping)

-- what the service answers to costs, a grouping and plan bytes
unfoldable pub greedy_answer : List ℕ → ℕ → List ℕ → Result PlanFigures Refusal
greedy_answer s g w = and_then (λ b. cond (leb plan_bytes (length w)) (greedy_on (chain_of s b) g) (Err ShortPlan)) (read_costs s)

-- what the plan bytes w are afterwards: the plan's and what lay behind them, or as lent where it refuses
unfoldable pub greedy_bytes_on : Chain → ℕ → List ℕ → List ℕ
greedy_bytes_on c g w = cond (eqb (number_in (greedy_on c g)) 0) (encode_plan (greedy_plan c g) ++ drop plan_bytes w) w

unfoldable pub greedy_bytes : List ℕ → ℕ → List ℕ → List ℕ
greedy_bytes s g w =
    cond (eqb (number_in (read_costs s)) 0 && leb plan_bytes (length w)) (greedy_bytes_on (chain_of s (board_in (read_costs s))) g w) w
