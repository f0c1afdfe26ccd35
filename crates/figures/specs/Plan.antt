-- The figures of a plan (document 01, "The chain and the board", "Plan bytes") and module order. Assumes nothing.
use Rattle.std.specs.Prelude.{ℕ, zero, suc, ◌+◌, ◌-◌, ◌<◌, ◌≡◌, List, [], ◌∷◌, ◌⊎◌, length, get_or, Result, Ok, Err}
use Rattle.records.specs.declared.refusal.Refusal.{Refusal}
use Rattle.records.specs.Refusals.{number_of, place_of}
use Rattle.modules.specs.declared.Module.{Module}
use Rattle.modules.specs.Model.{Chain}
use Rattle.layout.specs.Layout.{module_at, modules_from}
use Rattle.figures.specs.declared.PlanFigures.{PlanFigures}
use Rattle.figures.specs.declared.answer.Answer.{Answer}
use Rattle.figures.specs.declared.Slowest.{Slowest}
use Rattle.figures.specs.Model.{response_of, cores_of, responses, bottleneck}

-- the cores of a copy of the record before the i-th, 0 for the first
unfoldable pub cores_before : List ℕ → ℕ → ℕ
cores_before w zero = 0
cores_before w (suc i) = (module_at w i).cores

-- the i-th of n records, with its response among them
unfoldable pub slowness_at : Chain → List ℕ → ℕ → ℕ → Slowest
slowness_at c w n i =
    let m = module_at w i in
    record { number = i + 1; response = response_of c (cores_before w i) m (modules_from w (i + 1) (n - (i + 1))); copies = m.copies }

-- ---- figures

-- the figures of a plan
unfoldable pub figures_of : Chain → List Module → PlanFigures
figures_of c ms =
    let x = bottleneck c ms in
    record { modules = length ms; cores = cores_of ms; slowest = x.number; copies = x.copies; response = x.response }

-- ---- answers in numbers

-- a plan's figures, with number and place 0
abbrev pub filled_in : PlanFigures → Answer
filled_in f =
    record { number = 0; place = 0; modules = f.modules; cores = f.cores; slowest = f.slowest; copies = f.copies; response = f.response }

-- a refusal of any service, by its number and place: zero figures
abbrev pub refusal : ℕ → ℕ → Answer
refusal number place = record { number = number; place = place; modules = 0; cores = 0; slowest = 0; copies = 0; response = 0 }

-- a service's answer
abbrev pub answer_of : Result PlanFigures Refusal → Answer
answer_of (Ok f) = filled_in f
answer_of (Err e) = refusal (number_of e) (place_of e)

-- ---- a module's response

-- the response of the i-th module, counted from 0; 0 where there is none
unfoldable pub response_at : Chain → List Module → ℕ → ℕ
response_at c ms i = get_or (responses c 0 ms) i 0

-- ---- module order

-- smaller last task comes first, then smaller r, then smaller p
unfoldable pub ModuleBefore : Module → Module → Type 0
ModuleBefore x y = (x.last < y.last) ⊎ ((x.last ≡ y.last) × ((x.copies < y.copies) ⊎ ((x.copies ≡ y.copies) × (x.cores < y.cores))))

-- two plans are compared at their first differing module; a plan that ends there comes before one that goes on
unfoldable pub Before : List Module → List Module → Type 0
Before [] [] = ⊥
Before [] (y ∷ ys) = Unit {0}
Before (x ∷ xs) [] = ⊥
Before (x ∷ xs) (y ∷ ys) = ModuleBefore x y ⊎ ((x ≡ y) × Before xs ys)
