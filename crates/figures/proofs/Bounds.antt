-- What holds of every plan that keeps the rules: few modules, copies and cores within the board, and on a board's costs no
-- response above 2k - 1 values and D. By induction along the plan. Assumes nothing.
use mathlib.Core.Path.{◌≡◌, refl}
use mathlib.Core.Bool.{true}
use mathlib.Core.List.Memᴰ
use mathlib.Core.List.{List, [], ◌∷◌, Memᴰ}
use mathlib.Core.Logic.{⊎_elim}
use Prim.Native.Nat.{ℕ, ◌+◌, ◌-◌, ◌*◌, ◌≤◌}
use native.Mathlib.Nat.{mul-le-mul, le_refl}
use native.Mathlib.Omega.{arith}
use Rattle.records.specs.declared.Board.{Board}
use Rattle.records.specs.Costs.{most_value}
use Rattle.records.specs.Format.{IsCosts}
use Rattle.lookups.proofs.Laws.{execution_most, internal_most, external_most}
use Rattle.modules.specs.declared.Module.{Module}
use Rattle.modules.specs.Model.{Chain, chain_of, handed}
use Rattle.modules.proofs.Amounts.{CostsMost, response_most}
use Rattle.figures.specs.declared.Slowest.{Slowest}
use Rattle.figures.specs.Model.{head_cores, cores_of, bottleneck}
use Rattle.figures.specs.Rules.{covers}
use Rattle.figures.specs.Claims.{loads}
use Rattle.figures.proofs.Covering.{covers_head}
use Rattle.figures.proofs.Tops.{bottleneck_is}

-- a module's copies and cores are at most the cores of the plan
pub module_cores : (k t : ℕ) (ms : List Module) → covers k t ms ≡ true → (m : Module) → Memᴰ m ms → (m.copies ≤ cores_of ms) × (m.cores ≤ cores_of ms)
unfolding cores_of
module_cores k t [] e m i = absurd (Memᴰ.not-nil i)
module_cores k t (x ∷ ms) e m i =
    let h = covers_head k t x ms e in
    ⊎_elim
    (λ d. rw d (omega (arith, mul-le-mul (le_refl x.copies) h.4, mul-le-mul h.3 (le_refl x.cores))))
    (λ j. let g = module_cores k (x.last + 1) ms h.5 m j in omega arith)
    (Memᴰ.cases_cons i)

-- at task k there is no module after
pub none_after : (k t : ℕ) (ms : List Module) → covers k t ms ≡ true → t ≡ k + 1 → head_cores ms ≡ 0
none_after k t [] e d = refl
none_after k t (m ∷ ms) e d = absurd (let h = covers_head k t m ms e in omega arith)

-- every load of a plan is at most 2k - 1 values and what handing out to its copies costs
pub loads_most : (c : Chain) (most : ℕ) → CostsMost c most → (k t : ℕ) (ms : List Module) (s n : ℕ) → covers k t ms ≡ true → 1 ≤ t → (t ≡ 1 → s ≡ 0)
    → (x : Slowest) → Memᴰ x (loads c s n ms) → x.response ≤ (2 * k - 1) * most + handed c x.copies
unfolding loads
loads_most c most b k t [] s n e l z x i = absurd (Memᴰ.not-nil i)
loads_most c most b k t (m ∷ ms) s n e l z x i =
    let h = covers_head k t m ms e in
    ⊎_elim
    (λ d. rw d (response_most c most b k s m.first m.last m.copies m.cores (head_cores ms) (omega arith) h.1 h.2
    (λ q. z (omega arith)) (λ q. none_after k (m.last + 1) ms h.5 (omega arith))))
    (λ j. loads_most c most b k (m.last + 1) ms m.cores (n + 1) h.5 (omega arith) (λ q. absurd (omega arith)) x j)
    (Memᴰ.cases_cons i)

pub costs_most : (s : List ℕ) (b : Board) → IsCosts s b → CostsMost (chain_of s b) most_value
costs_most s b c = record { execution = execution_most s b c; internal = internal_most s b c; external = external_most s b c }

pub bottleneck_most : (c : Chain) (most k : ℕ) (ms : List Module) → CostsMost c most → covers k 1 ms ≡ true → (bottleneck c ms).response ≤ (2 * k - 1) * most + handed c (bottleneck c ms).copies
unfolding bottleneck
bottleneck_most c most k [] b e = omega arith
bottleneck_most c most k (m ∷ ms) b e = loads_most c most b k 1 (m ∷ ms) 0 1 e (omega arith) (λ _. refl) _ (bottleneck_is c k 1 m ms e).one
