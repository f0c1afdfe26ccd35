-- What a service that is lent plan bytes does with them: it refuses and leaves them as they came, or a plan's bytes stand before what
-- lay behind the 48th. Demand 1's clauses follow for each service alike. Assumes nothing.
use mathlib.Core.Path.{◌≡◌, refl, ap, ◌∙◌}
use mathlib.Core.List.{List, ◌++◌}
use Prim.Native.Nat.{ℕ}
use lib.ListN.{take, drop}
use lib.Seq.{take_at, drop_at}
use Rattle.modules.specs.declared.Module.{Module}
use Rattle.layout.specs.Layout.{most_modules, plan_bytes, encode_plan}
use Rattle.layout.proofs.Placing.{encode_length}
use Rattle.std.specs.Prelude.{Result, Ok, Err}
use Rattle.records.specs.declared.refusal.Refusal.{Refusal}
use Rattle.records.specs.Refusals.{number_in, place_in}
use Rattle.records.proofs.Refusing.{refused_some}
use Rattle.figures.specs.declared.PlanFigures.{PlanFigures}
use Rattle.figures.specs.Plan.{answer_of, refusal}

-- the answer is a, and the plan bytes that were lent as w are v afterwards
pub data Served (a : Result PlanFigures Refusal) (w v : List ℕ) : Type 0 where
  refuses : (number_in a ≡ 0 → ⊥) → v ≡ w → Served a w v
  fills : number_in a ≡ 0 → (ms : List Module) → v ≡ encode_plan ms ++ drop plan_bytes w → Served a w v

-- by a refusal that is there
pub served_refusal : {a : Result PlanFigures Refusal} {w v : List ℕ} {e : Refusal} → a ≡ Err e → v ≡ w → Served a w v
served_refusal e k = refuses (refused_some e) k

-- a refusal has zero figures
pub zero_figures : (a : Result PlanFigures Refusal) → (number_in a ≡ 0 → ⊥) → answer_of a ≡ refusal (number_in a) (place_in a)
zero_figures (Ok f) n = absurd (n refl)
zero_figures (Err e) n = refl

module _ {a : Result PlanFigures Refusal} {w v : List ℕ} where
  pub bytes_kept : Served a w v → (number_in a ≡ 0 → ⊥) → v ≡ w
  bytes_kept (refuses h k) n = k
  bytes_kept (fills z ms e) n = absurd (n z)

  pub bytes_behind : Served a w v → drop plan_bytes v ≡ drop plan_bytes w
  bytes_behind (refuses h k) = ap (drop plan_bytes) k
  bytes_behind (fills z ms e) = ap (drop plan_bytes) e ∙ drop_at (encode_plan ms) (drop plan_bytes w) plan_bytes (encode_length most_modules ms)

-- a plan's bytes, whatever lies behind them
pub bytes_first : (ms : List Module) (w : List ℕ) {v : List ℕ} → v ≡ encode_plan ms ++ drop plan_bytes w → take plan_bytes v ≡ encode_plan ms
bytes_first ms w e = ap (take plan_bytes) e ∙ take_at (encode_plan ms) (drop plan_bytes w) plan_bytes (encode_length most_modules ms)
