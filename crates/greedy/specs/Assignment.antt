-- An assignment of the greedy procedure as plan bytes: what the planner's own functions hand on. Assumes nothing.
use Rattle.std.specs.Prelude.{ℕ, zero, suc, ◌+◌, ◌-◌, ◌≡◌, List, [], ◌∷◌, true, cond, Option, Some, None}
use Rattle.std.specs.Coded.{Coded-set, coded_bool, coded_ℕ, coded_list, ×_prop, Unit-prop}
use Rattle.std.proofs.Math.Option.{Option as Maybe, none, some}
use Rattle.modules.specs.declared.Module.{Module}
use Rattle.modules.specs.Model.{Chain}
use Rattle.layout.specs.Layout.{modules_of, encode_plan}
use Rattle.figures.specs.Model.{cores_of}
use Rattle.figures.specs.Rules.{covers}
use Rattle.greedy.specs.declared.greedy.Choice.{Choice}
use Rattle.greedy.specs.Greedy.{bit, time}

-- the last task of the module that task t is in, of t and the n tasks after it
unfoldable pub last_of : ℕ → ℕ → ℕ → ℕ
last_of g t zero = t
last_of g t (suc n) = let rest = last_of g (t + 1) n in cond (bit g (t - 1)) t rest

-- each module has one copy
abbrev pub Single : List Module → Type 0
Single [] = Unit {0}
Single (m ∷ ms) = (m.copies ≡ 1) × Single ms

-- the bytes of modules that cover the chain, each in one copy
pub record Assigned (k : ℕ) (w : List ℕ) : Type 0 where
  pub bytes : w ≡ encode_plan (modules_of w k)
  pub covered : covers k 1 (modules_of w k) ≡ true
  pub single : Single (modules_of w k)

-- each of these two facts has one proof at most, so that a struct may keep it
Single-prop : (ms : List Module) → IsProp (Single ms)
Single-prop [] = Unit-prop
Single-prop (m ∷ ms) = ×_prop (Coded-set coded_ℕ m.copies 1) (Single-prop ms)

pub Assigned-prop : (k : ℕ) (w : List ℕ) → IsProp (Assigned k w)
Assigned-prop k w = hlevel (Coded-set (coded_list coded_ℕ), Coded-set coded_bool, Single-prop (modules_of w k))

-- the modules of the choice that there may be
abbrev pub choice_of : ℕ → Option Choice → Maybe (List Module)
choice_of k None = none
choice_of k (Some r) = some (modules_of r.plan k)

-- a choice is an assignment with its bottleneck and one core more than ms
pub record Chosen (c : Chain) (ms : List Module) (r : Choice) : Type 0 where
  pub held : Assigned c.tasks r.plan
  pub timed : r.time ≡ time c (modules_of r.plan c.tasks)
  pub dearer : cores_of (modules_of r.plan c.tasks) ≡ cores_of ms + 1
