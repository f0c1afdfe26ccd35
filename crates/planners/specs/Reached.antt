-- Plans whose modules end within their reach. Assumes nothing.
use Rattle.std.specs.Prelude.{◌≤◌}
use mathlib.Core.List.{List, Memᴰ}
use Rattle.modules.specs.declared.Module.{Module}
use Rattle.modules.specs.Model.{Chain}
use Rattle.modules.specs.Reach.{reach}

-- every module of a plan ends within its reach (M-102)
pub record AllReached (c : Chain) (ms : List Module) : Type 0 where
  pub each : (m : Module) → Memᴰ m ms → m.last ≤ reach c m.first
