-- What a plan that keeps the rules keeps, module by module. Assumes nothing.
use mathlib.Core.Path.{◌≡◌}
use mathlib.Core.Bool.{true}
use mathlib.Core.List.{List, ◌∷◌}
use Prim.Native.Nat.{◌≤◌}
use borrow.Author.Tests.{leb-true}
use Rattle.records.proofs.Cases.{and-true}
use Rattle.modules.specs.declared.Module.{Module}
use Rattle.modules.specs.Model.{Chain}
use Rattle.modules.specs.Rules.{copies_allowed, memory_fits, within_limit, module_rules}
use Rattle.figures.specs.Model.{cores_of}
use Rattle.figures.specs.Rules.{covers, each_allowed, keeps_rules}

pub allowed_head : (c : Chain) (m : Module) (ms : List Module) → each_allowed c (m ∷ ms) ≡ true
    → (copies_allowed c m.first m.last m.copies ≡ true) × (memory_fits c m.first m.last m.cores ≡ true)
    × (within_limit c m.first m.last m.cores ≡ true) × (each_allowed c ms ≡ true)
unfolding each_allowed module_rules
allowed_head c m ms e = let h = and-true _ _ e in let g = and-true _ _ h.0 in let f = and-true _ _ g.0 in (f.0, f.1, g.1, h.1)

pub keeps_parts : (c : Chain) (ms : List Module) → keeps_rules c ms ≡ true → (covers c.tasks 1 ms ≡ true) × (each_allowed c ms ≡ true) × (cores_of ms ≤ c.board)
unfolding keeps_rules
keeps_parts c ms e = let h = and-true _ _ e in let g = and-true _ _ h.0 in (g.0, g.1, leb-true _ _ h.1)
