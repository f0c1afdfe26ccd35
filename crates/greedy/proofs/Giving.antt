-- One core more for a module: the modules still cover the chain in single copies, and one core more is taken. By induction
-- along the modules. Assumes nothing.
use mathlib.Core.Path.{◌≡◌}
use mathlib.Core.Bool.{true}
use mathlib.Core.List.{List, [], ◌∷◌}
use Prim.Native.Nat.{ℕ, zero, suc, ◌+◌, ◌<◌}
use native.Mathlib.Omega.{arith}
use lib.ListN.{length}
use Rattle.modules.specs.declared.Module.{Module}
use Rattle.figures.specs.Model.{cores_of}
use Rattle.figures.specs.Rules.{covers}
use Rattle.figures.proofs.Covering.{covers_head, covers_cons}
use Rattle.greedy.specs.Greedy.{give}
use Rattle.greedy.specs.Assignment.{Single}

pub give_covers : (k t : ℕ) (ms : List Module) (i : ℕ) → covers k t ms ≡ true → covers k t (give ms i) ≡ true
unfolding give
give_covers k t [] i e = e
give_covers k t (m ∷ ms) zero e =
    let h = covers_head k t m ms e in
    covers_cons k t (record { first = m.first; last = m.last; copies = m.copies; cores = m.cores + 1 }) ms h.0 h.1 h.2 h.3 (omega arith) h.5
give_covers k t (m ∷ ms) (suc i) e =
    let h = covers_head k t m ms e in
    covers_cons k t m (give ms i) h.0 h.1 h.2 h.3 h.4 (give_covers k (m.last + 1) ms i h.5)

pub give_single : (ms : List Module) (i : ℕ) → Single ms → Single (give ms i)
unfolding give
give_single [] i s = s
give_single (m ∷ ms) zero s = s
give_single (m ∷ ms) (suc i) s = (s.0, give_single ms i s.1)

pub give_cores : (ms : List Module) (i : ℕ) → Single ms → i < length ms → cores_of (give ms i) ≡ cores_of ms + 1
unfolding give cores_of
give_cores [] i s h = absurd (omega arith)
give_cores (m ∷ ms) zero s h = rw s.0 (omega arith)
give_cores (m ∷ ms) (suc i) s h = omega (arith, give_cores ms i s.1 (omega arith))
