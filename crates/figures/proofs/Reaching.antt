-- No module of a plan that keeps the rules goes beyond its reach (document 02, M-102): its memory fits, on cores of the board. Assumes
-- nothing.
use mathlib.Core.Path.{◌≡◌, refl}
use mathlib.Core.Bool.{true}
use mathlib.Core.List.Memᴰ
use mathlib.Core.List.{List, [], ◌∷◌, Memᴰ}
use mathlib.Core.Logic.{⊎_elim}
use Prim.Native.Nat.{ℕ, ◌+◌, ◌≤◌}
use native.Mathlib.Omega.{arith}
use Rattle.modules.specs.declared.Module.{Module}
use Rattle.modules.specs.Model.{Chain}
use Rattle.modules.specs.Reach.{reach}
use Rattle.modules.proofs.Laws.{reach_memory}
use Rattle.figures.specs.Rules.{covers, each_allowed, keeps_rules}
use Rattle.figures.proofs.Bounds.{module_cores}
use Rattle.figures.proofs.Covering.{covers_head}
use Rattle.figures.proofs.Kept.{allowed_head, keeps_parts}

each_reached : (c : Chain) (t : ℕ) (ms : List Module) → 1 ≤ t → covers c.tasks t ms ≡ true → each_allowed c ms ≡ true
    → ((m : Module) → Memᴰ m ms → m.cores ≤ c.board) → (m : Module) → Memᴰ m ms → m.last ≤ reach c m.first
each_reached c t [] some e a few m i = absurd (Memᴰ.not-nil i)
each_reached c t (x ∷ ms) some e a few m i =
    let h = covers_head c.tasks t x ms e in
    let g = allowed_head c x ms a in
    let holds = (reach_memory c x.first x.last (omega arith) h.1 h.2).0 in
    ⊎_elim
    (λ d. rw d (holds (record { cores = x.cores; some = h.4; board = few x (Memᴰ.head refl); fits = g.1 })))
    (λ j. each_reached c (x.last + 1) ms (omega arith) h.5 g.3 (λ y k. few y (Memᴰ.tail k)) m j)
    (Memᴰ.cases_cons i)

pub plan_reach : (c : Chain) (ms : List Module) → keeps_rules c ms ≡ true → (m : Module) → Memᴰ m ms → m.last ≤ reach c m.first
plan_reach c ms e =
    let k = keeps_parts c ms e in
    each_reached c 1 ms (omega arith) k.0 k.1 (λ y j. omega (arith, module_cores c.tasks 1 ms k.0 y j, k.2))
