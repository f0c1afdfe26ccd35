-- A chain as a problem of the search: its plans that keep the rules are the problem's, and its bottleneck is the problem's as a
-- fraction. Assumes nothing.
use mathlib.Core.Path.{◌≡◌, refl, ap, ◌∙◌}
use mathlib.Core.Bool.{Bool, true, false}
use mathlib.Core.List.Memᴰ
use mathlib.Core.List.{List, [], ◌∷◌, Memᴰ}
use mathlib.Core.Logic.{⊎_elim}
use Prim.Native.Nat.{ℕ, ◌+◌, ◌*◌, ◌≤◌, ◌<◌}
use native.Mathlib.Nat.{le_refl, le_antisymm}
use native.Mathlib.Omega.{arith}
use lib.Dec.{T, leb, lt→ltb, leb→le, le→leb, eqb→eq}
use borrow.Author.Tests.{le-leb}
use Rattle.records.proofs.Cases.{and-true}
use Rattle.modules.specs.declared.Module.{Module}
use Rattle.modules.specs.Model.{Chain, response}
use Rattle.modules.specs.Rules.{module_rules}
use Rattle.figures.specs.declared.Slowest.{Slowest}
use Rattle.figures.specs.Model.{response_of, head_cores, cores_of, bottleneck}
use Rattle.figures.specs.Rules.{covers, each_allowed, keeps_rules}
use Rattle.figures.specs.Claims.{loads}
use Rattle.figures.proofs.Covering.{covers_head, covers_cons, covers_end, covers_nil}
use Rattle.figures.proofs.Fractions.{le_le, le_lt, lt_le}
use Rattle.figures.proofs.Kept.{keeps_parts}
use Rattle.figures.proofs.Tops.{bottleneck_is}
use Rattle.search.specs.Plan.{Problem, valid, Priced}
use Rattle.search.specs.Fraction as fraction
use Rattle.search.specs.Bottleneck as abstract
use Rattle.search.specs.Bottleneck.{rules, Keeps, Small, plan_bottleneck}
use Rattle.search.specs.Tiers.{Tiered}
use Rattle.search.specs.Every.{keeps}
use Rattle.search.proofs.Tests.{and_l, and_r, and_i, eq→eqb, bool_eq}
use Rattle.search.proofs.Plan.{valid_first, valid_head, valid_tail, valid_cons}
use Rattle.search.proofs.Fraction.{greater_case, greater_ge}
use Rattle.search.proofs.Bottleneck.{rules_fair, den_pos}
use Rattle.search.proofs.Tiers.{tiered_priced}
use Rattle.slack.specs.Problem.{ticks, problem}

-- the test that holds, as an equation and back
holds : (b : Bool) → b ≡ true → T b
holds true e = tt
holds false e = let z : ◌≡◌ {A = ℕ} 0 1 = cc in absurd (omega arith)

is_true : (b : Bool) → T b → b ≡ true
is_true true t = refl
is_true false t = absurd t

module _ (c : Chain) where
  X : Problem
  X = problem c

  pub problem_tiered : Tiered (problem c) (ticks c)
  problem_tiered = record { price_is = λ s t l r p q. refl }

  pub problem_priced : Priced (problem c)
  problem_priced = tiered_priced (problem c) (ticks c) problem_tiered

  pub problem_small : c.board ≤ 32 → Small (problem c)
  problem_small h = record { bound = 32; positive = omega arith; holds = h; square = omega arith }

  -- ---- the same plans

  rules_of : (s t : ℕ) (m : Module) (q : ℕ) → T (rules (problem c) s t m.last m.copies m.cores q)
      → (t < m.last) × (m.last ≤ c.tasks) × (1 ≤ m.copies) × (1 ≤ m.cores) × (module_rules c (t + 1) m.last m.copies m.cores ≡ true)
  rules_of s t m q u =
      let f = (rules_fair (problem c)).fair s t m.last m.copies m.cores q u in
      let d : T (module_rules c (t + 1) m.last m.copies m.cores) = search (and_l, and_r) in
      (f.0, f.1, f.2, f.3, is_true _ d)

  pub valid_covers : (s t : ℕ) (ms : List Module) → T (valid c.tasks (rules (problem c)) s t ms) → (covers c.tasks (t + 1) ms ≡ true) × (each_allowed c ms ≡ true)
  unfolding each_allowed
  valid_covers s t [] v = (covers_nil c.tasks (t + 1) (omega (arith, eqb→eq t c.tasks v)), refl)
  valid_covers s t (m ∷ ms) v =
      let k = c.tasks in
      let e = valid_first k (rules (problem c)) s t m ms v in
      let f = rules_of s t m (head_cores ms) (valid_head k (rules (problem c)) s t m ms v) in
      let g = valid_covers m.cores m.last ms (valid_tail k (rules (problem c)) s t m ms v) in
      (covers_cons k (t + 1) m ms e (omega arith) f.1 f.2 f.3 g.0, simp (e, f.4, g.1))

  covers_valid : (s t : ℕ) (ms : List Module) → covers c.tasks (t + 1) ms ≡ true → each_allowed c ms ≡ true → T (valid c.tasks (rules (problem c)) s t ms)
  unfolding each_allowed
  covers_valid s t [] h a = eq→eqb t c.tasks (omega (arith, covers_end c.tasks (t + 1) h))
  covers_valid s t (m ∷ ms) h a =
      let k = c.tasks in
      let z = covers_head k (t + 1) m ms h in
      let b = and-true _ _ a in
      let r : module_rules c (t + 1) m.last m.copies m.cores ≡ true = rw (← z.0) b.0 in
      let d : T (rules (problem c) s t m.last m.copies m.cores (head_cores ms)) =
      search (and_i, holds _ r, lt→ltb t m.last (omega arith), le→leb m.last k z.2, le→leb 1 m.copies z.3, le→leb 1 m.cores z.4) in
      valid_cons k (rules (problem c)) s t m ms z.0 d
      (covers_valid m.cores m.last ms z.5 b.1)

  pub rules_kept : (ms : List Module) → Keeps (problem c) ms → keeps_rules c ms ≡ true
  unfolding keeps_rules
  rules_kept ms h = let v = valid_covers 0 0 ms h.0 in simp (v.0, v.1) (le-leb (cores_of ms) c.board h.1)

  pub rules_keeps : (ms : List Module) → keeps_rules c ms ≡ true → Keeps (problem c) ms
  rules_keeps ms e = let h = keeps_parts c ms e in (covers_valid 0 0 ms h.0 h.1, h.2)

  pub keeps_same : (ms : List Module) → keeps_rules c ms ≡ keeps (problem c) ms
  keeps_same ms = bool_eq (keeps_rules c ms) (keeps (problem c) ms)
      (λ t. let h = rules_keeps ms (is_true _ t) in and_i (valid c.tasks (rules (problem c)) 0 0 ms) (leb (cores_of ms) c.board) h.0 (le→leb (cores_of ms) c.board h.1))
      (λ t. holds _ (rules_kept ms (
        and_l (valid c.tasks (rules (problem c)) 0 0 ms) (leb (cores_of ms) c.board) t,
        leb→le (cores_of ms) c.board (and_r (valid c.tasks (rules (problem c)) 0 0 ms) (leb (cores_of ms) c.board) t),
      )))

  -- ---- the same bottleneck

  -- the search's fraction of modules that stand after one of s cores and the task t
  part : (s t : ℕ) → List Module → fraction.Frac
  part s t ms = abstract.bottleneck (problem c) s t ms

  -- no load is above it
  loads_under : (s t n : ℕ) (ms : List Module) → T (valid c.tasks (rules (problem c)) s t ms) → (y : Slowest) → Memᴰ y (loads c s n ms)
      → y.response * (part s t ms).den ≤ (part s t ms).num * y.copies
  unfolding loads abstract.bottleneck part
  loads_under s t n [] v y i = absurd (Memᴰ.not-nil i)
  loads_under s t n (m ∷ ms) v y i =
      let e = valid_first c.tasks (rules (problem c)) s t m ms v in
      let w = valid_tail c.tasks (rules (problem c)) s t m ms v in
      let a = abstract.load (problem c) s t m (head_cores ms) in
      let b = part m.cores m.last ms in
      let g = greater_ge a b in
      ⊎_elim
      (λ d.
      let r : y.response ≡ response c s (t + 1) m.last m.copies m.cores (head_cores ms) = ap (λ (z : Slowest). z.response) d ∙ ap (λ (f : ℕ). response c s f m.last m.copies m.cores (head_cores ms)) e in
      let q : y.copies ≡ m.copies = ap (λ (z : Slowest). z.copies) d in
      rw (r, q) g.0)
      (λ j. le_le y.response y.copies b.num b.den (fraction.greater a b).num (fraction.greater a b).den (den_pos (problem c) m.cores m.last ms w)
      (loads_under m.cores m.last (n + 1) ms w y j) g.1)
      (Memᴰ.cases_cons i)

  -- and some load is at least it
  some_over : (s t n : ℕ) (m : Module) (ms : List Module) → T (valid c.tasks (rules (problem c)) s t (m ∷ ms))
      → (y : Slowest) × Memᴰ y (loads c s n (m ∷ ms)) × ((part s t (m ∷ ms)).num * y.copies ≤ y.response * (part s t (m ∷ ms)).den)
  unfolding loads abstract.bottleneck part
  some_over s t n m [] v =
      let e = valid_first c.tasks (rules (problem c)) s t m [] v in (
        record { number = n; response = response_of c s m []; copies = m.copies },
        Memᴰ.head refl,
        greater_case (abstract.load (problem c) s t m 0) (record { num = 0; den = 1 }) (λ z. z.num * m.copies ≤ response_of c s m [] * z.den)
            (λ h. omega arith) (λ h. rw e (le_refl _)),
      )
  some_over s t n m (x ∷ ms) v =
      let e = valid_first c.tasks (rules (problem c)) s t m (x ∷ ms) v in
      let w = valid_tail c.tasks (rules (problem c)) s t m (x ∷ ms) v in
      let (y, i, h) = some_over m.cores m.last (n + 1) x ms w in
      greater_case (abstract.load (problem c) s t m x.cores) (part m.cores m.last (x ∷ ms))
      (λ z. (y : Slowest) × Memᴰ y (loads c s n (m ∷ (x ∷ ms))) × (z.num * y.copies ≤ y.response * z.den))
      (λ _. (y, Memᴰ.tail i, h))
      (λ _. (record { number = n; response = response_of c s m (x ∷ ms); copies = m.copies }, Memᴰ.head refl, rw e (le_refl _)))

  loads_copied : (k t s n : ℕ) (ms : List Module) → covers k t ms ≡ true → (y : Slowest) → Memᴰ y (loads c s n ms) → 1 ≤ y.copies
  unfolding loads
  loads_copied k t s n [] h y i = absurd (Memᴰ.not-nil i)
  loads_copied k t s n (m ∷ ms) h y i =
      let z = covers_head k t m ms h in
      ⊎_elim (λ d. omega (arith, ap (λ (x : Slowest). x.copies) d, z.3)) (λ j. loads_copied k (m.last + 1) m.cores (n + 1) ms z.5 y j) (Memᴰ.cases_cons i)

  -- the two say the same fraction
  pub record Matched (a : List Module) : Type 0 where
    pub copied : 1 ≤ (bottleneck c a).copies
    pub divided : 1 ≤ (plan_bottleneck (problem c) a).den
    pub same : (bottleneck c a).response * (plan_bottleneck (problem c) a).den ≡ (plan_bottleneck (problem c) a).num * (bottleneck c a).copies

  pub bottleneck_matched : 1 ≤ c.tasks → (a : List Module) → T (valid c.tasks (rules (problem c)) 0 0 a) → Matched a
  unfolding part
  bottleneck_matched some [] v = absurd (omega (arith, eqb→eq 0 c.tasks v))
  bottleneck_matched some (m ∷ ms) v =
      let a = m ∷ ms in
      let x = bottleneck c a in
      let z = plan_bottleneck (problem c) a in
      let h = (valid_covers 0 0 a v).0 in
      let b = bottleneck_is c c.tasks 1 m ms h in
      let (y, i, o) = some_over 0 0 1 m ms v in
      let d = den_pos (problem c) 0 0 a v in
      let up = le_le z.num z.den y.response y.copies x.response x.copies (loads_copied c.tasks 1 0 1 a h y i) o (b.most y i) in
      record { copied = loads_copied c.tasks 1 0 1 a h x b.one; divided = d; same = le_antisymm (loads_under 0 0 1 a v x b.one) up }

-- fractions that are the same compare the same
module _ (a r n d b s m e : ℕ) (p : 1 ≤ r) (q : 1 ≤ d) (u : 1 ≤ s) (w : 1 ≤ e) (first : a * d ≡ n * r) (second : b * e ≡ m * s) where
  pub less_same : a * s < b * r → n * e < m * d
  less_same h = lt_le n d b s m e u (le_lt n d a r b s p (omega arith) h q) (omega arith) w

  pub more_same : a * s ≤ b * r → n * e ≤ m * d
  more_same h = le_le n d b s m e u (le_le n d a r b s p (omega arith) h) (omega arith)
