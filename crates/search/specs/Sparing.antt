-- Plans of the fewest cores: the rule that their modules keep, by whether some rest has so many cores. Assumes nothing.
use Rattle.std.specs.Prelude.{ℕ, suc, ◌-◌, ◌*◌, ◌≤◌, ◌≡◌, Bool, ◌&&◌, List, T, leb, eqb}
use Rattle.modules.specs.declared.Module.{Module}
use Rattle.figures.specs.Model.{head_cores, cores_of}
use Rattle.search.specs.Least.{pick}
use Rattle.search.specs.Find.{find, some}
use Rattle.search.specs.Plan.{Rule, Problem, valid}
use Rattle.search.specs.Bottleneck.{within}
use Rattle.search.specs.Best.{fits_at}

-- whether some rest has at most b cores: after a module of s cores and the task t, its first module having q cores (0: there is no rest)
abbrev pub Enough : Type 0
Enough = (s t q b : ℕ) → Bool

module _ (P : ℕ) (enough : Enough) where
  -- the fewest cores of a whole plan, one more than the board's where there is none
  unfoldable pub fewest : ℕ
  fewest = find (suc P) 0 (λ b. some (suc P) (λ q. enough 0 0 q b))

  -- the fewest cores of a rest; what a whole plan has is the same for all first modules
  unfoldable pub need : (s t q : ℕ) → ℕ
  need s t q = pick (eqb t 0) fewest (find (suc P) 0 (enough s t q))

  -- of the fewest cores, the module l r p leaves enough for a rest whose first module has q cores
  abbrev pub spares : Rule
  spares s t l r p q = leb (r * p) (need s t p) && enough p l q (need s t p - r * p)

-- a module of a plan of the fewest cores, within n
abbrev pub sparing : Problem → ℕ → Enough → Rule
sparing X n enough s t l r p q = fits_at X n s t l r p q && spares X.board enough s t l r p q

module _ (X : Problem) (n : ℕ) where
  -- modules that cover what is left after the task t and a module of s cores, each within n: the first has q cores, all together at most b
  pub record Rest (s t q b : ℕ) : Type 0 where
    pub modules : List Module
    pub ok : T (valid X.tasks (within X n) s t modules)
    pub head : head_cores modules ≡ q
    pub cores : cores_of modules ≤ b

  -- `enough` says just where there is one
  pub record Tells (enough : Enough) : Type 0 where
    pub found : (s t q b : ℕ) → T (enough s t q b) → Rest s t q b
    pub told : (s t b : ℕ) (ms : List Module) → T (valid X.tasks (within X n) s t ms) → cores_of ms ≤ b → T (enough s t (head_cores ms) b)
