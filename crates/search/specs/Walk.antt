-- The walk: module by module the first choice in module order that still has a light enough rest. Assumes nothing.
use Rattle.std.specs.Prelude.{ℕ, zero, suc, ◌+◌, ◌-◌, ◌<◌, ◌≡◌, Bool, ◌&&◌, cond, ◌⊎◌, List, [], ◌∷◌, T, ltb, eqb}
use Rattle.modules.specs.declared.Module.{Module}
use Rattle.figures.specs.Model.{head_cores}
use Rattle.figures.specs.Plan.{Before}
use Rattle.search.specs.Least.{pick}
use Rattle.search.specs.Find.{find, some}
use Rattle.search.specs.Plan.{Rule, Problem, module_after, of, weight, valid}
use Rattle.search.specs.Weight.{Table}

-- ---- the first module that passes a test, of last tasks l below A, and copies r and cores p below B

module _ (A B : ℕ) (f : (l r p : ℕ) → Bool) where
  -- some p passes with l and r
  abbrev pub some_cores : (l r : ℕ) → Bool
  some_cores l r = some B (f l r)

  -- some r and p pass with l
  abbrev pub some_copies : ℕ → Bool
  some_copies l = some B (some_cores l)

  -- the first last task for which there are copies and cores
  unfoldable pub first_last : ℕ
  first_last = find A 0 some_copies

  -- with it the first copies
  unfoldable pub first_copies : ℕ
  first_copies = find B 0 (some_cores first_last)

  -- with both the first cores
  unfoldable pub first_cores : ℕ
  first_cores = find B 0 (f first_last first_copies)

  -- the three as a module after the task t
  abbrev pub first_module : ℕ → Module
  first_module t = module_after t first_last first_copies first_cores

-- ---- the walk

-- for each number of cores that the next module may have, the first weight that is too much for what is left
abbrev pub Room : Type 0
Room = ℕ → ℕ

module _ (X : Problem) (fits : Rule) where
  -- the room after the module x
  unfoldable pub room_after : (s t : ℕ) → Room → Module → Room
  room_after s t room x q = pick (of fits s t x q) (room x.cores - of X.price s t x q) 0

  -- a list of modules that covers what is left, and for which there is room
  pub record Fine (s t : ℕ) (room : Room) (ms : List Module) : Type 0 where
    pub ok : T (valid X.tasks fits s t ms)
    pub light : weight X s t ms < room (head_cores ms)

  -- the first of them in module order
  pub record First (s t : ℕ) (room : Room) (xs : List Module) : Type 0 where
    pub fine : Fine s t room xs
    pub first : (ms : List Module) → Fine s t room ms → (xs ≡ ms) ⊎ Before xs ms

  module _ (rest : Table) where
    -- the module l r p fits where the next has q cores, and there is room for it and the lightest rest
    abbrev pub goes_on : (s t : ℕ) → Room → (l r p q : ℕ) → Bool
    goes_on s t room l r p q = fits s t l r p q && ltb (X.price s t l r p q + rest p l q) (room p)

    -- the module l r p may come next
    unfoldable pub choice : (s t : ℕ) → Room → (l r p : ℕ) → Bool
    choice s t room l r p = some (suc X.board) (goes_on s t room l r p)

    -- the first module that may come next
    abbrev pub chosen : (s t : ℕ) → Room → Module
    chosen s t room = first_module (suc X.tasks) (suc X.board) (choice s t room) t

    -- at most m modules, from the task t + 1 on, after a module of s cores
    unfoldable pub walk : ℕ → (s t : ℕ) → Room → List Module
    walk zero s t room = []
    walk (suc m) s t room =
        let x = chosen s t room in
        let xs = walk m x.cores x.last (room_after s t room x) in
        cond (eqb t X.tasks) [] (x ∷ xs)
