-- `settle` keeps the least of the entries that it has passed, and writes it over each of them.
use Prim.Native.Nat.{ℕ, ◌+◌, ◌≤◌, ◌<◌, min}
use native.Mathlib.Nat.{le_refl}
use native.Mathlib.Numerals.{add-one}
use native.Mathlib.Omega.{arith}
use mathlib.Core.Path.{◌≡◌, refl, sym, ◌∙◌}
use mathlib.Core.Logic.{⊎_elim}
use mathlib.Core.List.{List}
use lib.ListN.{length, get_or, set}
use lib.Seq.{get_or-set_same, get_or-set_other}
use Rattle.records.proofs.Cases.{lt_or_le}
use Rattle.search.specs.Least.{least}
use Rattle.search.proofs.Least.{lesser_min, least_none, least_more}
use Rattle.slack.specs.Fill.{lowest}
use Rattle.slack.specs.Problem.{none}
use Rattle.offers.specs.Words.{NoneBelow}
use Rattle.offers.proofs.ends.settle.Goals as goal
use Rattle.offers.proofs.ends.settle.Invariants.{SettledBefore}

-- the least of the entries up to c, as the loop has it
lowest_is : (f : ℕ → ℕ) (c : ℕ) → least none (c + 1) f ≡ lowest none f c
unfolding lowest
lowest_is f c = rw add-one

-- it is none where all are
none_lowest : (row : List ℕ) (from c : ℕ) → NoneBelow row from → c ≤ from → none ≡ least none c (λ j. get_or row j 0)
none_lowest row from c bare h = sym (least_none none c (λ j. get_or row j 0) (λ i u. omega (arith, bare i (omega arith))))

-- one entry more
settled_more : (row row' : List ℕ) (from c m v : ℕ) → c < length row' → v ≡ min m (get_or row' c 0) → SettledBefore row row' from c m → SettledBefore row (set row' c v) from (c + 1) v
settled_more row row' from c m v long ev i = record {
  least_so_far = next;
  settled = λ bare j h. ⊎_elim
      (λ d. get_or-set_other row' c j v 0 (omega arith) ∙ i.settled bare j d)
      (λ d. let e : j ≡ c = omega arith in rw e (get_or-set_same row' c v 0 long ∙ next bare ∙ lowest_is (λ k. get_or row k 0) c))
      (lt_or_le j c);
  as_it_was = λ j h. get_or-set_other row' c j v 0 (omega arith) ∙ i.as_it_was j (omega arith);
}
  where
    next : NoneBelow row from → v ≡ least none (c + 1) (λ j. get_or row j 0)
    next bare = least_more none c (λ j. get_or row j 0) m v (i.least_so_far bare) (ev ∙ lesser_min _ _ ∙ rw (i.as_it_was c (le_refl _)))

pub loop-c-init : goal.loop-c-init
loop-c-init c =
    let a = c.args in
    record {
      least_so_far = λ bare. none_lowest a.row.now a.from a.from bare (le_refl _);
      settled = λ bare j h. bare j h ∙ none_lowest a.row.now a.from (j + 1) bare (omega arith) ∙ lowest_is (λ k. get_or a.row.now k 0) j;
      as_it_was = λ j h. refl;
    }

pub loop-c-preserved : goal.loop-c-preserved
loop-c-preserved c = settled_more _ _ _ _ _ _ (omega arith) c.min-m.ensures c.loop-c.invariant

pub returns-2 : goal.returns-2
returns-2 c = λ bare j h. (settled_more _ _ _ _ _ _ (omega arith) c.min-m.ensures c.loop-c.invariant).settled bare j (omega arith)
