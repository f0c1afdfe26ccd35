-- Step 1, module by module: what is filled in so far and what is left make up the start. Assumes nothing.
use mathlib.Core.Path.{◌≡◌, refl, sym, ap, ◌∙◌}
use mathlib.Core.List.{List, [], ◌∷◌, ◌++◌, append-nil}
use Prim.Native.Nat.{ℕ, zero, suc, ◌+◌, ◌-◌, ◌≤◌, ◌<◌}
use native.Mathlib.Numerals.{add-one}
use native.Mathlib.Omega.{arith}
use lib.ListN.{length, take, drop, take-append-drop}
use lib.Seq.{length-take-le}
use Rattle.modules.specs.declared.Module.{Module}
use Rattle.modules.specs.Model.{Chain}
use Rattle.modules.specs.Rules.{fewest_cores}
use Rattle.layout.specs.Layout.{most_modules, encode_plan, put_module}
use Rattle.layout.proofs.Placing.{put_bytes}
use Rattle.figures.specs.Model.{cores_of}
use Rattle.greedy.specs.Greedy.{least, start}
use Rattle.greedy.specs.Assignment.{last_of}
use Rattle.greedy.proofs.Starting.{start_at, start_next, start_none, start_all}

-- ---- a list one element after another

module _ {A : Type 0} where
  passed_suc : (i : ℕ) (x : A) (xs l : List A) → drop i l ≡ x ∷ xs → (i < length l) × (take (suc i) l ≡ take i l ++ (x ∷ [])) × (drop (suc i) l ≡ xs)
  passed_suc zero x xs [] e = let z : ◌≡◌ {A = ℕ} 0 1 = cc in absurd (omega arith)
  passed_suc (suc i) x xs [] e = let z : ◌≡◌ {A = ℕ} 0 1 = cc in absurd (omega arith)
  passed_suc zero x xs (y ∷ l) e = let d : y ≡ x = cc in (omega arith, rw d, cc)
  passed_suc (suc i) x xs (y ∷ l) e = let h = passed_suc i x xs l e in (omega arith, ap (λ (t : List A). y ∷ t) h.1, h.2)

  passed_more : (i : ℕ) (x : A) (xs l : List A) → drop i l ≡ x ∷ xs → (i < length l) × (take (i + 1) l ≡ take i l ++ (x ∷ [])) × (drop (i + 1) l ≡ xs)
  passed_more i x xs l e = rw (add-one i) (passed_suc i x xs l e)

  passed_all : (i : ℕ) (l : List A) → drop i l ≡ [] → take i l ≡ l
  passed_all i l e = sym (append-nil (take i l)) ∙ rw e at (take-append-drop i l)

cores_append : (xs ys : List Module) → cores_of (xs ++ ys) ≡ cores_of xs + cores_of ys
unfolding cores_of
cores_append [] ys = omega arith
cores_append (x ∷ xs) ys = omega (arith, cores_append xs ys)

-- ---- the modules filled in

-- w holds the first i modules of the start, of that sum of cores, and the others begin with task `first`
pub record Filled (c : Chain) (g i first sum : ℕ) (w : List ℕ) : Type 0 where
  pub bytes : w ≡ encode_plan (take i (start c g))
  pub cores : sum ≡ cores_of (take i (start c g))
  pub rest : drop i (start c g) ≡ start_at c g c.tasks first

module _ (c : Chain) (g : ℕ) where
  pub fill_none : {w : List ℕ} → 1 ≤ c.tasks → w ≡ encode_plan [] → Filled c g 0 1 0 w
  unfolding cores_of
  fill_none h e = record { bytes = e; cores = refl; rest = start_all c g h }

  pub fill_more : {i first sum last p : ℕ} {w v : List ℕ} → Filled c g i first sum w → first ≤ c.tasks → i < most_modules
      → last ≡ last_of g first (c.tasks - first) → p ≡ fewest_cores c first last
      → v ≡ put_module w i (record { first = first; last = last; copies = 1; cores = p }) → Filled c g (i + 1) (last + 1) (sum + p) v
  unfolding cores_of
  fill_more {i} {first} {sum} {last} {p} {w} f h l e q z =
      let all = start c g in
      let next : drop i all ≡ least c first last ∷ start_at c g c.tasks (last + 1) = f.rest ∙ rw (← e) at (start_next c g c.tasks first h) in
      let more = passed_more i (least c first last) (start_at c g c.tasks (last + 1)) all next in
      let made = put_bytes (least c first last) (take i all) i (length-take-le i all (omega arith)) l in
      record {
        bytes = rw more.1 (z ∙ rw (q, f.bytes) made);
        cores = rw more.1 (omega (arith, f.cores, q, cores_append (take i all) (least c first last ∷ [])));
        rest = more.2;
      }

  pub fill_all : {i first sum : ℕ} {w : List ℕ} → Filled c g i first sum w → c.tasks < first → (sum ≡ cores_of (start c g)) × (w ≡ encode_plan (start c g))
  fill_all {i} {first} f h =
      let whole = passed_all i (start c g) (f.rest ∙ start_none c g c.tasks first h) in
      (f.cores ∙ ap cores_of whole, f.bytes ∙ ap encode_plan whole)
