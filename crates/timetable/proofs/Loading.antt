-- The arrays of bodies and transfers: one entry more, and what they hold is the plan's stages. Assumes nothing.
use Prim.Native.Nat.{ℕ, zero, suc, ◌+◌, ◌-◌, ◌≤◌, ◌<◌}
use native.Mathlib.Omega.{arith}
use mathlib.Core.Path.{◌≡◌, refl, sym, ◌∙◌}
use mathlib.Core.List.{List}
use mathlib.Core.Logic.{⊎_elim}
use lib.ListN.{set, length, replicate}
use lib.Seq.{get_or-set_same, get_or-set_other}
use borrow.Author.Count.{below_none}
use borrow.Author.Tests.{lt-ltb, le-ltb}
use Rattle.records.proofs.Cases.{lt_or_le}
use Rattle.modules.specs.declared.Module.{Module}
use Rattle.modules.specs.Model.{Chain, transfer}
use Rattle.modules.proofs.Amounts.{no_receiver}
use Rattle.layout.specs.Layout.{module_at, modules_from}
use Rattle.figures.proofs.Listed.{head_cores_lem}
use Rattle.timetable.specs.Loops.{stages_in, stage_in, Each}
use Rattle.timetable.specs.Stages.{stages}
use Rattle.timetable.proofs.Rows.{zeros}

-- ---- one entry more

pub each_none : (f : ℕ → ℕ) (most k : ℕ) → Each f most 0 (replicate k 0)
each_none f most k = record { at = below_none _; most = λ i. rw (zeros k i) (omega arith) }

module _ {f : ℕ → ℕ} {most n : ℕ} {l : List ℕ} (e : Each f most n l) (v : ℕ) (long : n < length l) where
  pub each_more : v ≡ f n → v ≤ most → Each f most (n + 1) (set l n v)
  each_more d h = record {
    at = λ i g. ⊎_elim
        (λ b. get_or-set_other l n i v 0 (omega arith) ∙ e.at i b)
        (λ b. let q : i ≡ n = omega arith in rw q (get_or-set_same l n v 0 long ∙ d))
        (lt_or_le i n);
    most = λ i. ⊎_elim
        (λ b. rw (get_or-set_other l n i v 0 (omega arith)) (e.most i))
        (λ b. ⊎_elim
        (λ a. rw (get_or-set_other l n i v 0 (omega arith)) (e.most i))
        (λ a. let q : i ≡ n = omega arith in rw (q, get_or-set_same l n v 0 long) h)
        (lt_or_le n i))
        (lt_or_le i n);
  }

pub each_done : {f : ℕ → ℕ} {most n m : ℕ} {l : List ℕ} → Each f most n l → n ≡ m → Each f most m l
each_done e d = record { at = λ i h. e.at i (omega arith); most = e.most }

-- ---- what a module sends

module _ (c : Chain) (w : List ℕ) (count i : ℕ) where
  pub send_next : {m to : Module} {x : ℕ} → i + 1 < count → m ≡ module_at w i → to ≡ module_at w (i + 1) → x ≡ transfer c m.last m.cores to.cores → x ≡ (stage_in c w count i).send
  send_next h e f g = g ∙ rw (e, f, head_cores_lem w (i + 1) count) (simp (lt-ltb (i + 1) count h))

  pub send_none : count ≤ i + 1 → 0 ≡ (stage_in c w count i).send
  send_none h = rw (head_cores_lem w (i + 1) count) (simp (le-ltb (i + 1) count h) (sym (no_receiver c (module_at w i).last (module_at w i).cores)))

-- ---- the stages

module _ (c : Chain) (w b x : List ℕ) {most more : ℕ} (count : ℕ) (bodies : Each (λ i. (stage_in c w count i).body) most count b) (sends : Each (λ i. (stage_in c w count i).send) more count x) where
  stages_from : (n i : ℕ) → i + n ≡ count → stages_in b x i n ≡ stages c (modules_from w i n)
  unfolding stages_in stages modules_from
  stages_from zero i e = refl
  stages_from (suc n) i e =
      let d : count - (i + 1) ≡ n = omega arith in
      rw (bodies.at i (omega arith), sends.at i (omega arith), d, stages_from n (i + 1) (omega arith))

  pub stages_held : stages_in b x 0 count ≡ stages c (modules_from w 0 count)
  stages_held = stages_from count 0 (omega arith)
