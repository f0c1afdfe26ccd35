-- The times of a row, one by one: each is made of the one before it and of the next module's in the row of the block before. Assumes nothing.
use Prim.Native.Nat.{ℕ, zero, suc, ◌<◌}
use native.Mathlib.Nat.{le_of_suc-le-suc, not-suc-le-zero}
use native.Mathlib.Numerals.{one-add}
use mathlib.Core.Path.{◌≡◌, refl, ap, ◌∙◌}
use mathlib.Core.List.{List, [], ◌∷◌}
use lib.ListN.{get_or, drop, replicate, length, length-replicate}
use lib.Seq.{get_or-drop}
use Rattle.timetable.specs.Stages.{Stage, stage_at}
use Rattle.timetable.specs.Timetable.{through_at, pass, throughs}

pub zeros : (k i : ℕ) → ◌≡◌ {A = ℕ} (get_or (replicate k 0) i 0) 0
zeros zero i = refl
zeros (suc k) zero = refl
zeros (suc k) (suc i) = zeros k i

pass_length : (ready : ℕ) (ss : List Stage) (ts : List ℕ) → length (pass ready ss ts) ≡ length ss
unfolding pass
pass_length ready [] ts = refl
pass_length ready (s ∷ ss) ts = ap suc (pass_length (through_at s ready (get_or ts 1 0)) ss (drop 1 ts))

pub throughs_length : (ss : List Stage) (n : ℕ) → length (throughs ss n) ≡ length ss
unfolding throughs
throughs_length ss zero = length-replicate (length ss) 0
throughs_length ss (suc n) = pass_length (get_or (throughs ss n) 0 0) ss (throughs ss n)

pub pass_first : (ready : ℕ) (ss : List Stage) (ts : List ℕ) → 0 < length ss → get_or (pass ready ss ts) 0 0 ≡ through_at (stage_at ss 0) ready (get_or ts 1 0)
unfolding pass
pass_first ready [] ts h = absurd (not-suc-le-zero h)
pass_first ready (s ∷ ss) ts h = refl

pub pass_next : (ready : ℕ) (ss : List Stage) (ts : List ℕ) (i : ℕ) → suc i < length ss
    → get_or (pass ready ss ts) (suc i) 0 ≡ through_at (stage_at ss (suc i)) (get_or (pass ready ss ts) i 0) (get_or ts (suc (suc i)) 0)
unfolding pass
pass_next ready [] ts i h = absurd (not-suc-le-zero h)
pass_next ready (s ∷ ss) ts zero h =
    let out = through_at s ready (get_or ts 1 0) in
    pass_first out ss (drop 1 ts) (le_of_suc-le-suc h) ∙ ap (through_at (stage_at ss 0) out) (get_or-drop 1 ts 1 0)
pass_next ready (s ∷ ss) ts (suc i) h =
    let out = through_at s ready (get_or ts 1 0) in
    pass_next out ss (drop 1 ts) i (le_of_suc-le-suc h)
    ∙ ap (through_at (stage_at ss (suc i)) (get_or (pass out ss (drop 1 ts)) i 0)) (get_or-drop 1 ts (suc (suc i)) 0 ∙ ap (λ (j : ℕ). get_or ts j 0) (one-add (suc (suc i))))
