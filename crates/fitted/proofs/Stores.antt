-- Runs of stores one after another. Assumes nothing.
use mathlib.Core.Path.{◌≡◌, refl, ap, ◌∙◌}
use mathlib.Core.List.{List, [], ◌∷◌, ◌++◌}
use Prim.Native.Nat.{ℕ, suc, ◌+◌, ◌≤◌}
use native.Mathlib.Omega.{arith}
use lib.ListN.{length, set, drop, length-append, length-drop}
use lib.Seq.{sets, sets-eq, take-append_seam, drop-append-add, drop-drop}

pub sets_append : (w : List ℕ) (i : ℕ) (xs ys : List ℕ) → sets w i (xs ++ ys) ≡ sets (sets w i xs) (i + length xs) ys
sets_append w i [] ys = let e : i ≡ i + 0 = omega arith in ap (λ (n : ℕ). sets w n ys) e
sets_append w i (x ∷ xs) ys =
    let e : suc i + length xs ≡ i + suc (length xs) = omega arith in
    sets_append (set w i x) (suc i) xs ys ∙ ap (λ (n : ℕ). sets (sets (set w i x) (suc i) xs) n ys) e

-- behind a part that lies at the start
pub sets_behind : (xs ys w : List ℕ) → length xs + length ys ≤ length w
    → sets (xs ++ drop (length xs) w) (length xs) ys ≡ xs ++ ys ++ drop (length xs + length ys) w
sets_behind xs ys w h =
    let l : length (xs ++ drop (length xs) w) ≡ length w = omega (arith, length-append xs (drop (length xs) w), length-drop (length xs) w) in
    sets-eq ys (xs ++ drop (length xs) w) (length xs) (omega (arith, l))
    ∙ rw (take-append_seam xs (drop (length xs) w), drop-append-add xs (drop (length xs) w) (length ys), drop-drop (length ys) (length xs) w) (refl)
