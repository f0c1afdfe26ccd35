-- Which text the program writes of what it took in. A length above the file's is cut to it, and the bytes are the same. Assumes nothing.
use mathlib.Core.Path.{◌≡◌, sym, ap, ◌∙◌}
use mathlib.Core.Bool.{true, false}
use mathlib.Core.List.{List}
use Prim.Native.Nat.{ℕ, min}
use lib.ListN.{length, take, drop, length-take, take-append-drop}
use lib.Seq.{take-append_seam}
use Rattle.console.specs.declared.Input.{Input}
use Rattle.console.specs.Text.{too_long}
use Rattle.plan.specs.Plan.{plan_text, program_text}

take_cut : (m : ℕ) (l : List ℕ) → take (min m (length l)) l ≡ take m l
take_cut m l =
    let front = take m l in
    ap (λ (x : ℕ). take x l) (sym (length-take m l)) ∙ ap (λ (x : List ℕ). take (length front) x) (sym (take-append-drop m l)) ∙ take-append_seam front (drop m l)

module _ (i : Input) (file : List ℕ) where
  pub text_longer : i.longer ≡ true → program_text i file ≡ too_long
  unfolding program_text
  text_longer t = rw t

  pub text_held : {n : ℕ} → i.longer ≡ false → n ≡ min i.length (length file) → program_text i file ≡ plan_text (take n file)
  unfolding program_text
  text_held t e = rw (t, e, take_cut)
