-- A module that grows by a task, of which only the added task is asked. By the laws of modules.
use Prim.Native.Nat.{ℕ, ◌+◌, ◌-◌, ◌≤◌}
use native.Mathlib.Omega.{arith}
use mathlib.Core.Path.{◌≡◌, ap, ◌∙◌}
use mathlib.Core.Bool.{Bool, true}
use Rattle.modules.specs.Model.{Chain}
use Rattle.modules.specs.Rules.{share, shares, module_rules, still_kept}
use Rattle.modules.proofs.Laws.{shares_more, rules_longer}

-- what is answered of the sum so far and the last task's share (M-103) says whether the module keeps the rules with that task too
pub kept_longer : (c : Chain) (t l q sum added : ℕ) {kept : Bool} → t + 1 ≤ l → sum ≡ shares c (t + 1) (l - 1) q → added ≡ share c l q
    → module_rules c (t + 1) (l - 1) 1 q ≡ true → kept ≡ still_kept c l q (sum + added) → kept ≡ module_rules c (t + 1) l 1 q
kept_longer c t l q sum added h e f before asked =
    asked ∙ ap (still_kept c l q) (omega (arith, e, f, shares_more c (t + 1) l q (omega arith) h)) ∙ rules_longer c (t + 1) l q h before
