-- What is said of words that hold a slack table, and of a plan that is read off it. Assumes nothing.
use Rattle.std.specs.Prelude.{ℕ, ◌+◌, ◌*◌, ◌≤◌, ◌<◌, List, get_or, IfSome}
use Rattle.modules.specs.Model.{Chain}
use Rattle.slack.specs.Problem.{SomeWithin}
use Rattle.sketch.specs.declared.Found.{Found}

-- the place of the slack of the rest after the task t whose first module has q cores a copy, at most b in all
abbrev pub slack_at : (t q b : ℕ) → ℕ
slack_at t q b = t * 1089 + q * 33 + b

-- some first module of at most b cores leaves a slack, as the words say
pub record Slacked (w : List ℕ) (b : ℕ) : Type 0 where
  pub q : ℕ
  pub one_core : 1 ≤ q
  pub cores_most : q ≤ b
  pub left : 0 < get_or w (slack_at 0 q b) 0

-- some plan that keeps the rules is within the threshold that is answered, where one is
pub record FoundIn (c : Chain) (f : Found) : Type 0 where
  pub some_plan : IfSome f.threshold (λ n. SomeWithin c n)
