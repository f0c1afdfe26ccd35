-- The slack table: the greatest time in which a rest of the plan can still receive, a greatest over its first module's last task,
-- the cores of the module after it, and its copies, each level a definition of its own. 0 stands for "no rest", suc x for the time
-- x, so a rest can serve x just if x is below it. Assumes nothing.
use Rattle.std.specs.Prelude.{ℕ, zero, suc, ◌+◌, ◌*◌, ◌-◌, ◌≤◌, ◌<◌, Bool, ◌&&◌, ◌||◌, ltb, leb, eqb}
use Rattle.search.specs.Least.{pick}
use Rattle.slack.specs.Greatest.{greatest}
use Rattle.slack.specs.Split.{Split, keeps}

-- a slack for each rest: after the task t, its first module of q cores a copy, at most b cores in all
abbrev pub Slack : Type 0
Slack = (t q b : ℕ) → ℕ

module _ (S : Split) where
  -- after a module of q cores that ends with l there is nothing to come, or a rest of at most b cores that serves what it sends
  abbrev pub goes_on : Slack → (l q q' b : ℕ) → Bool
  goes_on rest l q q' b = (eqb l S.tasks && eqb q' 0) || ltb (S.send l q q') (rest l q' b)

  -- what the time of r copies leaves beside a module's own time and what it sends
  abbrev pub leaves : (t q l q' r : ℕ) → ℕ
  leaves t q l q' r = suc (S.time r) - (S.own t l r q + S.send l q q')

  -- one module of q cores, last task l and r copies, before one of q' cores
  unfoldable pub one_way : Slack → (t q b l q' r : ℕ) → ℕ
  one_way rest t q b l q' r =
      pick (keeps S t l r q && leb (r * q) b && goes_on rest l q q' (b - r * q)) (leaves t q l q' r) 0

  -- the greatest over its copies
  unfoldable pub over_copies : Slack → (t q b l q' : ℕ) → ℕ
  over_copies rest t q b l q' = greatest (suc b) (one_way rest t q b l q')

  -- and over the cores of the module after it
  unfoldable pub over_next : Slack → (t q b l : ℕ) → ℕ
  over_next rest t q b l = greatest (suc b) (over_copies rest t q b l)

  -- and over its last task
  unfoldable pub over_last : Slack → Slack
  over_last rest t q b = greatest (suc S.tasks) (over_next rest t q b)

  -- the slack of a rest of at most m modules
  unfoldable pub slack_by : ℕ → Slack
  slack_by zero t q b = 0
  slack_by (suc m) t q b = over_last (slack_by m) t q b

  -- that of any rest: there are no more modules than tasks
  abbrev pub slack : Slack
  slack = slack_by S.tasks

  -- some first module, of q cores a copy, leaves a slack with b cores in all
  pub record Leaves (b : ℕ) : Type 0 where
    pub q : ℕ
    pub one_core : 1 ≤ q
    pub cores_most : q ≤ b
    pub left : 0 < slack 0 q b
