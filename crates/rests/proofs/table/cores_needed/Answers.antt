-- `cores_needed` finds the first number of cores: the word of no fewer is above what is received.
use mathlib.Core.List.{List}
use mathlib.Core.Path.{◌≡◌}
use mathlib.Core.Logic.{inl, inr, ⊎_elim}
use Prim.Native.Nat.{ℕ, ◌+◌, ◌≤◌, ◌<◌}
use native.Mathlib.Omega.{arith}
use lib.ListN.{get_or}
use Rattle.records.proofs.Cases.{lt_or_le}
use Rattle.sketch.specs.Slacks.{slack_at}
use Rattle.rests.proofs.table.cores_needed.Goals as goal
use Rattle.rests.proofs.table.cores_needed.Goals.{else-loop-b-test, then-loop-b-test+else-e-work+else-b-b-end}

-- one number of cores more is passed
passed_more : (w : List ℕ) (t q b e : ℕ) → ((j : ℕ) → q ≤ j → j < b → get_or w (slack_at t q j) 0 ≤ e) → get_or w (slack_at t q b) 0 ≤ e
    → (j : ℕ) → q ≤ j → j < b + 1 → get_or w (slack_at t q j) 0 ≤ e
passed_more w t q b e before here j low high =
    ⊎_elim (λ d. before j low d) (λ d. let same : j ≡ b = omega arith in rw same here) (lt_or_le j b)

pub loop-b-init : goal.loop-b-init
loop-b-init c = λ j low high. absurd (omega arith)

pub returns-then-e-work : goal.returns-then-e-work
returns-then-e-work c =
    let o = c.loop-b in
    record {
      first = λ few sized long. record { low = o.auto.b; high = omega (arith, c.loop-b-test.true); serves = λ h. c.if-e-work.true; none_before = o.invariant };
      none = λ out. elim out [ inl h ↦ absurd (omega arith) | inr h ↦ absurd (elim h [ inl g ↦ omega arith | inr g ↦ omega arith ]) ];
    }

pub loop-b-preserved : goal.loop-b-preserved
loop-b-preserved c = let a = c.args in passed_more a.work.now a.t a.q c.loop-b.b a.e c.loop-b.invariant c.if-e-work.false

pub returns : goal.returns
returns c =
    let a = c.args in
    record {
      first = λ few sized long. record {
        low = omega arith;
        high = omega arith;
        serves = λ h. absurd (omega arith);
        none_before = elim c.loop-b-test.branch [
          | else-loop-b-test w ↦ absurd (omega (arith, c.loop-b.auto.b-end))
          | then-loop-b-test+else-e-work+else-b-b-end w ↦ λ j low high. passed_more a.work.now a.t a.q c.loop-b.b a.e c.loop-b.invariant w.if-e-work.false j low (omega arith)
        ];
      };
      none = λ out. elim out [ inl h ↦ absurd (omega arith) | inr h ↦ absurd (elim h [ inl g ↦ omega arith | inr g ↦ omega arith ]) ];
    }
