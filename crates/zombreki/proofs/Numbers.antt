-- What the exports say in numbers tells what the services answer: a refusal's number and place say which it is, and the numbers of an answer
-- belong to no other. Assumes nothing.
use mathlib.Core.Path.{◌≡◌, refl, sym, ap, ◌∙◌}
use mathlib.Core.Bool.{cond}
use Prim.Native.Nat.{ℕ}
use lib.Dec.{eqb}
use Rattle.std.specs.Prelude.{Result, Ok, Err}
use Rattle.records.specs.declared.Filled.{Filled}
use Rattle.records.specs.declared.refusal.Fault.TheVariants.{WrongKey, WrongValue}
use Rattle.records.specs.declared.refusal.Refusal.{Refusal}
use Rattle.records.specs.declared.refusal.Refusal.TheVariants.{NotWhole, NoBoard, BoardRange, WrongLength, Faulty, ShortPlan, ShortWork, NoPlan, NoGrouping, NoStart, BadShape, NoCopies, OverMemory, OverCores, AboveLimit, WrongLaws, LawRange, ShortOutput, Copied, WrongBlocks}
use Rattle.records.specs.Refusals.{number_of, place_of}
use Rattle.records.specs.Filled.{filled_of}
use Rattle.records.proofs.Refusing.{number_some}
use Rattle.figures.specs.declared.PlanFigures.{PlanFigures}
use Rattle.figures.specs.declared.answer.Answer.{Answer}
use Rattle.figures.specs.Plan.{answer_of}

-- the refusal of a number and a place
named : ℕ → ℕ → Refusal
named n p =
    cond (eqb n 1) NotWhole (cond (eqb n 2) NoBoard (cond (eqb n 3) BoardRange (cond (eqb n 4) WrongLength
    (cond (eqb n 5) (Faulty WrongKey p) (cond (eqb n 6) (Faulty WrongValue p) (cond (eqb n 7) ShortPlan (cond (eqb n 8) ShortWork
    (cond (eqb n 9) NoPlan (cond (eqb n 10) NoGrouping (cond (eqb n 11) NoStart (cond (eqb n 12) (BadShape p)
    (cond (eqb n 13) (NoCopies p) (cond (eqb n 14) (OverMemory p) (cond (eqb n 15) OverCores (cond (eqb n 16) (AboveLimit p)
    (cond (eqb n 17) WrongLaws (cond (eqb n 18) LawRange (cond (eqb n 19) ShortOutput (cond (eqb n 20) (Copied p) WrongBlocks)))))))))))))))))))

named_is : (e : Refusal) → named (number_of e) (place_of e) ≡ e
unfolding named
named_is NotWhole = refl
named_is NoBoard = refl
named_is BoardRange = refl
named_is WrongLength = refl
named_is (Faulty WrongKey p) = refl
named_is (Faulty WrongValue p) = refl
named_is ShortPlan = refl
named_is ShortWork = refl
named_is NoPlan = refl
named_is NoGrouping = refl
named_is NoStart = refl
named_is (BadShape p) = refl
named_is (NoCopies p) = refl
named_is (OverMemory p) = refl
named_is OverCores = refl
named_is (AboveLimit p) = refl
named_is WrongLaws = refl
named_is LawRange = refl
named_is ShortOutput = refl
named_is (Copied p) = refl
named_is WrongBlocks = refl

pub numbers_tell : (e f : Refusal) → number_of e ≡ number_of f → place_of e ≡ place_of f → e ≡ f
numbers_tell e f n p = sym (named_is e) ∙ ap (λ (x : ℕ). named x (place_of e)) n ∙ ap (named (number_of f)) p ∙ named_is f

-- a plan's figures, of the numbers of its answer
figures_in : Answer → PlanFigures
figures_in a = record { modules = a.modules; cores = a.cores; slowest = a.slowest; copies = a.copies; response = a.response }

pub answers_tell : (a b : Result PlanFigures Refusal) → answer_of a ≡ answer_of b → a ≡ b
unfolding figures_in
answers_tell (Ok x) (Ok y) h = ap Ok (ap figures_in h)
answers_tell (Ok x) (Err f) h = absurd (number_some f (sym (ap (λ (a : Answer). a.number) h)))
answers_tell (Err e) (Ok y) h = absurd (number_some e (ap (λ (a : Answer). a.number) h))
answers_tell (Err e) (Err f) h = ap Err (numbers_tell e f (ap (λ (a : Answer). a.number) h) (ap (λ (a : Answer). a.place) h))

pub filled_tell : (a b : Result ℕ Refusal) → filled_of a ≡ filled_of b → a ≡ b
filled_tell (Ok x) (Ok y) h = ap Ok (ap (λ (a : Filled). a.count) h)
filled_tell (Ok x) (Err f) h = absurd (number_some f (sym (ap (λ (a : Filled). a.refusal) h)))
filled_tell (Err e) (Ok y) h = absurd (number_some e (ap (λ (a : Filled). a.refusal) h))
filled_tell (Err e) (Err f) h = ap Err (numbers_tell e f (ap (λ (a : Filled). a.refusal) h) (ap (λ (a : Filled). a.place) h))
