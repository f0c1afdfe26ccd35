-- Answers that are refusals, and answers that are not: which they are shows by their number. Assumes nothing.
use mathlib.Core.Path.{◌≡◌, refl}
use mathlib.Core.Logic.{◌⊎◌, inl, inr}
use native.Mathlib.Omega.{arith}
use Rattle.std.specs.Result.{result_unwrap_or}
use Rattle.std.specs.Prelude.{Result, Ok, Err}
use Rattle.records.specs.declared.Board.{Board}
use Rattle.records.specs.declared.refusal.Fault.TheVariants.{WrongKey, WrongValue}
use Rattle.records.specs.declared.refusal.Refusal.{Refusal}
use Rattle.records.specs.declared.refusal.Refusal.TheVariants.{NotWhole, NoBoard, BoardRange, WrongLength, Faulty, ShortPlan, ShortWork, NoPlan, NoGrouping, NoStart, BadShape, NoCopies, OverMemory, OverCores, AboveLimit, WrongLaws, LawRange, ShortOutput, Copied, WrongBlocks}
use Rattle.records.specs.Refusals.{number_of, number_in, and_then}
use Rattle.records.specs.Costs.{board_in}

-- no refusal has the number 0
pub number_some : (e : Refusal) → number_of e ≡ 0 → ⊥
number_some NotWhole h = omega arith
number_some NoBoard h = omega arith
number_some BoardRange h = omega arith
number_some WrongLength h = omega arith
number_some (Faulty WrongKey p) h = omega arith
number_some (Faulty WrongValue p) h = omega arith
number_some ShortPlan h = omega arith
number_some ShortWork h = omega arith
number_some NoPlan h = omega arith
number_some NoGrouping h = omega arith
number_some NoStart h = omega arith
number_some (BadShape p) h = omega arith
number_some (NoCopies p) h = omega arith
number_some (OverMemory p) h = omega arith
number_some OverCores h = omega arith
number_some (AboveLimit p) h = omega arith
number_some WrongLaws h = omega arith
number_some LawRange h = omega arith
number_some ShortOutput h = omega arith
number_some (Copied p) h = omega arith
number_some WrongBlocks h = omega arith

-- an answer is one of both
pub refused_or_not : {A : Type 0} (r : Result A Refusal) → ((x : A) × (r ≡ Ok x)) ⊎ ((e : Refusal) × (r ≡ Err e))
refused_or_not (Ok x) = inl (x, refl)
refused_or_not (Err e) = inr (e, refl)

-- without a refusal
pub none_is : {A : Type 0} (r : Result A Refusal) → number_in r ≡ 0 → (x : A) × (r ≡ Ok x)
none_is (Ok x) h = (x, refl)
none_is (Err e) h = absurd (number_some e h)

pub none_is_read : (r : Result Board Refusal) → number_in r ≡ 0 → r ≡ Ok (board_in r)
none_is_read (Ok b) h = refl
none_is_read (Err e) h = absurd (number_some e h)

-- with one
pub some_is : {A : Type 0} (r : Result A Refusal) → (number_in r ≡ 0 → ⊥) → (e : Refusal) × (r ≡ Err e)
some_is (Ok x) h = absurd (h refl)
some_is (Err e) h = (e, refl)

pub refused_some : {A : Type 0} {r : Result A Refusal} {e : Refusal} → r ≡ Err e → number_in r ≡ 0 → ⊥
refused_some {A} {r} {e} h z = number_some e (rw h at z)

-- what follows on an answer without a refusal, by the board that it has
pub goes_on : {B : Type 0} (f : Board → Result B Refusal) (r : Result Board Refusal) → number_in r ≡ 0 → and_then f r ≡ f (board_in r)
goes_on f (Ok b) h = refl
goes_on f (Err e) h = absurd (number_some e h)

-- the same follows
pub then_same : {A B : Type 0} {f g : A → Result B Refusal} → ((x : A) → f x ≡ g x) → (r : Result A Refusal) → and_then f r ≡ and_then g r
then_same h (Ok x) = h x
then_same h (Err e) = refl

-- the board of an answer, as the code takes it
pub board_or : (r : Result Board Refusal) → result_unwrap_or r (record { tasks = 0; cores = 0; capacity = 0 }) ≡ board_in r
board_or (Ok b) = refl
board_or (Err e) = refl
