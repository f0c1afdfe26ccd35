-- Refusals by number and place, as the documents number them, and what an answer says as numbers. Assumes nothing.
use Rattle.std.specs.Prelude.{ℕ, Result, Ok, Err}
use Rattle.records.specs.declared.refusal.Fault.TheVariants.{WrongKey, WrongValue}
use Rattle.records.specs.declared.refusal.Refusal.{Refusal}
use Rattle.records.specs.declared.refusal.Refusal.TheVariants.{NotWhole, NoBoard, BoardRange, WrongLength, Faulty, ShortPlan, ShortWork, NoPlan, NoGrouping, NoStart, BadShape, NoCopies, OverMemory, OverCores, AboveLimit, WrongLaws, LawRange, ShortOutput, Copied, WrongBlocks}

-- the number of a refusal
abbrev pub number_of : Refusal → ℕ
number_of NotWhole = 1
number_of NoBoard = 2
number_of BoardRange = 3
number_of WrongLength = 4
number_of (Faulty WrongKey p) = 5
number_of (Faulty WrongValue p) = 6
number_of ShortPlan = 7
number_of ShortWork = 8
number_of NoPlan = 9
number_of NoGrouping = 10
number_of NoStart = 11
number_of (BadShape p) = 12
number_of (NoCopies p) = 13
number_of (OverMemory p) = 14
number_of OverCores = 15
number_of (AboveLimit p) = 16
number_of WrongLaws = 17
number_of LawRange = 18
number_of ShortOutput = 19
number_of (Copied p) = 20
number_of WrongBlocks = 21

-- its place, 0 for none
abbrev pub place_of : Refusal → ℕ
place_of NotWhole = 0
place_of NoBoard = 0
place_of BoardRange = 0
place_of WrongLength = 0
place_of (Faulty f p) = p
place_of ShortPlan = 0
place_of ShortWork = 0
place_of NoPlan = 0
place_of NoGrouping = 0
place_of NoStart = 0
place_of (BadShape p) = p
place_of (NoCopies p) = p
place_of (OverMemory p) = p
place_of OverCores = 0
place_of (AboveLimit p) = p
place_of WrongLaws = 0
place_of LawRange = 0
place_of ShortOutput = 0
place_of (Copied p) = p
place_of WrongBlocks = 0

-- of an answer: the number and the place of a refusal, 0 and 0 where it is none
abbrev pub number_in : {A : Type 0} → Result A Refusal → ℕ
number_in (Ok x) = 0
number_in (Err e) = number_of e

abbrev pub place_in : {A : Type 0} → Result A Refusal → ℕ
place_in (Ok x) = 0
place_in (Err e) = place_of e

-- what follows on an answer, or its refusal
abbrev pub and_then : {A B : Type 0} → (A → Result B Refusal) → Result A Refusal → Result B Refusal
and_then f (Ok x) = f x
and_then f (Err e) = Err e
