-- The number of each ground for a refusal, and how a refusal is printed. Assumes nothing.
use Rattle.std.specs.Prelude.{ℕ, List, ◌++◌, Ok, Err, Result, codes, decimal}
use Rattle.refusal.specs.declared.Refusal.{Refusal}
use Rattle.refusal.specs.declared.Refusal.TheVariants.{PairNotAdmitted, IndexOutOfRange, NoSuchBox, NoSuchList, TooShort, NotOneLine}

abbrev pub number_of : Refusal → ℕ
number_of PairNotAdmitted = 2
number_of IndexOutOfRange = 3
number_of NoSuchBox = 8
number_of NoSuchList = 16
number_of TooShort = 17
number_of NotOneLine = 19

-- an answer with its refusal by number: the promises of all calls speak of refusals so
abbrev pub numbered : {X : Type 0} → Result X Refusal → Result X ℕ
numbered (Ok x) = Ok x
numbered (Err e) = Err (number_of e)

-- `refused` and a number, and a refusal by its own
abbrev pub refused_as : ℕ → List ℕ
refused_as number = codes "refused " ++ decimal number

abbrev pub refusal_text : Refusal → List ℕ
refusal_text e = refused_as (number_of e)
