-- The numbers of the refusals. Assumes nothing.
use Rattle.std.specs.Prelude.{ℕ, Result, Ok, Err}
use Rattle.refusal.specs.declared.Refusal.{Refusal}
use Rattle.refusal.specs.declared.Refusal.TheVariants.{NoCondition, NoTransfer, NoRoom, NoWord, NoPair, WrongImage, WrongStretches, WrongPlace, NoFlags, TooManyAddresses, UnsortedAddresses}

-- the number that stands for a refusal; 0 stands for none
abbrev pub number : Refusal → ℕ
number NoCondition = 1
number NoTransfer = 2
number NoRoom = 3
number NoWord = 4
number NoPair = 5
number WrongImage = 6
number WrongStretches = 7
number WrongPlace = 8
number NoFlags = 9
number TooManyAddresses = 10
number UnsortedAddresses = 11

-- an answer as two numbers: 0 and the value, or the refusal's number and 0
abbrev pub numbers : Result ℕ Refusal → ℕ × ℕ
numbers (Ok n) = (0, n)
numbers (Err r) = (number r, 0)
