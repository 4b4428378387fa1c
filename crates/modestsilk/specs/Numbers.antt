-- Numbers at the C interface. Assumes nothing.
use Rattle.std.specs.Prelude.{cond, List, ◌++◌, ℕ, eqb, length, take, drop, Option, Some, None, Result, Ok, Err, ⊤}
use Rattle.refusal.specs.Refusal.{number, numbers}
use Rattle.refusal.specs.declared.Refusal.{Refusal}
use Rattle.arm7tdmi.specs.declared.Form.{Form}
use Rattle.arm7tdmi.specs.declared.Form.TheVariants.{Bench, Sheet}
use Rattle.steps.specs.Listed.{listed_refusal, listed_offset, listed_bytes, listed_length}
use Rattle.steps.specs.declared.Listed.{Listed}

-- forms: 0 is bench, every other number sheet
abbrev pub form_of : ℕ → Form
form_of n = cond (eqb n 0) Bench Sheet

-- the answer of a print as the C functions give it: "the number with length 0", or 0 with the line's length; and the buffer
abbrev pub printed_numbers : Result ℕ Refusal × List ℕ → ℕ × ℕ × List ℕ
printed_numbers r = ((numbers r.0).0, (numbers r.0).1, r.1)

-- the number of a refusal, or 0 for none
abbrev pub refusal_number : Option Refusal → ℕ
refusal_number (Some r) = number r
refusal_number None = 0

-- an answer as a number and a value: 0 and what is given, or the refusal's number and what stands for none
abbrev pub given : {T : Type 0} → T → Result T Refusal → ℕ × T
given none (Ok t) = (0, t)
given none (Err r) = (number r, none)

-- the answer of a step as the C function gives it: number, offset, byte length, the line's length; and the buffer. Without a step all but the number are 0.
abbrev pub step_numbers : Result Listed Refusal → List ℕ → ℕ × ℕ × ℕ × ℕ × List ℕ
step_numbers (Ok s) l = (refusal_number (listed_refusal s), listed_offset s, listed_bytes s, listed_length s, l)
step_numbers (Err r) l = (number r, 0, 0, 0, l)

abbrev pub numbers_of : Result Listed Refusal × List ℕ → ℕ × ℕ × ℕ × ℕ × List ℕ
numbers_of r = step_numbers r.0 r.1

-- the answer of a patch: 0 or the refusal's number; and the image
abbrev pub done_number : Result ⊤ Refusal → ℕ
done_number (Ok done) = 0
done_number (Err r) = number r

abbrev pub patched_numbers : Result ⊤ Refusal × List ℕ → ℕ × List ℕ
patched_numbers r = (done_number r.0, r.1)

-- some values written to the start of a lent list of numbers, as far as there is room
abbrev pub written : List ℕ → List ℕ → List ℕ
written values lent = take (length lent) values ++ drop (length values) lent

-- the answer for many addresses, a number and 64 values: the number, and what the lent numbers are then
abbrev pub offsets_given : ℕ × List ℕ → List ℕ → ℕ × List ℕ
offsets_given answer lent = (answer.0, written answer.1 lent)
