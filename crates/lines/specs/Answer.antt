-- What a print answers, and what the lent buffer holds then. Assumes nothing.
use Rattle.std.specs.Prelude.{Bool, ◌||◌, ◌==◌, cond, List, ◌++◌, ℕ, ltb, length, drop, Result, Ok, Err}
use Rattle.common.specs.Lists.{same}
use Rattle.text.specs.Text.{text}
use Rattle.refusal.specs.Refusal.{number}
use Rattle.refusal.specs.declared.Refusal.{Refusal}
use Rattle.refusal.specs.declared.Refusal.TheVariants.{NoRoom}

-- a refusal, or a line
pub data Answer : Type 0 where
  refused : Refusal → Answer
  line : List ℕ → Answer

-- whether it shows no instruction: a word is refused with 1, 2 or 9, or its line is `<Undefined>`
abbrev pub is_invalid : Answer → Bool
is_invalid (refused r) = number r == 1 || (number r == 2 || number r == 9)
is_invalid (line bs) = same bs (text "<Undefined>")

-- "the number with length 0, the buffer untouched"
abbrev pub refusal : Refusal → List ℕ → Result ℕ Refusal × List ℕ
refusal r l = (Err r, l)

-- "the length, the line stands at the buffer's start, the bytes behind it keep their values"
abbrev pub given : List ℕ → List ℕ → Result ℕ Refusal × List ℕ
given bs l = (Ok (length bs), bs ++ drop (length bs) l)

-- what is answered for a buffer that holds l, and what it holds then; refusal 3: "the lent buffer is shorter than the line"
unfoldable pub printed : Answer → List ℕ → Result ℕ Refusal × List ℕ
printed (refused r) l = refusal r l
printed (line bs) l = cond (ltb (length l) (length bs)) (refusal NoRoom l) (given bs l)
