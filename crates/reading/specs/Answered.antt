-- What a read answers, for words of any width. Assumes nothing.
use Rattle.std.specs.Prelude.{ℕ, ltb, cond, Option, Some, None}

-- document 01's number and word of an answer: "The answer is then 4 with word 0"
abbrev pub read_number : Option ℕ → ℕ
read_number (Some w) = 0
read_number None = 4

abbrev pub read_word : Option ℕ → ℕ
read_word (Some w) = w
read_word None = 0

-- a number below the bound is the word read; any other says that there is none
abbrev pub word_below : ℕ → ℕ → Option ℕ
word_below bound n = cond (ltb n bound) (Some n) None
