-- Read of a call pair. Assumes nothing.
use Rattle.std.specs.Prelude.{ℕ, ◌+◌, ◌*◌, ◌/◌, ◌%◌, ◌^◌, cond, List, nat_lt, Option, Some, None}
use Rattle.lines.specs.Answer.{Answer}
use Rattle.reading.specs.Read.{read_back}
use Rattle.pairs.specs.Print.{pair_line}

-- two halfwords as one number, and the line of the two that a number holds
abbrev pub joined : ℕ → ℕ → ℕ
joined first second = first * 2 ^ 16 + second

abbrev pub joined_line : ℕ → ℕ → Answer
joined_line p n = pair_line p (n / 2 ^ 16) (n % 2 ^ 16)

-- the lowest of all two halfwords whose line at p is l, as one number; 2 ^ 32 where none prints it. No other prints it (`one_pair`).
unfoldable pub read_pair : ℕ → List ℕ → ℕ
read_pair p l = read_back (joined_line p) (2 ^ 32) l

-- a number below 2 ^ 32 is the two halves read; any other says that there are none
abbrev pub answer_of : ℕ → Option (ℕ × ℕ)
answer_of n = cond (nat_lt n (2 ^ 32)) (Some (n / 2 ^ 16, n % 2 ^ 16)) None

-- the answer for a line at an address
unfoldable pub pair_answer : ℕ → List ℕ → Option (ℕ × ℕ)
pair_answer p l = answer_of (read_pair p l)

-- document 02's number and halves of an answer: "otherwise gets 4 with both halves 0"
abbrev pub read_number : Option (ℕ × ℕ) → ℕ
read_number (Some halves) = 0
read_number None = 4

abbrev pub read_first : Option (ℕ × ℕ) → ℕ
read_first (Some halves) = halves.0
read_first None = 0

abbrev pub read_second : Option (ℕ × ℕ) → ℕ
read_second (Some halves) = halves.1
read_second None = 0
