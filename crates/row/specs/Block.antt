-- The row program's input as rows, and in blocks: where it is cut changes no answer. Assumes nothing.
use Rattle.std.specs.Prelude.{Bool, false, ◌≡◌, cond, List, [], ◌∷◌, ◌++◌, ℕ, eqb, drop, length, take}
use Rattle.std.specs.List.{list_any}
use Rattle.row.specs.Row.{row_answer}

-- "each with a line end": the answer for a row and byte 10
abbrev pub answer_line : List ℕ → List ℕ
answer_line row = row_answer row ++ (10 ∷ [])

-- the answers to the rows that end in some bytes of input, where `begun` are the bytes before them of a row
unfoldable pub answers : List ℕ → List ℕ → List ℕ
answers begun [] = []
answers begun (x ∷ l) = cond (eqb x 10) (answer_line begun ++ answers [] l) (answers (begun ++ (x ∷ [])) l)

-- the bytes of the row that has not ended
unfoldable pub unfinished : List ℕ → List ℕ → List ℕ
unfinished begun [] = begun
unfinished begun (x ∷ l) = cond (eqb x 10) (unfinished [] l) (unfinished (begun ++ (x ∷ [])) l)

-- "a line end (byte 10, optional on the last row)"
abbrev pub last_answer : List ℕ → List ℕ
last_answer [] = []
last_answer (x ∷ l) = answer_line (x ∷ l)

-- what the program answers to its input
unfoldable pub all_answers : List ℕ → List ℕ
all_answers input = answers [] input ++ last_answer (unfinished [] input)

-- some bytes stand at the start of an output that held out, and the bytes behind them keep their values: their number, and what it holds then
abbrev pub at_start : List ℕ → List ℕ → ℕ × List ℕ
at_start bs out = (length bs, bs ++ drop (length bs) out)

-- what is held of a row between two blocks: its first 20 bytes, as no row of 20 bytes or more has a line
abbrev pub held_of : List ℕ → List ℕ
held_of row = take 20 row

-- what is answered to an input that comes in blocks, with what is held of a row that a block cuts
unfoldable pub blockwise : List ℕ → List (List ℕ) → List ℕ
blockwise begun [] = last_answer begun
blockwise begun (b ∷ bs) = answers begun b ++ blockwise (held_of (unfinished begun b)) bs

-- ---- for the contracts of inner functions
-- a byte that ends a row; some bytes without one; and those of a row, its end, and what stands behind it
abbrev pub is_end : ℕ → Bool
is_end x = eqb x 10

pub record NoEnd (l : List ℕ) : Type 0 where
  pub none : list_any is_end l ≡ false

pub record Ended (l row rest : List ℕ) : Type 0 where
  pub parts : l ≡ row ++ (10 ∷ rest)
  pub none : list_any is_end row ≡ false
