-- The worst runs of worked images. Assumes nothing.
use Rattle.std.specs.Prelude.{ℕ, zero, suc, List, [], ◌∷◌, ◌++◌}
use Rattle.worst_run.specs.Worst.{run_numbers, worst_run}
use Rattle.worked_listing.specs.Listings.{half, stretch, word}

-- an image with the list of its stretches; the number that is answered, the count and the offset
pub record Row : Type 0 where
  pub image : List ℕ
  pub list : List ℕ
  pub answer : ℕ × ℕ × ℕ

-- the row of what the definitions give, at base 0: the base does not matter
abbrev pub given_row : Row → Row
given_row r = record { image = r.image; list = r.list; answer = run_numbers (worst_run r.image r.list 0) }

abbrev finds : ℕ → ℕ → List ℕ → List ℕ → Row
finds count offset image list = record { image = image; list = list; answer = (0, count, offset) }

abbrev refuses : ℕ → List ℕ → List ℕ → Row
refuses number image list = record { image = image; list = list; answer = (number, 0, 0) }

-- some bytes so often
abbrev times : ℕ → List ℕ → List ℕ
times zero bytes = []
times (suc n) bytes = bytes ++ times n bytes

-- b to itself, bx lr, and a call pair show instructions
abbrev b : List ℕ
b = word 0xEAFFFFFE

abbrev bx : List ℕ
bx = half 0x4770

abbrev call : List ℕ
call = half 0xF000 ++ half 0xF800

abbrev pub table : List Row
table =
    finds 0 0 [] []
    ∷ finds 0 0 (b ++ b) []
    -- fewer than 256 steps: words that are refused with 1, 2 and 9, `<Undefined>`, and the bench's, which on the sheet is a transfer
    ∷ finds 4 0 (b ++ word 0xF12FFF10 ++ word 0xE1800090 ++ b ++ word 0xE1000000 ++ word 0xE6000010 ++ word 0xE6000000) []
    -- in Thumb `<Undefined>` of both forms, and of the sheet alone; halves of a call are lines of their own
    ∷ finds 2 0 (bx ++ half 0xB100 ++ half 0xDE00 ++ half 0xF800) (stretch 0 8)
    -- 256 steps are one run
    ∷ finds 2 0 (word 0xE1000000 ++ times 254 b ++ word 0xE6000010) []
    -- of 257 the first run, though the second has as many, and the second, where it has more
    ∷ finds 1 0 (word 0xE1000000 ++ times 255 b ++ word 0xE6000010) []
    ∷ finds 1 4 (times 256 b ++ word 0xE1400000) []
    -- a call pair is one step: before the second run, and at the end of the first
    ∷ finds 1 4 (call ++ times 255 bx ++ half 0xB100) (stretch 0 516)
    ∷ finds 1 0 (half 0xB100 ++ times 254 bx ++ call ++ bx) (stretch 0 516)
    ∷ finds 1 2 (bx ++ call ++ times 254 bx ++ half 0xB100) (stretch 0 516)
    -- cut by the border of two stretches it is two
    ∷ finds 1 4 (bx ++ call ++ times 254 bx ++ half 0xB100) (stretch 0 4 ++ stretch 4 512)
    -- 6 comes before 7
    ∷ refuses 6 (half 0x4770) (word 0)
    ∷ refuses 7 (b ++ b) (stretch 4 8)
    ∷ []
