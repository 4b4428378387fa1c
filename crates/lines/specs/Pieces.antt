-- The pieces of a line that fields of a word give, for words of any width. Assumes nothing.
use Rattle.std.specs.Prelude.{cond, List, [], ◌∷◌, ◌++◌, map, ℕ, zero, suc, eqb}
use Rattle.common.specs.Bits.{bit, bit_range}
use Rattle.text.specs.Text.{text}
use Rattle.arm7tdmi.specs.Names.{reg_string, cond_text}

-- the name of the register in bits a up to b
unfoldable pub reg_at : ℕ → ℕ → ℕ → List ℕ
reg_at raw a b = reg_string (bit_range raw a b)

-- the name of the condition in bits a up to b
unfoldable pub cond_at : ℕ → ℕ → ℕ → List ℕ
cond_at raw a b = cond_text (bit_range raw a b)

-- one text where bit n is set and another where it is clear; and a text or nothing
unfoldable pub either : ℕ → ℕ → List ℕ → List ℕ → List ℕ
either raw n set clear = cond (bit raw n) set clear

unfoldable pub if_set : ℕ → ℕ → List ℕ → List ℕ
if_set raw n set = cond (bit raw n) set []

-- the numbers below n whose bits are set, the lowest first
unfoldable pub set_bits : ℕ → ℕ → List ℕ
set_bits raw zero = []
set_bits raw (suc n) = set_bits raw n ++ cond (bit raw n) (n ∷ []) []

-- texts with a comma and a space between
abbrev pub joined : List (List ℕ) → List ℕ
joined [] = []
joined (t ∷ []) = t
joined (t ∷ u ∷ ts) = t ++ (text ", " ++ joined (u ∷ ts))

-- a list of registers: the names of those below n whose bits are set
unfoldable pub registers : ℕ → ℕ → List ℕ
registers raw n = joined (map reg_string (set_bits raw n))

-- what register i adds to the list of those below it: nothing, its name, or its name behind a comma
unfoldable pub listed : ℕ → ℕ → List ℕ
listed raw i = cond (bit raw i) (cond (eqb (bit_range raw 0 i) 0) (reg_string i) (text ", " ++ reg_string i)) []
