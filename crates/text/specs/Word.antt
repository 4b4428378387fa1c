-- The words of a line: its runs of digits and small letters. Assumes nothing.
use Rattle.std.specs.Prelude.{Bool, true, false, cond, ◌&&◌, ◌||◌, not, List, [], ◌∷◌, ℕ, zero, suc, ◌+◌, ◌*◌, ◌-◌, ◌^◌, leb, eqb, length, take, drop}
use Rattle.common.specs.Lists.{first}

-- a digit or a small letter; and any other byte
unfoldable pub is_word : ℕ → Bool
is_word x = (leb 48 x && leb x 57) || (leb 97 x && leb x 122)

abbrev pub is_gap : ℕ → Bool
is_gap x = not (is_word x)

-- the word that a line begins with, what stands behind it, and what stands from the next word on
unfoldable pub word : List ℕ → List ℕ
word l = take (first is_gap l) l

unfoldable pub behind : List ℕ → List ℕ
behind l = drop (first is_gap l) l

unfoldable pub after : List ℕ → List ℕ
after l = drop (first is_word (behind l)) (behind l)

-- what stands from word j on, counted from 0
abbrev pub from_word : ℕ → List ℕ → List ℕ
from_word zero l = l
from_word (suc j) l = from_word j (after l)

-- whether a byte stands in a line
unfoldable pub has : ℕ → List ℕ → Bool
has x [] = false
has x (y ∷ ys) = eqb y x || has x ys

-- a text of at most eight bytes, none of them 0, as one number; any other text is the number that no such text has here
abbrev pub number : List ℕ → ℕ
number [] = 0
number (x ∷ xs) = number xs * 256 + x

abbrev pub all : (ℕ → Bool) → List ℕ → Bool
all p [] = true
all p (x ∷ xs) = p x && all p xs

unfoldable pub packed : List ℕ → ℕ
packed l = cond (leb (length l) 8 && all (λ x. not (eqb x 0)) l) (number l) (2 ^ 64 - 1)
