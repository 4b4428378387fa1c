-- Read, for words of any width: the lowest word that prints a line. Assumes nothing.
use Rattle.std.specs.Prelude.{Bool, false, List, ℕ}
use Rattle.common.specs.Lists.{same}
use Rattle.common.specs.Lowest.{lowest}
use Rattle.lines.specs.Answer.{Answer, refused, line}

-- "A word prints a line if its line equals it in length and in every byte. A word whose printing is refused prints no line."
abbrev pub is_line : Answer → List ℕ → Bool
is_line (refused n) l = false
is_line (line t) l = same t l

-- "On success, the lowest such word": the lowest below the bound that prints the line, or the bound where none does
unfoldable pub read_back : (ℕ → Answer) → ℕ → List ℕ → ℕ
read_back print bound l = lowest (λ w. is_line (print w) l) bound
