-- What the reader takes from a line once, for all its candidates; nothing of the promise rests on it. Assumes nothing.
use Rattle.std.specs.Prelude.{◌≡◌, List, ℕ}
use Rattle.reading.specs.Parts.{reg_in}
use Rattle.text.specs.Word.{after}

-- the registers that words 1, 2 and 3 name
abbrev pub Named : List ℕ → ℕ → ℕ → ℕ → Type 0
Named l first second third = (first ≡ reg_in 1 l) × (second ≡ reg_in 2 l) × (third ≡ reg_in 3 l)

-- the line from these words on, and their registers
abbrev pub Taken : List ℕ → List ℕ → List ℕ → List ℕ → ℕ → ℕ → ℕ → Type 0
Taken l one two three first second third = (one ≡ after l) × (two ≡ after (after l)) × (three ≡ after (after (after l))) × Named l first second third
