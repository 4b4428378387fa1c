-- Lines that scratch space has room for. Assumes nothing.
use Rattle.std.specs.Prelude.{⊤, ◌≤◌, List, length, ℕ}
use lib.ListN.{replicate}
use Rattle.lines.specs.Answer.{Answer, line, refused}

-- the scratch space of a read, before a print
abbrev pub empty : List ℕ
empty = replicate 80 0

-- a line has room in the scratch space
abbrev pub Short : Answer → Type 0
Short (refused r) = ⊤
Short (line bs) = length bs ≤ 80
