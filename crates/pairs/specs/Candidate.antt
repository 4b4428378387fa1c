-- The candidate for a line: the two halves for the distance that it shows. The reader's plan; nothing of the promise rests on it. Assumes nothing.
use Rattle.std.specs.Prelude.{ℕ, ◌+◌, ◌-◌, ◌/◌, ◌%◌, ◌^◌}
use Rattle.arm7tdmi.specs.Signed.{moved}

-- how far a target is from the address behind a pair at p
abbrev pub distance : ℕ → ℕ → ℕ
distance p target = moved target (2 ^ 32 - moved p 4)

-- the halves of a call over a distance, if there is one
abbrev pub first_for : ℕ → ℕ
first_for d = 0xf000 + d / 4096 % 2048

abbrev pub second_for : ℕ → ℕ
second_for d = 0xf800 + d / 2 % 2048
