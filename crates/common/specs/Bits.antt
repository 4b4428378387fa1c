-- The bits of a number, for words of any width. Document 01: "bit n, and bits a up to but without b as a number". Assumes nothing.
use Rattle.std.specs.Prelude.{Bool, ℕ, ◌-◌, ◌/◌, ◌%◌, ◌^◌, eqb}

-- bit n of a word
abbrev pub bit : ℕ → ℕ → Bool
bit raw n = eqb (raw / 2 ^ n % 2) 1

-- bits a up to but without b, as a number
abbrev pub bit_range : ℕ → ℕ → ℕ → ℕ
bit_range raw a b = raw / 2 ^ a % 2 ^ (b - a)
