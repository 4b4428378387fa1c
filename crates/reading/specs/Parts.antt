-- What the words of a line name: the reader's plan; nothing of the promise rests on it. Assumes nothing.
use Rattle.std.specs.Prelude.{◌%◌, ◌+◌, ◌^◌, suc, zero, ℕ, eqb, drop, length, Bool, cond, List}
use Rattle.arm7tdmi.specs.Names.{reg_named}
use Rattle.text.specs.Digits.{value}
use Rattle.text.specs.Word.{after, from_word, word}

-- a flag as a number
abbrev pub flag : Bool → ℕ
flag b = cond b 1 0

-- the register that word j of a line names, or 16
abbrev pub reg_in : ℕ → List ℕ → ℕ
reg_in j l = reg_named (word (from_word j l))

-- the number that word j writes: in decimal, in hexadecimal, and in hexadecimal behind `0x`
abbrev pub dec_in : ℕ → List ℕ → ℕ
dec_in j l = value 10 (word (from_word j l))

abbrev pub bare_in : ℕ → List ℕ → ℕ
bare_in j l = value 16 (word (from_word j l))

abbrev pub hex_in : ℕ → List ℕ → ℕ
hex_in j l = value 16 (drop 2 (word (from_word j l)))

-- the five bits of an amount of places: 32 stands as 0
abbrev pub amount_field : ℕ → ℕ
amount_field n = n % 2 ^ 5

-- a register list: "read as one name and then the rest", at most k deep
unfoldable pub list_in : ℕ → List ℕ → ℕ
list_in zero l = 0
list_in (suc k) l = cond (eqb (length (word l)) 0) 0 (2 ^ reg_named (word l) + list_in k (after l))
