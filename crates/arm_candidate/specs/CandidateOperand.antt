-- Operand 2, and a shifted register as an offset, from the words of a line; some number on anything else. The reader's plan; nothing of the promise rests on it. Assumes nothing.
use Rattle.std.specs.Prelude.{◌*◌, ◌+◌, ◌-◌, ◌^◌, ℕ, eqb, ltb, get_or, length, Bool, cond, List, [], ◌∷◌}
use Rattle.arm7tdmi.specs.Alu.{rotate_right}
use Rattle.arm7tdmi.specs.Names.{reg_named}
use Rattle.reading.specs.Parts.{amount_field, reg_in}
use Rattle.common.specs.Lists.{place}
use Rattle.common.specs.Lowest.{lowest}
use Rattle.text.specs.Digits.{value}
use Rattle.text.specs.Text.{text}
use Rattle.text.specs.Word.{after, from_word, word}

-- ---- a shifted register: "{reg}, {shift} #{amount}", "{reg}, {shift} {reg}", "{reg}, rrx", "{reg}"
-- the shifts in the order of their numbers, then RRX, and which of them a word names, or 5
unfoldable pub shift_names : List (List ℕ)
shift_names = text "lsl" ∷ text "lsr" ∷ text "asr" ∷ text "ror" ∷ text "rrx" ∷ []

unfoldable pub shift_named : List ℕ → ℕ
shift_named t = place shift_names t

-- a word that begins with a digit
abbrev pub is_number : List ℕ → Bool
is_number t = ltb (get_or t 0 0) 58

-- an amount of five bits, or a register
abbrev pub by_named : List ℕ → ℕ
by_named t = cond (is_number t) (amount_field (value 10 t) * 2 ^ 7) (2 ^ 4 + reg_named t * 2 ^ 8)

-- the shift that a word names, and by how much; RRX is ROR #0
unfoldable pub shift_of : List ℕ → List ℕ → ℕ
shift_of t by = cond (eqb (shift_named t) 4) (3 * 2 ^ 5) (shift_named t * 2 ^ 5 + by_named by)

-- the twelve bits of the shifted register that a line begins with
unfoldable pub shifted_of : List ℕ → ℕ
shifted_of l = reg_in 0 l + cond (eqb (length (word (after l))) 0) 0 (shift_of (word (after l)) (word (from_word 2 l)))

-- ---- an immediate: the lowest rotation, of sixteen, that turns eight bits into the number; and the twelve bits with it, or 0 where there is none
abbrev pub turned_back : ℕ → ℕ → ℕ
turned_back v r = rotate_right v (32 - 2 * r)

unfoldable pub rotation_of : ℕ → ℕ
rotation_of v = lowest (λ r. ltb (turned_back v r) 256) 16

unfoldable pub immediate_of : ℕ → ℕ
immediate_of v = cond (ltb (rotation_of v) 16) (rotation_of v * 2 ^ 8 + turned_back v (rotation_of v)) 0

-- ---- the operand 2 that a line begins with: bit 25, and the twelve bits
unfoldable pub operand_of : List ℕ → ℕ
operand_of l = cond (is_number (word l)) (2 ^ 25 + immediate_of (value 10 (word l))) (shifted_of l)
