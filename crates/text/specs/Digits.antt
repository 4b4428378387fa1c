-- Numbers as digits, and the number that digits write. Assumes nothing.
use Rattle.std.specs.Prelude.{cond, List, [], ◌∷◌, ◌++◌, ℕ, zero, suc, ◌+◌, ◌*◌, ◌-◌, ◌/◌, ◌%◌, ◌^◌, eqb, get_or}
use Rattle.common.specs.Lists.{find}
use Rattle.text.specs.Text.{text}

-- the digits, in the order of their values; lower case
abbrev pub digit_names : List ℕ
digit_names = text "0123456789abcdef"

-- a digit's byte, and a byte's value as a digit: 16 where it is none
abbrev pub digit : ℕ → ℕ
digit d = get_or digit_names d 0

unfoldable pub digit_value : ℕ → ℕ
digit_value x = find x digit_names

-- the digits of n in base b, the highest first: as many as n has, at least w of them, at most k
unfoldable pub digits : ℕ → ℕ → ℕ → ℕ → List ℕ
digits b zero w n = []
digits b (suc k) w n = cond (eqb (n + w) 0) [] (digits b k (w - 1) (n / b) ++ (digit (n % b) ∷ []))

-- a number of 32 bits in hexadecimal, at least w digits; it has at most 8
unfoldable pub hex : ℕ → ℕ → List ℕ
hex w n = digits 16 8 w n

-- the same with `0x` before it
unfoldable pub prefixed : ℕ → ℕ → List ℕ
prefixed w n = text "0x" ++ hex w n

-- a number of 32 bits in decimal; it has at most 10 digits
unfoldable pub dec : ℕ → List ℕ
dec n = digits 10 10 1 n

-- the number that digits write in base b behind a number v, modulo 2 ^ 32
unfoldable pub value_from : ℕ → ℕ → List ℕ → ℕ
value_from b v [] = v
value_from b v (x ∷ xs) = value_from b ((v * b + digit_value x) % 2 ^ 32) xs

abbrev pub value : ℕ → List ℕ → ℕ
value b l = value_from b 0 l
