-- What the row program answers for a row. Assumes nothing.
use Rattle.std.specs.Prelude.{Bool, cond, ◌&&◌, List, ◌++◌, ℕ, ◌+◌, eqb, ltb, length, take, drop, get_or, Option, Some, None}
use Rattle.text.specs.Text.{text}
use Rattle.text.specs.Digits.{dec, digit_value, value}
use Rattle.text.specs.Word.{all}
use Rattle.refusal.specs.Refusal.{number}
use Rattle.lines.specs.Answer.{Answer, refused, line}
use Rattle.arm7tdmi.specs.declared.Form.{Form}
use Rattle.arm7tdmi.specs.declared.Form.TheVariants.{Bench, Sheet}
use Rattle.arm_print.specs.Print.{arm_line}
use Rattle.thumb_print.specs.Print.{thumb_line}
use Rattle.row.specs.declared.Word.{Word}
use Rattle.row.specs.declared.Word.TheVariants.{Arm, Thumb}

-- a line, "or `!` and the refusal number"
unfoldable pub answer_text : Answer → List ℕ
answer_text (refused r) = text "!" ++ dec (number r)
answer_text (line bs) = bs

-- lowercase hexadecimal digits
unfoldable pub is_hex : List ℕ → Bool
is_hex l = all (λ x. ltb (digit_value x) 16) l

-- "each row is `a` or `t`, a space, eight lowercase hex digits of address, a space, eight (a) or four (t) digits of word"; `A` as `a`, `T` as `t`
abbrev pub address_digits : List ℕ → List ℕ
address_digits l = take 8 (drop 2 l)

abbrev pub word_digits : ℕ → List ℕ → List ℕ
word_digits n l = take n (drop 11 l)

unfoldable pub is_row : ℕ → ℕ → List ℕ → Bool
is_row letter n l =
    eqb (length l) (11 + n) && (eqb (get_or l 0 0) letter && (eqb (get_or l 1 0) 32 && (eqb (get_or l 10 0) 32 && (is_hex (address_digits l) && is_hex (word_digits n l)))))

-- "`a` and `t` print sheet lines", "`A` and `T` print bench lines": the form by the letter, small (byte 97 and above) or a capital
unfoldable pub row_form : List ℕ → Form
row_form l = cond (ltb (get_or l 0 0) 97) Bench Sheet

-- and the letters of a form's rows, of ARM and of Thumb: `a` is byte 97, `t` 116, `A` 65, `T` 84
unfoldable pub row_letters : Form → ℕ × ℕ
row_letters Sheet = (97, 116)
row_letters Bench = (65, 84)

-- "or `!0` for any other row"
unfoldable pub row_answer : List ℕ → List ℕ
row_answer l =
    let form = row_form l in
    cond (is_row (row_letters form).0 8 l) (answer_text (arm_line form (value 16 (address_digits l)) (value 16 (word_digits 8 l))))
    (cond (is_row (row_letters form).1 4 l) (answer_text (thumb_line form (value 16 (address_digits l)) (value 16 (word_digits 4 l)))) (text "!0"))

-- ---- for the contracts of inner functions
-- the number that digits write, and none where a byte is no digit
unfoldable pub hex_number : List ℕ → Option ℕ
hex_number l = cond (is_hex l) (Some (value 16 l)) None

-- the address and the word of a row
unfoldable pub fields_of : ℕ → ℕ → List ℕ → Option (ℕ × ℕ)
fields_of letter n l = cond (is_row letter n l) (Some (value 16 (address_digits l), value 16 (word_digits n l))) None

-- what is printed for a word of either set
unfoldable pub word_line : Form → ℕ → Word → Answer
word_line form address (Arm w) = arm_line form address w
word_line form address (Thumb w) = thumb_line form address w
