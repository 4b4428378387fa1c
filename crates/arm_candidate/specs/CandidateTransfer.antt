-- The candidates of transfers: the word that a line names, from its words and marks; some number on anything else. The reader's plan; nothing of the promise rests on it. Assumes nothing.
use Rattle.std.specs.Prelude.{◌%◌, ◌*◌, ◌+◌, ◌/◌, ◌^◌, ℕ, eqb, ltb, get_or, Bool, cond, false, not, List}
use Rattle.arm7tdmi.specs.declared.Form.TheVariants.{Bench, Sheet}
use Rattle.arm7tdmi.specs.declared.Form.{Form}
use Rattle.arm_operand.specs.Operand.{magnitude}
use Rattle.arm_candidate.specs.CandidateOperand.{is_number, shifted_of}
use Rattle.arm_candidate.specs.CandidateParts.{Candidate}
use Rattle.reading.specs.Parts.{flag, list_in, reg_in}
use Rattle.common.specs.Bits.{bit_range}
use Rattle.text.specs.Digits.{value}
use Rattle.text.specs.Word.{behind, from_word, has, word}

-- ---- ldm and stm
-- "at most sixteen deep"; `^` and `!` stand nowhere else in the line
unfoldable pub ldm_cand : Candidate
ldm_cand form pc b c l = c * 2 ^ 28 + 2 ^ 27 + b + flag (has 94 l) * 2 ^ 22 + flag (has 33 l) * 2 ^ 21 + reg_in 1 l * 2 ^ 16 + list_in 16 (from_word 2 l)

-- ---- ldr, str and halfword transfers: "{mnemonic}\t{Rd}, [{Rn}, {offset}]{!}" or "{mnemonic}\t{Rd}, [{Rn}], {offset}", the offset's first word is word 3
-- a comma stands behind Rn where the offset is within the brackets
abbrev pub indexed_in : List ℕ → Bool
indexed_in l = eqb (get_or (behind (from_word 2 l)) 0 0) 44

-- bits 24-12: those of the mnemonic, P, W, Rn and Rd
unfoldable pub base_in : ℕ → List ℕ → ℕ
base_in b l = b + flag (indexed_in l) * 2 ^ 24 + flag (has 33 l) * 2 ^ 21 + reg_in 2 l * 2 ^ 16 + reg_in 1 l * 2 ^ 12

-- a number as offset, v: whether it is added, and its size. On the bench a large number is one subtracted, and zero is what z says; on the sheet `-` says it
unfoldable pub is_added : Form → Bool → Bool → ℕ → Bool
is_added Bench z minus v = cond (eqb v 0) z (ltb v (2 ^ 12))
is_added Sheet z minus v = not minus

unfoldable pub size_of : Form → Bool → ℕ → ℕ
size_of Bench up v = cond up v (magnitude v)
size_of Sheet up v = v

abbrev pub added_in : Form → Bool → List ℕ → Bool
added_in form z l = is_added form z (has 45 l) (value 10 (word (from_word 3 l)))

abbrev pub size_in : Form → Bool → List ℕ → ℕ
size_in form z l = size_of form (added_in form z l) (value 10 (word (from_word 3 l)))

-- a register as offset: `-` says that it is subtracted
abbrev pub register_added : List ℕ → ℕ
register_added l = flag (not (has 45 l)) * 2 ^ 23

-- U and the offset of ldr and str: the lowest word has U clear where nothing says it
unfoldable pub ldr_offset : Form → List ℕ → ℕ
ldr_offset form l =
    cond (is_number (word (from_word 3 l))) (flag (added_in form false l) * 2 ^ 23 + size_in form false l % 2 ^ 12) (2 ^ 25 + register_added l + shifted_of (from_word 3 l))

unfoldable pub ldr_cand : Candidate
ldr_cand form pc b c l = c * 2 ^ 28 + 2 ^ 26 + base_in b l + ldr_offset form l

-- of a halfword transfer: its number is of two digits. Where bits 24-12 are those of a move to flags, U set tells it from that
abbrev pub as_flags : ℕ → List ℕ → Bool
as_flags b l = eqb (base_in b l / 2 ^ 12) 0x128f

unfoldable pub half_offset : Form → Bool → List ℕ → ℕ
half_offset form z l =
    cond (is_number (word (from_word 3 l)))
    (2 ^ 22 + flag (added_in form z l) * 2 ^ 23 + bit_range (size_in form z l) 4 8 * 2 ^ 8 + bit_range (size_in form z l) 0 4)
    (register_added l + reg_in 3 l)

unfoldable pub half_cand : Candidate
half_cand form pc b c l = c * 2 ^ 28 + 9 * 2 ^ 4 + base_in b l + half_offset form (as_flags b l) l
