-- The candidates of all kinds but data processing and transfers: the word that a line names; on any other line some number. The reader's plan; nothing of the promise rests on it. Assumes nothing.
use Rattle.std.specs.Prelude.{◌%◌, ◌*◌, ◌+◌, ◌-◌, ◌/◌, ◌^◌, ℕ, eqb, get_or, cond, not}
use Rattle.arm.specs.Kinds.{undefined_bits}
use Rattle.arm7tdmi.specs.declared.Form.TheVariants.{Bench, Sheet}
use Rattle.arm7tdmi.specs.declared.Form.{Form}
use Rattle.arm_candidate.specs.CandidateOperand.{operand_of}
use Rattle.arm_candidate.specs.CandidateParts.{Candidate}
use Rattle.reading.specs.Parts.{flag, hex_in, reg_in}
use Rattle.common.specs.Bits.{bit}
use Rattle.text.specs.Word.{behind, from_word, has}

-- ---- 1: b and bl. The field of a target is the way to it from the address plus 8, modulo 2 ^ 32, over four
unfoldable pub field_of : ℕ → ℕ → ℕ
field_of pc target = (target + 2 ^ 33 - pc - 8) % 2 ^ 32 / 4 % 2 ^ 24

unfoldable pub branch_cand : Candidate
branch_cand form pc b c l = c * 2 ^ 28 + 5 * 2 ^ 25 + b + field_of pc (hex_in 1 l)

-- ---- 2: bx. The bench shows no condition
abbrev pub cond_shown : Form → ℕ → ℕ
cond_shown Bench c = 0
cond_shown Sheet c = c

unfoldable pub bx_cand : Candidate
bx_cand form pc b c l = cond_shown form c * 2 ^ 28 + 0x012fff1 * 2 ^ 4 + reg_in 1 l

-- ---- 5: mrs. Bit 22 is set where there is no C, of CPSR
unfoldable pub mrs_cand : Candidate
mrs_cand form pc b c l = c * 2 ^ 28 + 0x010f * 2 ^ 16 + flag (not (has 67 l)) * 2 ^ 22 + reg_in 1 l * 2 ^ 12

-- ---- 6: msr. Bit 22 is set where S, of SPSR, stands behind the tab (a comment may have a C); with `_` it is the flags alone, any operand 2 behind
-- the word `f`, else a register
unfoldable pub msr_cand : Candidate
msr_cand form pc b c l =
    c * 2 ^ 28 + 0x0128f * 2 ^ 12 + flag (eqb (get_or (behind l) 1 0) 83) * 2 ^ 22 + cond (has 95 l) (operand_of (from_word 2 l)) (2 ^ 16 + reg_in 1 l)

-- ---- 7: mul and mla. mla has a fourth register
unfoldable pub mul_cand : Candidate
mul_cand form pc b c l =
    c * 2 ^ 28 + b + reg_in 1 l * 2 ^ 16 + cond (bit b 21) (reg_in 4 l) 0 * 2 ^ 12 + reg_in 3 l * 2 ^ 8 + 9 * 2 ^ 4 + reg_in 2 l

-- ---- 8: mull and mlal
unfoldable pub mull_cand : Candidate
mull_cand form pc b c l = c * 2 ^ 28 + 2 ^ 23 + b + reg_in 2 l * 2 ^ 16 + reg_in 1 l * 2 ^ 12 + reg_in 4 l * 2 ^ 8 + 9 * 2 ^ 4 + reg_in 3 l

-- ---- 10: swi
unfoldable pub swi_cand : Candidate
swi_cand form pc b c l = c * 2 ^ 28 + 15 * 2 ^ 24 + hex_in 1 l

-- ---- 11: swp
unfoldable pub swp_cand : Candidate
swp_cand form pc b c l = c * 2 ^ 28 + 2 ^ 24 + b + reg_in 3 l * 2 ^ 16 + reg_in 1 l * 2 ^ 12 + 9 * 2 ^ 4 + reg_in 2 l

-- ---- 12: no mnemonic
unfoldable pub undefined_cand : Candidate
undefined_cand form pc b c l = undefined_bits form
