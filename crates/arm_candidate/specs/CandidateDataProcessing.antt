-- Data processing: the candidate of a line, the word that it names; on any other line some number. The reader's plan; nothing of the promise rests on it. Assumes nothing.
use Rattle.std.specs.Prelude.{◌%◌, ◌*◌, ◌+◌, ◌/◌, ◌^◌, ℕ, eqb, Bool, ◌&&◌, ◌||◌, cond, false, not, true, List}
use Rattle.arm7tdmi.specs.declared.Form.TheVariants.{Bench, Sheet}
use Rattle.arm7tdmi.specs.declared.Form.{Form}
use Rattle.arm_candidate.specs.CandidateOperand.{operand_of}
use Rattle.arm_candidate.specs.CandidateParts.{Candidate}
use Rattle.reading.specs.Parts.{flag, reg_in}
use Rattle.text.specs.Word.{from_word}

-- tst, teq, cmp and cmn; mov and mvn; and the others, with three operands
abbrev pub is_test : ℕ → Bool
is_test op = eqb (op / 4) 2

abbrev pub is_move : ℕ → Bool
is_move op = eqb (op / 4) 3 && eqb (op % 2) 1

abbrev pub is_three : ℕ → Bool
is_three op = not (is_test op || is_move op)

-- the first register is Rd on the sheet, but of a test it is Rn, as on the bench
abbrev pub shows_rd : Form → ℕ → Bool
shows_rd Bench op = false
shows_rd Sheet op = not (is_test op)

abbrev pub rn_in : Form → ℕ → List ℕ → ℕ
rn_in form op l = cond (is_three op) (reg_in 2 l) (cond (shows_rd form op) 0 (reg_in 1 l))

abbrev pub rd_in : Form → ℕ → List ℕ → ℕ
rd_in form op l = cond (shows_rd form op) (reg_in 1 l) 0

abbrev pub operand_in : ℕ → List ℕ → ℕ
operand_in op l = operand_of (cond (is_three op) (from_word 3 l) (from_word 2 l))

-- a test that is mrs, where its S is clear: Rn is pc, and bits 25, 21 and 11-0 are clear
abbrev pub is_mrs : ℕ → ℕ → ℕ → Bool
is_mrs op rn y = eqb (op % 2) 0 && (eqb rn 15 && eqb y 0)

-- S of a test: on the bench it is clear, unless that word is mrs; on the sheet it is set (S11)
abbrev pub test_s : Form → ℕ → ℕ → ℕ → Bool
test_s Bench op rn y = is_mrs op rn y
test_s Sheet op rn y = true

-- from the condition, the bits of the head, their opcode, Rn, Rd and operand 2 with its bit 25
unfoldable pub dp_from : Form → ℕ → ℕ → ℕ → ℕ → ℕ → ℕ → ℕ
dp_from form c b op rn rd y = c * 2 ^ 28 + b + flag (is_test op && test_s form op rn y) * 2 ^ 20 + rn * 2 ^ 16 + rd * 2 ^ 12 + y

unfoldable pub dp_cand : Candidate
dp_cand form pc b c l = dp_from form c b (b / 2 ^ 21) (rn_in form (b / 2 ^ 21) l) (rd_in form (b / 2 ^ 21) l) (operand_in (b / 2 ^ 21) l)
