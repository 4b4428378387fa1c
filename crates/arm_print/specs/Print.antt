-- Print ARM: the refusals and the line of a word, at an address, in a form. Assumes nothing.
use Rattle.std.specs.Prelude.{Bool, true, false, cond, ◌&&◌, ◌||◌, not, ℕ, eqb, leb, List, Option, Some, None}
use Rattle.common.specs.Bits.{bit, bit_range}
use Rattle.arm.specs.Kinds.{arm_format, arm_number}
use Rattle.lines.specs.Answer.{Answer, refused, line}
use Rattle.refusal.specs.declared.Refusal.{Refusal}
use Rattle.refusal.specs.declared.Refusal.TheVariants.{NoCondition, NoTransfer, NoFlags}
use Rattle.arm7tdmi.specs.declared.Form.{Form}
use Rattle.arm7tdmi.specs.declared.Form.TheVariants.{Bench, Sheet}
use Rattle.arm.specs.declared.ArmFormat.{ArmFormat}
use Rattle.arm.specs.declared.ArmFormat.TheVariants as A
use Rattle.arm_disass.specs.Line.{line_of}

-- "the kind prints a condition (bench: all but BranchExchange and Undefined; sheet: all but Undefined)"
abbrev pub bx_prints_cond : Form → Bool
bx_prints_cond Bench = false
bx_prints_cond Sheet = true

abbrev pub prints_cond : Form → ArmFormat → Bool
prints_cond form A.BranchExchange = bx_prints_cond form
prints_cond form A.BranchLink = true
prints_cond form A.SoftwareInterrupt = true
prints_cond form A.Multiply = true
prints_cond form A.MultiplyLong = true
prints_cond form A.SingleDataTransfer = true
prints_cond form A.HalfwordDataTransferRegOffset = true
prints_cond form A.HalfwordDataTransferImmediateOffset = true
prints_cond form A.DataProcessing = true
prints_cond form A.BlockDataTransfer = true
prints_cond form A.SingleDataSwap = true
prints_cond form A.MoveFromStatus = true
prints_cond form A.MoveToStatus = true
prints_cond form A.MoveToFlags = true
prints_cond form A.Undefined = false

-- whether a kind is another, by their numbers
abbrev is_kind : ArmFormat → ArmFormat → Bool
is_kind fmt k = eqb (arm_number fmt) (arm_number k)

-- "a halfword-transfer kind"
abbrev pub is_halfword : ArmFormat → Bool
is_halfword fmt = is_kind fmt A.HalfwordDataTransferRegOffset || is_kind fmt A.HalfwordDataTransferImmediateOffset

-- "a data-processing word"
abbrev pub is_data_processing : ArmFormat → Bool
is_data_processing fmt = is_kind fmt A.DataProcessing

-- "with opcode 1000 to 1011": tst, teq, cmp and cmn
abbrev pub is_test_opcode : ℕ → Bool
is_test_opcode opcode = leb 8 opcode && leb opcode 11

-- "In sheet form .. Bench lines accept them as before."
abbrev pub refuses_tests : Form → Bool
refuses_tests Bench = false
refuses_tests Sheet = true

-- "1, condition bits 31-28 are 1111 and the kind prints a condition"
abbrev pub lacks_cond : Form → ArmFormat → ℕ → Bool
lacks_cond form fmt raw = prints_cond form fmt && eqb (bit_range raw 28 32) 15

-- "2, a halfword-transfer kind with bits 6-5 zero"
abbrev pub lacks_type : ArmFormat → ℕ → Bool
lacks_type fmt raw = is_halfword fmt && eqb (bit_range raw 5 7) 0

-- S11: 9, "In sheet form, a data-processing word with opcode 1000 to 1011 and bit 20 clear"
abbrev pub lacks_flags : Form → ArmFormat → ℕ → Bool
lacks_flags form fmt raw = is_data_processing fmt && (refuses_tests form && (is_test_opcode (bit_range raw 21 25) && not (bit raw 20)))

-- the refusals of a word, "in order: 1, 2", and 9 "after 1 and before 3"; the buffer's 3 comes last (`printed`)
unfoldable pub refusal_of : Form → ArmFormat → ℕ → Option Refusal
refusal_of form fmt raw =
    cond (lacks_cond form fmt raw) (Some NoCondition)
    (cond (lacks_type fmt raw) (Some NoTransfer)
    (cond (lacks_flags form fmt raw) (Some NoFlags) None))

-- a refusal, or the line
abbrev pub line_unless : Option Refusal → List ℕ → Answer
line_unless (Some r) t = refused r
line_unless None t = line t

unfoldable pub answer_of : Form → ArmFormat → ℕ → ℕ → Answer
answer_of form fmt pc raw = line_unless (refusal_of form fmt raw) (line_of form fmt pc raw)

unfoldable pub arm_line : Form → ℕ → ℕ → Answer
arm_line form pc raw = answer_of form (arm_format form raw) pc raw
