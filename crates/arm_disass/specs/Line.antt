-- The lines of ARM words, bench and sheet: one definition for each `fmt_` function of the Rust's arm/disass.rs, in its order, with the Rust's
-- format beside it. The form stands where the sheet line differs: S3 of document 01 (S1, S4 and S10 are an operand's, S2 the kind's), and S9
-- where an address is shown. Assumes nothing.
use Rattle.std.specs.Prelude.{cond, ◌&&◌, not, List, [], ◌++◌, ℕ, Option, Some, None}
use Rattle.common.specs.Bits.{bit, bit_range}
use Rattle.text.specs.Text.{text}
use Rattle.text.specs.Digits.{prefixed}
use Rattle.lines.specs.Address.{address}
use Rattle.lines.specs.Pieces.{reg_at, cond_at, either, if_set, registers}
use Rattle.arm7tdmi.specs.Alu.{alu_op_code, is_move, is_setting_flags, decode_rotated_immediate}
use Rattle.arm.specs.Fields.{branch_target, operand2, ldr_str_offset, ldr_str_hs_imm_offset, ldr_str_hs_reg_offset, halfword_type}
use Rattle.arm7tdmi.specs.declared.Form.{Form}
use Rattle.arm7tdmi.specs.declared.Form.TheVariants.{Bench, Sheet}
use Rattle.arm7tdmi.specs.declared.alu.AluOpCode.{AluOpCode}
use Rattle.arm7tdmi.specs.declared.alu.AluOpCode.TheVariants as Op
use Rattle.arm7tdmi.specs.declared.alu.BarrelShifterValue.{BarrelShifterValue}
use Rattle.arm.specs.declared.ArmHalfwordTransferType.{ArmHalfwordTransferType}
use Rattle.arm.specs.declared.ArmHalfwordTransferType.TheVariants as Half
use Rattle.arm_operand.specs.Operand.{fmt_operand2, fmt_rn_offset, rd_text, added_register, flags_comment}
use Rattle.arm.specs.declared.ArmFormat.{ArmFormat}
use Rattle.arm.specs.declared.ArmFormat.TheVariants as A

-- the condition of a word
abbrev pub cond_mark : ℕ → List ℕ
cond_mark raw = cond_at raw 28 32

-- ---- AluOpCode, ArmHalfwordTransferType
unfoldable pub op_text : AluOpCode → List ℕ
op_text Op.AND = text "and"
op_text Op.EOR = text "eor"
op_text Op.SUB = text "sub"
op_text Op.RSB = text "rsb"
op_text Op.ADD = text "add"
op_text Op.ADC = text "adc"
op_text Op.SBC = text "sbc"
op_text Op.RSC = text "rsc"
op_text Op.TST = text "tst"
op_text Op.TEQ = text "teq"
op_text Op.CMP = text "cmp"
op_text Op.CMN = text "cmn"
op_text Op.ORR = text "orr"
op_text Op.MOV = text "mov"
op_text Op.BIC = text "bic"
op_text Op.MVN = text "mvn"

unfoldable pub halfword_text : Option ArmHalfwordTransferType → List ℕ
halfword_text None = []
halfword_text (Some Half.UnsignedHalfwords) = text "h"
halfword_text (Some Half.SignedByte) = text "sb"
halfword_text (Some Half.SignedHalfwords) = text "sh"

-- ---- fmt_bx: "bx\t{Rn}". S3: "`bx` prints its condition"
unfoldable pub bx_cond : Form → ℕ → List ℕ
bx_cond Bench raw = []
bx_cond Sheet raw = cond_mark raw

unfoldable pub fmt_bx : Form → ℕ → List ℕ
fmt_bx form raw = text "bx" ++ bx_cond form raw ++ text "\t" ++ reg_at raw 0 4

-- ---- fmt_branch: "b{link}{cond}\t{ofs:#x}"
unfoldable pub fmt_branch : Form → ℕ → ℕ → List ℕ
fmt_branch form pc raw = text "b" ++ if_set raw 24 (text "l") ++ cond_mark raw ++ text "\t" ++ address form (branch_target pc raw)

-- ---- fmt_data_processing: "{opcode}{S}{cond}\t{Rd}, "
unfoldable pub fmt_move : Form → ℕ → AluOpCode → List ℕ
fmt_move form raw op = op_text op ++ if_set raw 20 (text "s") ++ cond_mark raw ++ text "\t" ++ rd_text form raw ++ text ", "

-- "{opcode}{cond}\t{Rn}, "
unfoldable pub fmt_test : ℕ → AluOpCode → List ℕ
fmt_test raw op = op_text op ++ cond_mark raw ++ text "\t" ++ reg_at raw 16 20 ++ text ", "

-- "{opcode}{S}{cond}\t{Rd}, {Rn}, "
unfoldable pub fmt_three : Form → ℕ → AluOpCode → List ℕ
fmt_three form raw op =
    op_text op ++ if_set raw 20 (text "s") ++ cond_mark raw ++ text "\t" ++ rd_text form raw ++ text ", " ++ reg_at raw 16 20 ++ text ", "

unfoldable pub fmt_opcode : Form → ℕ → AluOpCode → List ℕ
fmt_opcode form raw op = cond (is_move op) (fmt_move form raw op) (cond (is_setting_flags op) (fmt_test raw op) (fmt_three form raw op))

unfoldable pub fmt_data_processing : Form → ℕ → List ℕ
fmt_data_processing form raw = fmt_opcode form raw (alu_op_code (bit_range raw 21 25)) ++ fmt_operand2 form (operand2 raw)

-- ---- fmt_ldr_str: "{mnem}{B}{T}{cond}\t{Rd}, "; "`t` where P is clear and W set"
unfoldable pub user_mark : ℕ → List ℕ
user_mark raw = cond (not (bit raw 24) && bit raw 21) (text "t") []

unfoldable pub fmt_ldr_str : Form → ℕ → ℕ → List ℕ
fmt_ldr_str form pc raw =
    either raw 20 (text "ldr") (text "str") ++ if_set raw 22 (text "b") ++ user_mark raw ++ cond_mark raw ++ text "\t" ++ reg_at raw 12 16 ++ text ", "
    ++ fmt_rn_offset form pc raw (ldr_str_offset raw)

-- ---- fmt_ldm_stm: "{mnem}{inc_dec}{pre_post}{cond}\t{Rn}{auto_inc}, {", the registers, "}{^}"
unfoldable pub fmt_ldm_stm : ℕ → List ℕ
fmt_ldm_stm raw =
    either raw 20 (text "ldm") (text "stm") ++ either raw 23 (text "i") (text "d") ++ either raw 24 (text "b") (text "a") ++ cond_mark raw ++ text "\t"
    ++ reg_at raw 16 20
    ++ if_set raw 21 (text "!")
    ++ text ", {"
    ++ registers raw 16
    ++ text "}"
    ++ if_set raw 22 (text "^")

-- ---- fmt_mrs: "mrs{cond}\t{Rd}, {psr}"
unfoldable pub fmt_mrs : ℕ → List ℕ
fmt_mrs raw = text "mrs" ++ cond_mark raw ++ text "\t" ++ reg_at raw 12 16 ++ text ", " ++ either raw 22 (text "SPSR") (text "CPSR")

-- ---- fmt_msr: "msr{cond}\t{psr}, ", operand 2
unfoldable pub fmt_msr : Form → ℕ → List ℕ
fmt_msr form raw = text "msr" ++ cond_mark raw ++ text "\t" ++ either raw 22 (text "SPSR") (text "CPSR") ++ text ", " ++ fmt_operand2 form (operand2 raw)

-- ---- fmt_msr_flags: "msr{cond}\t{psr}, ", operand 2, and of an immediate the flags
unfoldable pub fmt_msr_flags : Form → ℕ → List ℕ
fmt_msr_flags form raw =
    text "msr" ++ cond_mark raw ++ text "\t" ++ either raw 22 (text "SPSR_f") (text "CPSR_f") ++ text ", " ++ fmt_operand2 form (operand2 raw)
    ++ flags_comment (decode_rotated_immediate (operand2 raw))

-- ---- fmt_mul_mla: "mla{S}{cond}\t{Rd}, {Rm}, {Rs}, {Rn}", "mul{S}{cond}\t{Rd}, {Rm}, {Rs}"
unfoldable pub fmt_mul_mla : ℕ → List ℕ
fmt_mul_mla raw =
    either raw 21 (text "mla") (text "mul") ++ if_set raw 20 (text "s") ++ cond_mark raw ++ text "\t" ++ reg_at raw 16 20 ++ text ", " ++ reg_at raw 0 4
    ++ text ", "
    ++ reg_at raw 8 12
    ++ added_register raw

-- ---- fmt_mull_mlal: "{sign}{mnem}{S}{cond}\t{RdLo}, {RdHi}, {Rm}, {Rs}"
unfoldable pub fmt_mull_mlal : ℕ → List ℕ
fmt_mull_mlal raw =
    either raw 22 (text "s") (text "u") ++ either raw 21 (text "mlal") (text "mull") ++ if_set raw 20 (text "s") ++ cond_mark raw ++ text "\t"
    ++ reg_at raw 12 16
    ++ text ", "
    ++ reg_at raw 16 20
    ++ text ", "
    ++ reg_at raw 0 4
    ++ text ", "
    ++ reg_at raw 8 12

-- ---- fmt_ldr_str_hs_imm_offset, fmt_ldr_str_hs_reg_offset: "{mnem}{type}{cond}\t{Rd}, "
unfoldable pub fmt_halfword : Form → ℕ → ℕ → BarrelShifterValue → List ℕ
fmt_halfword form pc raw o =
    either raw 20 (text "ldr") (text "str") ++ halfword_text (halfword_type raw) ++ cond_mark raw ++ text "\t" ++ reg_at raw 12 16 ++ text ", "
    ++ fmt_rn_offset form pc raw o

unfoldable pub fmt_ldr_str_hs_imm_offset : Form → ℕ → ℕ → List ℕ
fmt_ldr_str_hs_imm_offset form pc raw = fmt_halfword form pc raw (ldr_str_hs_imm_offset raw)

unfoldable pub fmt_ldr_str_hs_reg_offset : Form → ℕ → ℕ → List ℕ
fmt_ldr_str_hs_reg_offset form pc raw = fmt_halfword form pc raw (ldr_str_hs_reg_offset raw)

-- ---- fmt_swi: "swi{cond}\t#{comm:#x}"
unfoldable pub fmt_swi : ℕ → List ℕ
fmt_swi raw = text "swi" ++ cond_mark raw ++ text "\t#" ++ prefixed 1 (bit_range raw 0 24)

-- ---- fmt_swp: "swp{B}{cond}\t{Rd}, {Rm}, [{Rn}]"
unfoldable pub fmt_swp : ℕ → List ℕ
fmt_swp raw =
    text "swp" ++ if_set raw 22 (text "b") ++ cond_mark raw ++ text "\t" ++ reg_at raw 12 16 ++ text ", " ++ reg_at raw 0 4 ++ text ", [" ++ reg_at raw 16 20
    ++ text "]"

-- ---- the line of a word of a kind
unfoldable pub line_of : Form → ArmFormat → ℕ → ℕ → List ℕ
line_of form A.BranchExchange pc raw = fmt_bx form raw
line_of form A.BranchLink pc raw = fmt_branch form pc raw
line_of form A.SoftwareInterrupt pc raw = fmt_swi raw
line_of form A.Multiply pc raw = fmt_mul_mla raw
line_of form A.MultiplyLong pc raw = fmt_mull_mlal raw
line_of form A.SingleDataTransfer pc raw = fmt_ldr_str form pc raw
line_of form A.HalfwordDataTransferRegOffset pc raw = fmt_ldr_str_hs_reg_offset form pc raw
line_of form A.HalfwordDataTransferImmediateOffset pc raw = fmt_ldr_str_hs_imm_offset form pc raw
line_of form A.DataProcessing pc raw = fmt_data_processing form raw
line_of form A.BlockDataTransfer pc raw = fmt_ldm_stm raw
line_of form A.SingleDataSwap pc raw = fmt_swp raw
line_of form A.MoveFromStatus pc raw = fmt_mrs raw
line_of form A.MoveToStatus pc raw = fmt_msr form raw
line_of form A.MoveToFlags pc raw = fmt_msr_flags form raw
line_of form A.Undefined pc raw = text "<Undefined>"
