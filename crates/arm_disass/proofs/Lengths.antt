-- A line has from 5 to 80 bytes. Assumes nothing.
use Prim.Native.Nat.{ℕ}
use mathlib.Core.Bool.{◌&&◌, not}
use native.Mathlib.Omega.{arith}
use Rattle.std.proofs.Common.{Option, Some, None}
use Rattle.lines.proofs.Address.{address_within}
use Rattle.lines.proofs.Lengths.{cond_at_within, either_within, if_set_within, reg_at_within, registers_within}
use Rattle.arm7tdmi.specs.Alu.{alu_op_code, decode_rotated_immediate, is_move, is_setting_flags}
use Rattle.arm.specs.Fields.{branch_target, halfword_type, ldr_str_hs_imm_offset, ldr_str_hs_reg_offset, ldr_str_offset, operand2}
use Rattle.arm7tdmi.specs.Names.{reg_names, reg_string}
use Rattle.arm7tdmi.specs.declared.Form.{Form}
use Rattle.arm7tdmi.specs.declared.Form.TheVariants.{Bench, Sheet}
use Rattle.arm7tdmi.specs.declared.alu.AluOpCode.{AluOpCode}
use Rattle.arm7tdmi.specs.declared.alu.BarrelShifterValue.{BarrelShifterValue}
use Rattle.arm.specs.declared.ArmFormat.{ArmFormat}
use Rattle.arm_disass.specs.Line.{bx_cond, cond_mark, fmt_branch, fmt_bx, fmt_data_processing, fmt_halfword, fmt_ldm_stm, fmt_ldr_str, fmt_ldr_str_hs_imm_offset, fmt_ldr_str_hs_reg_offset, fmt_move, fmt_mrs, fmt_msr, fmt_msr_flags, fmt_mul_mla, fmt_mull_mlal, fmt_opcode, fmt_swi, fmt_swp, fmt_test, fmt_three, halfword_text, op_text, user_mark, line_of}
use Rattle.common.specs.Bits.{bit, bit_range}
use Rattle.text.proofs.Within.{Within, ◌&◌, exactly, loosely, none, of_two, or_none, prefixed_within}
use Rattle.text.specs.Text.{text}
use Rattle.arm7tdmi.specs.declared.alu.AluOpCode.TheVariants as Op
use Rattle.arm.specs.declared.ArmHalfwordTransferType.{ArmHalfwordTransferType}
use Rattle.arm.specs.declared.ArmHalfwordTransferType.TheVariants as Half
use Rattle.arm.specs.declared.ArmFormat.TheVariants as A
use Rattle.arm_operand.proofs.Lengths.{added, flags_within, operand, rd, rn_offset}

mark : (raw : ℕ) → Within 0 2 (cond_mark raw)
mark raw = cond_at_within raw 28 32

-- ---- lines
opcode : (op : AluOpCode) → Within 3 3 (op_text op)
unfolding op_text
opcode Op.AND = exactly (text "and")
opcode Op.EOR = exactly (text "eor")
opcode Op.SUB = exactly (text "sub")
opcode Op.RSB = exactly (text "rsb")
opcode Op.ADD = exactly (text "add")
opcode Op.ADC = exactly (text "adc")
opcode Op.SBC = exactly (text "sbc")
opcode Op.RSC = exactly (text "rsc")
opcode Op.TST = exactly (text "tst")
opcode Op.TEQ = exactly (text "teq")
opcode Op.CMP = exactly (text "cmp")
opcode Op.CMN = exactly (text "cmn")
opcode Op.ORR = exactly (text "orr")
opcode Op.MOV = exactly (text "mov")
opcode Op.BIC = exactly (text "bic")
opcode Op.MVN = exactly (text "mvn")

op_head : (form : Form) (raw : ℕ) (op : AluOpCode) → Within 8 17 (fmt_opcode form raw op)
unfolding fmt_opcode fmt_move fmt_test fmt_three
op_head form raw op =
    of_two (is_move op)
    (loosely (opcode op & if_set_within raw 20 (exactly (text "s")) & mark raw & exactly (text "\t") & rd form raw & exactly (text ", ")) (omega arith) (omega arith))
    (of_two (is_setting_flags op)
    (loosely (opcode op & mark raw & exactly (text "\t") & reg_at_within raw 16 20 (omega arith) & exactly (text ", ")) (omega arith) (omega arith))
    (loosely
    (opcode op & if_set_within raw 20 (exactly (text "s")) & mark raw & exactly (text "\t") & rd form raw & exactly (text ", ") & reg_at_within raw 16 20 (omega arith) & exactly (text ", "))
    (omega arith) (omega arith)))

halfword : (t : Option ArmHalfwordTransferType) → Within 0 2 (halfword_text t)
unfolding halfword_text
halfword None = none 2
halfword (Some Half.UnsignedHalfwords) = loosely (exactly (text "h")) (omega arith) (omega arith)
halfword (Some Half.SignedByte) = loosely (exactly (text "sb")) (omega arith) (omega arith)
halfword (Some Half.SignedHalfwords) = loosely (exactly (text "sh")) (omega arith) (omega arith)

half_line : (form : Form) (pc raw : ℕ) (o : BarrelShifterValue) → Within 5 80 (fmt_halfword form pc raw o)
unfolding fmt_halfword
half_line form pc raw o =
    loosely
    (either_within raw 20 (exactly (text "ldr")) (exactly (text "str")) & halfword (halfword_type raw) & mark raw & exactly (text "\t") & reg_at_within raw 12 16 (omega arith) & exactly (text ", ")
    & rn_offset form pc raw o)
    (omega arith) (omega arith)

user : (raw : ℕ) → Within 0 1 (user_mark raw)
unfolding user_mark
user raw = or_none (not (bit raw 24) && bit raw 21) (exactly (text "t"))

bx_cond_lem : (form : Form) (raw : ℕ) → Within 0 2 (bx_cond form raw)
unfolding bx_cond
bx_cond_lem Bench raw = none 2
bx_cond_lem Sheet raw = mark raw

ldm : (raw : ℕ) → Within 5 80 (fmt_ldm_stm raw)
unfolding fmt_ldm_stm reg_string reg_names
ldm raw =
    loosely
    (either_within raw 20 (exactly (text "ldm")) (exactly (text "stm")) & either_within raw 23 (exactly (text "i")) (exactly (text "d"))
    & either_within raw 24 (exactly (text "b")) (exactly (text "a"))
    & mark raw
    & exactly (text "\t")
    & reg_at_within raw 16 20 (omega arith)
    & if_set_within raw 21 (exactly (text "!"))
    & exactly (text ", {")
    & registers_within raw 16
    & exactly (text "}")
    & if_set_within raw 22 (exactly (text "^")))
    (omega arith) (omega arith)

-- document 01: "A line has from 5 to 80 bytes"
pub line_within : (form : Form) (fmt : ArmFormat) (pc raw : ℕ) → Within 5 80 (line_of form fmt pc raw)
unfolding line_of fmt_bx fmt_branch fmt_swi fmt_mul_mla fmt_mull_mlal fmt_ldr_str fmt_ldr_str_hs_reg_offset fmt_ldr_str_hs_imm_offset fmt_data_processing fmt_swp fmt_mrs fmt_msr fmt_msr_flags
line_within form A.BranchExchange pc raw = loosely (exactly (text "bx") & bx_cond_lem form raw & exactly (text "\t") & reg_at_within raw 0 4 (omega arith)) (omega arith) (omega arith)
line_within form A.BranchLink pc raw =
    loosely (exactly (text "b") & if_set_within raw 24 (exactly (text "l")) & mark raw & exactly (text "\t") & address_within form (branch_target pc raw))
    (omega arith) (omega arith)
line_within form A.SoftwareInterrupt pc raw =
    loosely (exactly (text "swi") & mark raw & exactly (text "\t#") & prefixed_within 1 (bit_range raw 0 24) (omega arith)) (omega arith) (omega arith)
line_within form A.Multiply pc raw =
    loosely
    (either_within raw 21 (exactly (text "mla")) (exactly (text "mul")) & if_set_within raw 20 (exactly (text "s")) & mark raw & exactly (text "\t") & reg_at_within raw 16 20 (omega arith)
    & exactly (text ", ")
    & reg_at_within raw 0 4 (omega arith)
    & exactly (text ", ")
    & reg_at_within raw 8 12 (omega arith)
    & added raw)
    (omega arith) (omega arith)
line_within form A.MultiplyLong pc raw =
    loosely
    (either_within raw 22 (exactly (text "s")) (exactly (text "u")) & either_within raw 21 (exactly (text "mlal")) (exactly (text "mull")) & if_set_within raw 20 (exactly (text "s"))
    & mark raw
    & exactly (text "\t")
    & reg_at_within raw 12 16 (omega arith)
    & exactly (text ", ")
    & reg_at_within raw 16 20 (omega arith)
    & exactly (text ", ")
    & reg_at_within raw 0 4 (omega arith)
    & exactly (text ", ")
    & reg_at_within raw 8 12 (omega arith))
    (omega arith) (omega arith)
line_within form A.SingleDataTransfer pc raw =
    loosely
    (either_within raw 20 (exactly (text "ldr")) (exactly (text "str")) & if_set_within raw 22 (exactly (text "b")) & user raw & mark raw & exactly (text "\t") & reg_at_within raw 12 16 (omega arith)
    & exactly (text ", ")
    & rn_offset form pc raw (ldr_str_offset raw))
    (omega arith) (omega arith)
line_within form A.HalfwordDataTransferRegOffset pc raw = half_line form pc raw (ldr_str_hs_reg_offset raw)
line_within form A.HalfwordDataTransferImmediateOffset pc raw = half_line form pc raw (ldr_str_hs_imm_offset raw)
line_within form A.DataProcessing pc raw = loosely (op_head form raw (alu_op_code (bit_range raw 21 25)) & operand form (operand2 raw)) (omega arith) (omega arith)
line_within form A.BlockDataTransfer pc raw = ldm raw
line_within form A.SingleDataSwap pc raw =
    loosely
    (exactly (text "swp") & if_set_within raw 22 (exactly (text "b")) & mark raw & exactly (text "\t") & reg_at_within raw 12 16 (omega arith) & exactly (text ", ") & reg_at_within raw 0 4 (omega arith)
    & exactly (text ", [")
    & reg_at_within raw 16 20 (omega arith)
    & exactly (text "]"))
    (omega arith) (omega arith)
line_within form A.MoveFromStatus pc raw =
    loosely
    (exactly (text "mrs") & mark raw & exactly (text "\t") & reg_at_within raw 12 16 (omega arith) & exactly (text ", ") & either_within raw 22 (exactly (text "SPSR")) (exactly (text "CPSR")))
    (omega arith) (omega arith)
line_within form A.MoveToStatus pc raw =
    loosely
    (exactly (text "msr") & mark raw & exactly (text "\t") & either_within raw 22 (exactly (text "SPSR")) (exactly (text "CPSR")) & exactly (text ", ") & operand form (operand2 raw))
    (omega arith) (omega arith)
line_within form A.MoveToFlags pc raw =
    loosely
    (exactly (text "msr") & mark raw & exactly (text "\t") & either_within raw 22 (exactly (text "SPSR_f")) (exactly (text "CPSR_f")) & exactly (text ", ") & operand form (operand2 raw)
    & flags_within (decode_rotated_immediate (operand2 raw)))
    (omega arith) (omega arith)
line_within form A.Undefined pc raw = loosely (exactly (text "<Undefined>")) (omega arith) (omega arith)
