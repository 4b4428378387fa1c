-- "A line has from 5 to 80 bytes." Assumes nothing.
use mathlib.Core.List.{◌++◌}
use Prim.Native.Nat.{ℕ, ◌*◌}
use native.Mathlib.Omega.{arith}
use Rattle.common.specs.Bits.{bit, bit_range}
use Rattle.text.specs.Text.{text}
use Rattle.text.specs.Digits.{prefixed}
use Rattle.text.proofs.Within.{Within, ◌&◌, exactly, loosely, of_two, dec_within, prefixed_within}
use Rattle.arm7tdmi.specs.Names.{reg_string, reg_names}
use Rattle.lines.specs.Pieces.{reg_at, either, registers}
use Rattle.arm7tdmi.specs.Alu.{barrel_shift_op_code}
use Rattle.thumb.specs.Fields.{op_format3, op_format5, thumb_alu_op, word8, pc_load_address, bcond_target, branch_target, call_half}
use Rattle.arm7tdmi.specs.declared.Form.{Form}
use Rattle.arm7tdmi.specs.declared.alu.BarrelShiftOpCode.{BarrelShiftOpCode}
use Rattle.arm7tdmi.specs.declared.alu.BarrelShiftOpCode.TheVariants as Shift
use Rattle.thumb.specs.declared.OpFormat3.{OpFormat3}
use Rattle.thumb.specs.declared.OpFormat3.TheVariants as Three
use Rattle.thumb.specs.declared.OpFormat5.{OpFormat5}
use Rattle.thumb.specs.declared.OpFormat5.TheVariants as Five
use Rattle.thumb.specs.declared.ThumbAluOps.{ThumbAluOps}
use Rattle.thumb.specs.declared.ThumbAluOps.TheVariants as Op
use Rattle.thumb.specs.declared.ThumbFormat.{ThumbFormat}
use Rattle.thumb.specs.declared.ThumbFormat.TheVariants as H
use Rattle.arm7tdmi.proofs.Names.{reg_within}
use Rattle.lines.proofs.Address.{address_within}
use Rattle.lines.proofs.Lengths.{reg_at_within, cond_at_within, either_within, if_set_within, registers_within}
use Rattle.thumb_disass.specs.Line as L
use Rattle.thumb_disass.specs.Line.{line_of}
use Rattle.thumb_operand.specs.Operand.{src_reg, high_operands, imm_offset}
use Rattle.thumb_operand.proofs.Lengths.{src, dst_and_src_lem, add_sub_operand_lem, sp_offset_lem, push_pop, base}

-- ---- pieces
-- the registers in the fields of three bits
rd : (raw : ℕ) → Within 2 3 (reg_at raw 0 3)
rd raw = reg_at_within raw 0 3 (omega arith)

rs : (raw : ℕ) → Within 2 3 (reg_at raw 3 6)
rs raw = reg_at_within raw 3 6 (omega arith)

ro : (raw : ℕ) → Within 2 3 (reg_at raw 6 9)
ro raw = reg_at_within raw 6 9 (omega arith)

high_rd : (raw : ℕ) → Within 2 3 (reg_at raw 8 11)
high_rd raw = reg_at_within raw 8 11 (omega arith)

number : (n : ℕ) → Within 3 10 (prefixed 1 n)
number n = prefixed_within 1 n (omega arith)

-- the registers of a list
list : (raw : ℕ) → Within 0 30 (registers raw 8)
unfolding reg_string reg_names
list raw = registers_within raw 8

-- ---- operations
shift : (op : BarrelShiftOpCode) → Within 3 3 (L.shift_text op)
unfolding L.shift_text
shift Shift.LSL = exactly (text "LSL")
shift Shift.LSR = exactly (text "LSR")
shift Shift.ASR = exactly (text "ASR")
shift Shift.ROR = exactly (text "ROR")

op3 : (op : OpFormat3) → Within 3 3 (L.op3_text op)
unfolding L.op3_text
op3 Three.MOV = exactly (text "mov")
op3 Three.CMP = exactly (text "cmp")
op3 Three.ADD = exactly (text "add")
op3 Three.SUB = exactly (text "sub")

alu_op : (op : ThumbAluOps) → Within 3 3 (L.alu_op_text op)
unfolding L.alu_op_text
alu_op Op.AND = exactly (text "and")
alu_op Op.EOR = exactly (text "eor")
alu_op Op.LSL = exactly (text "lsl")
alu_op Op.LSR = exactly (text "lsr")
alu_op Op.ASR = exactly (text "asr")
alu_op Op.ADC = exactly (text "adc")
alu_op Op.SBC = exactly (text "sbc")
alu_op Op.ROR = exactly (text "ror")
alu_op Op.TST = exactly (text "tst")
alu_op Op.NEG = exactly (text "neg")
alu_op Op.CMP = exactly (text "cmp")
alu_op Op.CMN = exactly (text "cmn")
alu_op Op.ORR = exactly (text "orr")
alu_op Op.MUL = exactly (text "mul")
alu_op Op.BIC = exactly (text "bic")
alu_op Op.MVN = exactly (text "mvn")

ldr_str : (raw : ℕ) → Within 3 3 (either raw 11 (text "ldr") (text "str"))
ldr_str raw = either_within raw 11 (exactly (text "ldr")) (exactly (text "str"))

pop_push : (raw : ℕ) → Within 3 4 (either raw 11 (text "pop") (text "push"))
pop_push raw =
    either_within raw 11 (loosely (exactly (text "pop")) (omega arith) (omega arith)) (loosely (exactly (text "push")) (omega arith) (omega arith))

shb : (raw : ℕ) → Within 4 4 (L.shb_text raw)
unfolding L.shb_text
shb raw =
    of_two (bit raw 10)
    (either_within raw 11 (exactly (text "ldsh")) (exactly (text "ldsb")))
    (either_within raw 11 (exactly (text "ldrh")) (exactly (text "strh")))

high : (form : Form) (raw : ℕ) (op : OpFormat5) → Within 5 12 (L.op5_text op ++ text "\t" ++ high_operands form raw op)
unfolding L.op5_text high_operands
high form raw Five.ADD = loosely (exactly (text "add") & exactly (text "\t") & dst_and_src_lem form raw) (omega arith) (omega arith)
high form raw Five.CMP = loosely (exactly (text "cmp") & exactly (text "\t") & dst_and_src_lem form raw) (omega arith) (omega arith)
high form raw Five.MOV = loosely (exactly (text "mov") & exactly (text "\t") & dst_and_src_lem form raw) (omega arith) (omega arith)
high form raw Five.BX = loosely (exactly (text "bx") & exactly (text "\t") & reg_within (src_reg raw) (src raw)) (omega arith) (omega arith)

-- ---- the lines
pub line_within : (form : Form) (fmt : ThumbFormat) (pc raw : ℕ) → Within 5 80 (line_of form fmt pc raw)
unfolding line_of L.fmt_thumb_move_shifted_reg L.fmt_thumb_data_process_imm L.fmt_thumb_alu_ops L.fmt_thumb_high_reg_op_or_bx L.fmt_thumb_ldr_pc L.fmt_thumb_ldr_str_reg_offset L.fmt_thumb_ldr_str_shb L.fmt_thumb_ldr_str_imm_offset L.fmt_thumb_ldr_str_halfword L.fmt_thumb_ldr_str_sp L.fmt_thumb_load_address L.fmt_thumb_add_sub L.fmt_thumb_add_sp L.fmt_thumb_push_pop L.fmt_thumb_ldm_stm L.fmt_thumb_branch_with_cond L.fmt_thumb_swi L.fmt_thumb_branch L.fmt_thumb_branch_long_with_link
line_within form H.MoveShiftedReg pc raw =
    loosely (shift (barrel_shift_op_code (bit_range raw 11 13)) & exactly (text "\t") & rd raw & exactly (text ", ") & rs raw & exactly (text ", #")
    & dec_within (L.shift_places form raw)) (omega arith) (omega arith)
line_within form H.AddSub pc raw =
    loosely (either_within raw 9 (exactly (text "sub")) (exactly (text "add")) & exactly (text "\t") & rd raw & exactly (text ", ") & rs raw
    & exactly (text ", ")
    & add_sub_operand_lem raw) (omega arith) (omega arith)
line_within form H.DataProcessImm pc raw =
    loosely (op3 (op_format3 (bit_range raw 11 13)) & exactly (text "\t") & high_rd raw & exactly (text ", #") & number (bit_range raw 0 8)) (omega arith) (omega arith)
line_within form H.AluOps pc raw =
    loosely (alu_op (thumb_alu_op (bit_range raw 6 10)) & exactly (text "\t") & rd raw & exactly (text ", ") & rs raw) (omega arith) (omega arith)
line_within form H.HiRegOpOrBranchExchange pc raw = loosely (high form raw (op_format5 (bit_range raw 8 10))) (omega arith) (omega arith)
line_within form H.LdrPc pc raw =
    loosely (exactly (text "ldr\t") & high_rd raw & exactly (text ", [pc, #") & number (word8 raw) & exactly (text "] ; = #")
    & address_within form (pc_load_address pc raw)) (omega arith) (omega arith)
line_within form H.LdrStrRegOffset pc raw =
    loosely (ldr_str raw & if_set_within raw 10 (exactly (text "b")) & exactly (text "\t") & rd raw & exactly (text ", [") & rs raw
    & exactly (text ", ")
    & ro raw
    & exactly (text "]")) (omega arith) (omega arith)
line_within form H.LdrStrSHB pc raw =
    loosely (shb raw & exactly (text "\t") & rd raw & exactly (text ", [") & rs raw & exactly (text ", ") & ro raw & exactly (text "]")) (omega arith) (omega arith)
line_within form H.LdrStrImmOffset pc raw =
    loosely (ldr_str raw & if_set_within raw 12 (exactly (text "b")) & exactly (text "\t") & rd raw & exactly (text ", [") & rs raw
    & exactly (text ", #")
    & number (imm_offset raw)
    & exactly (text "]")) (omega arith) (omega arith)
line_within form H.LdrStrHalfWord pc raw =
    loosely (either_within raw 11 (exactly (text "ldrh")) (exactly (text "strh")) & exactly (text "\t") & rd raw & exactly (text ", [") & rs raw
    & exactly (text ", #")
    & number (bit_range raw 6 11 * 2)
    & exactly (text "]")) (omega arith) (omega arith)
line_within form H.LdrStrSp pc raw =
    loosely (ldr_str raw & exactly (text "\t") & high_rd raw & exactly (text ", [sp, #") & number (word8 raw) & exactly (text "]")) (omega arith) (omega arith)
line_within form H.LoadAddress pc raw =
    loosely (exactly (text "add\t") & high_rd raw & exactly (text ", ") & either_within raw 11 (exactly (text "sp")) (exactly (text "pc"))
    & exactly (text ", #")
    & number (word8 raw)) (omega arith) (omega arith)
line_within form H.AddSp pc raw = loosely (exactly (text "add\tsp, #") & sp_offset_lem form raw) (omega arith) (omega arith)
line_within form H.PushPop pc raw = loosely (pop_push raw & exactly (text "\t{") & push_pop raw & exactly (text "}")) (omega arith) (omega arith)
line_within form H.LdmStm pc raw =
    loosely (either_within raw 11 (exactly (text "ldm")) (exactly (text "stm")) & exactly (text "\t") & base form raw & exactly (text "!, {") & list raw
    & exactly (text "}")) (omega arith) (omega arith)
line_within form H.BranchConditional pc raw =
    loosely (exactly (text "b") & cond_at_within raw 8 12 & exactly (text "\t") & address_within form (bcond_target pc raw)) (omega arith) (omega arith)
line_within form H.Swi pc raw = loosely (exactly (text "swi\t") & number (bit_range raw 0 8)) (omega arith) (omega arith)
line_within form H.Branch pc raw = loosely (exactly (text "b\t") & address_within form (branch_target pc raw)) (omega arith) (omega arith)
line_within form H.BranchLongWithLink pc raw =
    loosely (exactly (text "bl\t#") & prefixed_within 8 (call_half raw) (omega arith)) (omega arith) (omega arith)
line_within form H.Undefined pc raw = loosely (exactly (text "<Undefined>")) (omega arith) (omega arith)
