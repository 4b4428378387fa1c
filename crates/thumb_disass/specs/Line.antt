-- The lines of Thumb words, bench and sheet: one definition for each `fmt_` function of the Rust's thumb/disass.rs, in its order, with the Rust's
-- format beside it. Where the sheet line differs (S5, S6 and S8 of document 01), an operand has the form; S7 is the kind's. S9 stands where an address
-- is shown, S10 where an amount is. Assumes nothing.
use Rattle.std.specs.Prelude.{cond, List, ◌++◌, ℕ, ◌*◌}
use Rattle.common.specs.Bits.{bit, bit_range}
use Rattle.text.specs.Text.{text}
use Rattle.text.specs.Digits.{dec, prefixed}
use Rattle.lines.specs.Address.{address}
use Rattle.lines.specs.Pieces.{reg_at, cond_at, either, if_set, registers}
use Rattle.arm7tdmi.specs.Alu.{barrel_shift_op_code, amount_of, places}
use Rattle.thumb.specs.Fields.{op_format3, op_format5, thumb_alu_op, word8, pc_load_address, bcond_target, branch_target, call_half}
use Rattle.arm7tdmi.specs.declared.Form.{Form}
use Rattle.arm7tdmi.specs.declared.alu.BarrelShiftOpCode.{BarrelShiftOpCode}
use Rattle.arm7tdmi.specs.declared.alu.BarrelShiftOpCode.TheVariants as Shift
use Rattle.thumb.specs.declared.OpFormat3.{OpFormat3}
use Rattle.thumb.specs.declared.OpFormat3.TheVariants as Three
use Rattle.thumb.specs.declared.OpFormat5.{OpFormat5}
use Rattle.thumb.specs.declared.OpFormat5.TheVariants as Five
use Rattle.thumb.specs.declared.ThumbAluOps.{ThumbAluOps}
use Rattle.thumb.specs.declared.ThumbAluOps.TheVariants as Op
use Rattle.thumb.specs.declared.ThumbFormat.{ThumbFormat}
use Rattle.thumb.specs.declared.ThumbFormat.TheVariants as H
use Rattle.thumb_operand.specs.Operand.{high_operands, imm_offset, add_sub_operand, sp_offset, push_pop_list, base_text}

-- ---- BarrelShiftOpCode as "{:?}" has it: "MoveShiftedReg prints LSL, LSR, ASR in capitals"; ROR does not arise
unfoldable pub shift_text : BarrelShiftOpCode → List ℕ
shift_text Shift.LSL = text "LSL"
shift_text Shift.LSR = text "LSR"
shift_text Shift.ASR = text "ASR"
shift_text Shift.ROR = text "ROR"

-- ---- OpFormat3, OpFormat5, ThumbAluOps
unfoldable pub op3_text : OpFormat3 → List ℕ
op3_text Three.MOV = text "mov"
op3_text Three.CMP = text "cmp"
op3_text Three.ADD = text "add"
op3_text Three.SUB = text "sub"

unfoldable pub op5_text : OpFormat5 → List ℕ
op5_text Five.ADD = text "add"
op5_text Five.CMP = text "cmp"
op5_text Five.MOV = text "mov"
op5_text Five.BX = text "bx"

unfoldable pub alu_op_text : ThumbAluOps → List ℕ
alu_op_text Op.AND = text "and"
alu_op_text Op.EOR = text "eor"
alu_op_text Op.LSL = text "lsl"
alu_op_text Op.LSR = text "lsr"
alu_op_text Op.ASR = text "asr"
alu_op_text Op.ADC = text "adc"
alu_op_text Op.SBC = text "sbc"
alu_op_text Op.ROR = text "ror"
alu_op_text Op.TST = text "tst"
alu_op_text Op.NEG = text "neg"
alu_op_text Op.CMP = text "cmp"
alu_op_text Op.CMN = text "cmn"
alu_op_text Op.ORR = text "orr"
alu_op_text Op.MUL = text "mul"
alu_op_text Op.BIC = text "bic"
alu_op_text Op.MVN = text "mvn"

-- ---- fmt_thumb_move_shifted_reg: "{op:?}\t{Rd}, {Rs}, #{Offset5}"
-- S10: "Sheet lines now print `#32`" for an amount of 0 of LSR and ASR, "Thumb MoveShiftedReg included"
unfoldable pub shift_places : Form → ℕ → ℕ
shift_places form raw = places (amount_of form (barrel_shift_op_code (bit_range raw 11 13)) (bit_range raw 6 11))

unfoldable pub fmt_thumb_move_shifted_reg : Form → ℕ → List ℕ
fmt_thumb_move_shifted_reg form raw =
    shift_text (barrel_shift_op_code (bit_range raw 11 13)) ++ text "\t" ++ reg_at raw 0 3 ++ text ", " ++ reg_at raw 3 6 ++ text ", #"
    ++ dec (shift_places form raw)

-- ---- fmt_thumb_data_process_imm: "{op}\t{Rd}, #{Offset8:#x}"
unfoldable pub fmt_thumb_data_process_imm : ℕ → List ℕ
fmt_thumb_data_process_imm raw =
    op3_text (op_format3 (bit_range raw 11 13)) ++ text "\t" ++ reg_at raw 8 11 ++ text ", #" ++ prefixed 1 (bit_range raw 0 8)

-- ---- fmt_thumb_alu_ops: "{op}\t{Rd}, {Rs}"
unfoldable pub fmt_thumb_alu_ops : ℕ → List ℕ
fmt_thumb_alu_ops raw = alu_op_text (thumb_alu_op (bit_range raw 6 10)) ++ text "\t" ++ reg_at raw 0 3 ++ text ", " ++ reg_at raw 3 6

-- ---- fmt_thumb_high_reg_op_or_bx: "{}\t", then of bx "{src}", of the others "{dst}, {src}"
unfoldable pub fmt_thumb_high_reg_op_or_bx : Form → ℕ → List ℕ
fmt_thumb_high_reg_op_or_bx form raw =
    op5_text (op_format5 (bit_range raw 8 10)) ++ text "\t" ++ high_operands form raw (op_format5 (bit_range raw 8 10))

-- ---- fmt_thumb_ldr_pc: "ldr\t{Rd}, [pc, #{Imm:#x}] ; = #{effective:#x}"
unfoldable pub fmt_thumb_ldr_pc : Form → ℕ → ℕ → List ℕ
fmt_thumb_ldr_pc form pc raw =
    text "ldr\t" ++ reg_at raw 8 11 ++ text ", [pc, #" ++ prefixed 1 (word8 raw) ++ text "] ; = #" ++ address form (pc_load_address pc raw)

-- ---- fmt_thumb_ldr_str_reg_offset: "{op}{b}\t{Rd}, [{Rb}, {Ro}]"
unfoldable pub fmt_thumb_ldr_str_reg_offset : ℕ → List ℕ
fmt_thumb_ldr_str_reg_offset raw =
    either raw 11 (text "ldr") (text "str") ++ if_set raw 10 (text "b") ++ text "\t" ++ reg_at raw 0 3 ++ text ", [" ++ reg_at raw 3 6 ++ text ", "
    ++ reg_at raw 6 9
    ++ text "]"

-- ---- fmt_thumb_ldr_str_shb: "{op}\t{Rd}, [{Rb}, {Ro}]"; bit 10 is the sign's, bit 11 the halfword's
unfoldable pub shb_text : ℕ → List ℕ
shb_text raw = cond (bit raw 10) (either raw 11 (text "ldsh") (text "ldsb")) (either raw 11 (text "ldrh") (text "strh"))

unfoldable pub fmt_thumb_ldr_str_shb : ℕ → List ℕ
fmt_thumb_ldr_str_shb raw =
    shb_text raw ++ text "\t" ++ reg_at raw 0 3 ++ text ", [" ++ reg_at raw 3 6 ++ text ", " ++ reg_at raw 6 9 ++ text "]"

-- ---- fmt_thumb_ldr_str_imm_offset: "{op}{b}\t{Rd}, [{Rb}, #{imm:#x}]"
unfoldable pub fmt_thumb_ldr_str_imm_offset : ℕ → List ℕ
fmt_thumb_ldr_str_imm_offset raw =
    either raw 11 (text "ldr") (text "str") ++ if_set raw 12 (text "b") ++ text "\t" ++ reg_at raw 0 3 ++ text ", [" ++ reg_at raw 3 6 ++ text ", #"
    ++ prefixed 1 (imm_offset raw)
    ++ text "]"

-- ---- fmt_thumb_ldr_str_halfword: "{op}\t{Rd}, [{Rb}, #{imm:#x}]"
unfoldable pub fmt_thumb_ldr_str_halfword : ℕ → List ℕ
fmt_thumb_ldr_str_halfword raw =
    either raw 11 (text "ldrh") (text "strh") ++ text "\t" ++ reg_at raw 0 3 ++ text ", [" ++ reg_at raw 3 6 ++ text ", #"
    ++ prefixed 1 (bit_range raw 6 11 * 2)
    ++ text "]"

-- ---- fmt_thumb_ldr_str_sp: "{op}\t{Rd}, [sp, #{Imm:#x}]"
unfoldable pub fmt_thumb_ldr_str_sp : ℕ → List ℕ
fmt_thumb_ldr_str_sp raw =
    either raw 11 (text "ldr") (text "str") ++ text "\t" ++ reg_at raw 8 11 ++ text ", [sp, #" ++ prefixed 1 (word8 raw) ++ text "]"

-- ---- fmt_thumb_load_address: "add\t{Rd}, {r}, #{Imm:#x}"
unfoldable pub fmt_thumb_load_address : ℕ → List ℕ
fmt_thumb_load_address raw =
    text "add\t" ++ reg_at raw 8 11 ++ text ", " ++ either raw 11 (text "sp") (text "pc") ++ text ", #" ++ prefixed 1 (word8 raw)

-- ---- fmt_thumb_add_sub: "{op}\t{Rd}, {Rs}, {operand}"
unfoldable pub fmt_thumb_add_sub : ℕ → List ℕ
fmt_thumb_add_sub raw =
    either raw 9 (text "sub") (text "add") ++ text "\t" ++ reg_at raw 0 3 ++ text ", " ++ reg_at raw 3 6 ++ text ", " ++ add_sub_operand raw

-- ---- fmt_thumb_add_sp: "add\tsp, #{imm:x}"
unfoldable pub fmt_thumb_add_sp : Form → ℕ → List ℕ
fmt_thumb_add_sp form raw = text "add\tsp, #" ++ sp_offset form raw

-- ---- fmt_register_list: `registers raw 8`, the names of the registers whose bits are set, with ", " between

-- ---- fmt_thumb_push_pop: "{}\t{", the registers and lr or pc, "}"
unfoldable pub fmt_thumb_push_pop : ℕ → List ℕ
fmt_thumb_push_pop raw = either raw 11 (text "pop") (text "push") ++ text "\t{" ++ push_pop_list raw ++ text "}"

-- ---- fmt_thumb_ldm_stm: "{op}\t{Rb}!, {", the registers, "}"
unfoldable pub fmt_thumb_ldm_stm : Form → ℕ → List ℕ
fmt_thumb_ldm_stm form raw =
    either raw 11 (text "ldm") (text "stm") ++ text "\t" ++ base_text form raw ++ text "!, {" ++ registers raw 8 ++ text "}"

-- ---- fmt_thumb_branch_with_cond: "b{cond}\t{addr:#x}"; "DExx prints `b`": condition 14 has no name
unfoldable pub fmt_thumb_branch_with_cond : Form → ℕ → ℕ → List ℕ
fmt_thumb_branch_with_cond form pc raw = text "b" ++ cond_at raw 8 12 ++ text "\t" ++ address form (bcond_target pc raw)

-- ---- fmt_thumb_swi: "swi\t{value:#x}"
unfoldable pub fmt_thumb_swi : ℕ → List ℕ
fmt_thumb_swi raw = text "swi\t" ++ prefixed 1 (bit_range raw 0 8)

-- ---- fmt_thumb_branch: "b\t{addr:#x}"
unfoldable pub fmt_thumb_branch : Form → ℕ → ℕ → List ℕ
fmt_thumb_branch form pc raw = text "b\t" ++ address form (branch_target pc raw)

-- ---- fmt_thumb_branch_long_with_link, a lone half of a call: "bl\t#0x{:08x}"
unfoldable pub fmt_thumb_branch_long_with_link : ℕ → List ℕ
fmt_thumb_branch_long_with_link raw = text "bl\t#" ++ prefixed 8 (call_half raw)

-- ---- the line of a word of a kind
unfoldable pub line_of : Form → ThumbFormat → ℕ → ℕ → List ℕ
line_of form H.MoveShiftedReg pc raw = fmt_thumb_move_shifted_reg form raw
line_of form H.AddSub pc raw = fmt_thumb_add_sub raw
line_of form H.DataProcessImm pc raw = fmt_thumb_data_process_imm raw
line_of form H.AluOps pc raw = fmt_thumb_alu_ops raw
line_of form H.HiRegOpOrBranchExchange pc raw = fmt_thumb_high_reg_op_or_bx form raw
line_of form H.LdrPc pc raw = fmt_thumb_ldr_pc form pc raw
line_of form H.LdrStrRegOffset pc raw = fmt_thumb_ldr_str_reg_offset raw
line_of form H.LdrStrSHB pc raw = fmt_thumb_ldr_str_shb raw
line_of form H.LdrStrImmOffset pc raw = fmt_thumb_ldr_str_imm_offset raw
line_of form H.LdrStrHalfWord pc raw = fmt_thumb_ldr_str_halfword raw
line_of form H.LdrStrSp pc raw = fmt_thumb_ldr_str_sp raw
line_of form H.LoadAddress pc raw = fmt_thumb_load_address raw
line_of form H.AddSp pc raw = fmt_thumb_add_sp form raw
line_of form H.PushPop pc raw = fmt_thumb_push_pop raw
line_of form H.LdmStm pc raw = fmt_thumb_ldm_stm form raw
line_of form H.BranchConditional pc raw = fmt_thumb_branch_with_cond form pc raw
line_of form H.Swi pc raw = fmt_thumb_swi raw
line_of form H.Branch pc raw = fmt_thumb_branch form pc raw
line_of form H.BranchLongWithLink pc raw = fmt_thumb_branch_long_with_link raw
line_of form H.Undefined pc raw = text "<Undefined>"
