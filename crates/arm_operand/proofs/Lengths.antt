-- How long the operands of a line are. Assumes nothing.
use Rattle.std.proofs.Common.{ℕ, Bool, true, false, Option, Some, None, eqb, refl, arith}
use Rattle.lines.proofs.Address.{address_within}
use Rattle.lines.proofs.Lengths.{if_set_within, reg_at_within, either_within}
use Rattle.arm7tdmi.specs.Alu.{amount_of, decode_rotated_immediate}
use Rattle.arm.specs.Fields.{pc_relative}
use Rattle.arm7tdmi.specs.Names.{reg_names, reg_string}
use Rattle.arm7tdmi.specs.declared.Form.{Form}
use Rattle.arm7tdmi.specs.declared.Form.TheVariants.{Bench, Sheet}
use Rattle.arm7tdmi.specs.declared.alu.Amount.TheVariants.{Places, Rrx}
use Rattle.arm7tdmi.specs.declared.alu.Amount.{Amount}
use Rattle.arm7tdmi.specs.declared.alu.BarrelShiftOpCode.{BarrelShiftOpCode}
use Rattle.arm7tdmi.specs.declared.alu.BarrelShifterValue.{BarrelShifterValue}
use Rattle.arm7tdmi.specs.declared.alu.ShiftRegisterBy.{ShiftRegisterBy}
use Rattle.arm7tdmi.specs.declared.alu.ShiftedRegister.{ShiftedRegister}
use Rattle.arm_operand.specs.Operand.{amount_text, bench_offset, by_amount, by_register, comment, decoded_text, fmt_operand2, fmt_rn_offset, immediate, immediate_offset, indexed, is_lsl0, magnitude, offset_text, places_text, sheet_offset, shift_by, shift_text, shifted_register, sign_text, signed_register, value_comment, added_register, flag_text, flags, flags_comment, rd_text}
use Rattle.common.specs.Bits.{bit, bit_range}
use Rattle.text.proofs.Within.{Within, ◌&◌, dec_within, exactly, loosely, none, of_two, prefixed_within, short_entry, or_none}
use Rattle.text.specs.Text.{text}
use Rattle.arm7tdmi.specs.declared.alu.BarrelShiftOpCode.TheVariants as Shift
use Rattle.arm7tdmi.specs.declared.alu.ShiftRegisterBy.TheVariants as By
use Rattle.arm7tdmi.specs.declared.alu.BarrelShifterValue.TheVariants as Value

-- ---- operands
shift : (op : BarrelShiftOpCode) → Within 3 3 (shift_text op)
unfolding shift_text
shift Shift.LSL = exactly (text "lsl")
shift Shift.LSR = exactly (text "lsr")
shift Shift.ASR = exactly (text "asr")
shift Shift.ROR = exactly (text "ror")

-- a register or nothing
named : (n : ℕ) → Within 0 3 (reg_string n)
unfolding reg_string reg_names
named n = short_entry 3 reg_names refl n

amount : (op : BarrelShiftOpCode) (a : Amount) → Within 0 17 (amount_text op a)
unfolding amount_text places_text
amount op (Places n) = loosely (exactly (text ", ") & shift op & exactly (text " #") & dec_within n) (omega arith) (omega arith)
amount op Rrx = loosely (exactly (text ", rrx")) (omega arith) (omega arith)

by_amount_lem : (form : Form) (op : BarrelShiftOpCode) (n : ℕ) → Within 0 17 (by_amount form op n)
unfolding by_amount
by_amount_lem form op n = of_two (is_lsl0 op n) (none 17) (amount op (amount_of form op n))

by : (form : Form) (op : BarrelShiftOpCode) (b : ShiftRegisterBy) → Within 0 17 (shift_by form op b)
unfolding shift_by by_register
by form op (By.ByAmount n) = by_amount_lem form op n
by form op (By.ByRegister rs) = loosely (exactly (text ", ") & shift op & exactly (text " ") & named rs) (omega arith) (omega arith)

shifted_within : (form : Form) (s : ShiftedRegister) → Within 0 20 (shifted_register form s)
unfolding shifted_register
shifted_within form s = named s.reg & by form s.bs_op s.shift_by

decoded : (d : Option ℕ) → Within 0 24 (decoded_text d)
unfolding decoded_text immediate
decoded None = none 24
decoded (Some v) =
    loosely (exactly (text "#") & dec_within v & exactly (text "\t; ") & prefixed_within 1 v (omega arith)) (omega arith) (omega arith)

pub operand : (form : Form) (o : BarrelShifterValue) → Within 0 24 (fmt_operand2 form o)
unfolding fmt_operand2
operand form (Value.ImmediateValue v) = none 24
operand form (Value.RotatedImmediate v n) = decoded (decode_rotated_immediate (Value.RotatedImmediate v n))
operand form (Value.ShiftedRegister s) = loosely (shifted_within form s) (omega arith) (omega arith)

-- ---- offsets
bench_offset_lem : (v : ℕ) → Within 2 11 (bench_offset v)
unfolding bench_offset
bench_offset_lem v = exactly (text "#") & dec_within v

immediate_offset_lem : (form : Form) (raw v : ℕ) → Within 0 12 (immediate_offset form raw v)
unfolding immediate_offset sheet_offset
immediate_offset_lem Bench raw v = loosely (bench_offset_lem v) (omega arith) (omega arith)
immediate_offset_lem Sheet raw v =
    of_two (bit raw 23) (loosely (bench_offset_lem v) (omega arith) (omega arith))
    (loosely (exactly (text "#-") & dec_within (magnitude v)) (omega arith) (omega arith))

sign : (s : Option Bool) → Within 0 1 (sign_text s)
unfolding sign_text
sign (Some true) = none 1
sign (Some false) = loosely (exactly (text "-")) (omega arith) (omega arith)
sign None = none 1

offset : (form : Form) (raw : ℕ) (o : BarrelShifterValue) → Within 0 21 (offset_text form raw o)
unfolding offset_text signed_register
offset form raw (Value.ImmediateValue v) = loosely (immediate_offset_lem form raw v) (omega arith) (omega arith)
offset form raw (Value.RotatedImmediate v n) = none 21
offset form raw (Value.ShiftedRegister s) = sign s.added & shifted_within form s

indexed_within : (form : Form) (raw : ℕ) (o : BarrelShifterValue) → Within 0 25 (indexed form raw o)
unfolding indexed
indexed_within form raw o =
    of_two (bit raw 24)
    (loosely (exactly (text ", ") & offset form raw o & exactly (text "]") & if_set_within raw 21 (exactly (text "!"))) (omega arith) (omega arith))
    (loosely (exactly (text "], ") & offset form raw o) (omega arith) (omega arith))

comment_within : (form : Form) (pc raw : ℕ) (o : BarrelShifterValue) → Within 0 13 (comment form pc raw o)
unfolding comment value_comment
comment_within form pc raw (Value.ImmediateValue v) =
    loosely (exactly (text "\t; ") & of_two (eqb (bit_range raw 16 20) 15) (address_within form (pc_relative pc v)) (prefixed_within 1 v (omega arith)))
    (omega arith) (omega arith)
comment_within form pc raw (Value.RotatedImmediate v n) = none 13
comment_within form pc raw (Value.ShiftedRegister s) = none 13

pub rn_offset : (form : Form) (pc raw : ℕ) (o : BarrelShifterValue) → Within 3 42 (fmt_rn_offset form pc raw o)
unfolding fmt_rn_offset
rn_offset form pc raw o = exactly (text "[") & reg_at_within raw 16 20 (omega arith) & indexed_within form raw o & comment_within form pc raw o

pub rd : (form : Form) (raw : ℕ) → Within 2 3 (rd_text form raw)
unfolding rd_text
rd Bench raw = reg_at_within raw 16 20 (omega arith)
rd Sheet raw = reg_at_within raw 12 16 (omega arith)

pub added : (raw : ℕ) → Within 0 5 (added_register raw)
unfolding added_register
added raw = or_none (bit raw 21) (exactly (text ", ") & reg_at_within raw 12 16 (omega arith))

flag : (v n : ℕ) → Within 4 5 (flag_text v n)
unfolding flag_text
flag v n = either_within v n (loosely (exactly (text "true")) (omega arith) (omega arith)) (loosely (exactly (text "false")) (omega arith) (omega arith))

pub flags_within : (d : Option ℕ) → Within 0 34 (flags_comment d)
unfolding flags_comment flags
flags_within None = none 34
flags_within (Some v) =
    loosely
    (exactly (text "\t; N=") & flag v 31 & exactly (text " Z=") & flag v 30 & exactly (text " C=") & flag v 29 & exactly (text " V=") & flag v 28)
    (omega arith) (omega arith)
