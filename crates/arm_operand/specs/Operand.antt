-- The operands of ARM lines that are more than a field, by the Rust's arm/disass.rs, with its formats beside them. The form stands where the sheet line
-- differs: S1 and S4 of document 01, S9 where an address is shown, and S10 where an amount is. Assumes nothing.
use Rattle.std.specs.Prelude.{ℕ, ◌-◌, ◌%◌, ◌^◌, Bool, true, false, cond, List, [], ◌++◌, ◌==◌, Option, Some, None}
use Rattle.common.specs.Bits.{bit, bit_range}
use Rattle.text.specs.Text.{text}
use Rattle.text.specs.Digits.{dec, prefixed}
use Rattle.arm7tdmi.specs.Names.{reg_string}
use Rattle.lines.specs.Address.{address}
use Rattle.lines.specs.Pieces.{reg_at, if_set, either}
use Rattle.arm7tdmi.specs.Alu.{amount_of, decode_rotated_immediate}
use Rattle.arm.specs.Fields.{pc_relative}
use Rattle.arm7tdmi.specs.declared.Form.{Form}
use Rattle.arm7tdmi.specs.declared.Form.TheVariants.{Bench, Sheet}
use Rattle.arm7tdmi.specs.declared.alu.BarrelShiftOpCode.{BarrelShiftOpCode}
use Rattle.arm7tdmi.specs.declared.alu.BarrelShiftOpCode.TheVariants as Shift
use Rattle.arm7tdmi.specs.declared.alu.Amount.{Amount}
use Rattle.arm7tdmi.specs.declared.alu.Amount.TheVariants.{Places, Rrx}
use Rattle.arm7tdmi.specs.declared.alu.ShiftRegisterBy.{ShiftRegisterBy}
use Rattle.arm7tdmi.specs.declared.alu.ShiftRegisterBy.TheVariants as By
use Rattle.arm7tdmi.specs.declared.alu.ShiftedRegister.{ShiftedRegister}
use Rattle.arm7tdmi.specs.declared.alu.BarrelShifterValue.{BarrelShifterValue}
use Rattle.arm7tdmi.specs.declared.alu.BarrelShifterValue.TheVariants as Value

-- ---- BarrelShiftOpCode
unfoldable pub shift_text : BarrelShiftOpCode → List ℕ
shift_text Shift.LSL = text "lsl"
shift_text Shift.LSR = text "lsr"
shift_text Shift.ASR = text "asr"
shift_text Shift.ROR = text "ror"

-- ---- ShiftedRegister: "{reg}, {bs_op} #{imm}", "{reg}, {bs_op} {rs}", and for LSL #0 "{reg}"
abbrev pub is_lsl0 : BarrelShiftOpCode → ℕ → Bool
is_lsl0 Shift.LSL n = n == 0
is_lsl0 Shift.LSR n = false
is_lsl0 Shift.ASR n = false
is_lsl0 Shift.ROR n = false

unfoldable pub places_text : BarrelShiftOpCode → ℕ → List ℕ
places_text op n = text ", " ++ shift_text op ++ text " #" ++ dec n

-- S10: "`, rrx` after the register"
unfoldable pub amount_text : BarrelShiftOpCode → Amount → List ℕ
amount_text op (Places n) = places_text op n
amount_text op Rrx = text ", rrx"

unfoldable pub by_amount : Form → BarrelShiftOpCode → ℕ → List ℕ
by_amount form op n = cond (is_lsl0 op n) [] (amount_text op (amount_of form op n))

unfoldable pub by_register : BarrelShiftOpCode → ℕ → List ℕ
by_register op rs = text ", " ++ shift_text op ++ text " " ++ reg_string rs

unfoldable pub shift_by : Form → BarrelShiftOpCode → ShiftRegisterBy → List ℕ
shift_by form op (By.ByAmount n) = by_amount form op n
shift_by form op (By.ByRegister rs) = by_register op rs

unfoldable pub shifted_register : Form → ShiftedRegister → List ℕ
shifted_register form s = reg_string s.reg ++ shift_by form s.bs_op s.shift_by

-- ---- fmt_operand2: "#{}\t; {:#x}", or the shifted register
unfoldable pub immediate : ℕ → List ℕ
immediate v = text "#" ++ dec v ++ text "\t; " ++ prefixed 1 v

unfoldable pub decoded_text : Option ℕ → List ℕ
decoded_text None = []
decoded_text (Some v) = immediate v

unfoldable pub fmt_operand2 : Form → BarrelShifterValue → List ℕ
fmt_operand2 form (Value.ImmediateValue v) = []
fmt_operand2 form (Value.RotatedImmediate v n) = decoded_text (decode_rotated_immediate (Value.RotatedImmediate v n))
fmt_operand2 form (Value.ShiftedRegister s) = shifted_register form s

-- ---- fmt_rn_offset: "[{Rn}", then ", {ofs}]{!}" or "], {ofs}", then the comment
-- bench: "An immediate offset with U (bit 23) clear prints as unsigned 32-bit decimal".
-- S4: "an ARM immediate offset with U clear prints `#-` and the magnitude, zero included"
unfoldable pub bench_offset : ℕ → List ℕ
bench_offset v = text "#" ++ dec v

unfoldable pub magnitude : ℕ → ℕ
magnitude v = (2 ^ 32 - v) % 2 ^ 32

unfoldable pub sheet_offset : ℕ → ℕ → List ℕ
sheet_offset raw v = cond (bit raw 23) (bench_offset v) (text "#-" ++ dec (magnitude v))

unfoldable pub immediate_offset : Form → ℕ → ℕ → List ℕ
immediate_offset Bench raw v = bench_offset v
immediate_offset Sheet raw v = sheet_offset raw v

-- "a register offset then has `-` before the register"
unfoldable pub sign_text : Option Bool → List ℕ
sign_text (Some true) = []
sign_text (Some false) = text "-"
sign_text None = []

unfoldable pub signed_register : Form → ShiftedRegister → List ℕ
signed_register form s = sign_text s.added ++ shifted_register form s

unfoldable pub offset_text : Form → ℕ → BarrelShifterValue → List ℕ
offset_text form raw (Value.ImmediateValue v) = immediate_offset form raw v
offset_text form raw (Value.RotatedImmediate v n) = []
offset_text form raw (Value.ShiftedRegister s) = signed_register form s

unfoldable pub indexed : Form → ℕ → BarrelShifterValue → List ℕ
indexed form raw o =
    cond (bit raw 24) (text ", " ++ offset_text form raw o ++ text "]" ++ if_set raw 21 (text "!")) (text "], " ++ offset_text form raw o)

-- "The comment adds address + 8 when Rn is pc": it shows an address then, and else the offset
abbrev pub commented : Form → ℕ → ℕ → ℕ → List ℕ
commented form pc rn v = cond (rn == 15) (address form (pc_relative pc v)) (prefixed 1 v)

unfoldable pub value_comment : Form → ℕ → ℕ → ℕ → List ℕ
value_comment form pc raw v = text "\t; " ++ commented form pc (bit_range raw 16 20) v

unfoldable pub comment : Form → ℕ → ℕ → BarrelShifterValue → List ℕ
comment form pc raw (Value.ImmediateValue v) = value_comment form pc raw v
comment form pc raw (Value.RotatedImmediate v n) = []
comment form pc raw (Value.ShiftedRegister s) = []

unfoldable pub fmt_rn_offset : Form → ℕ → ℕ → BarrelShifterValue → List ℕ
fmt_rn_offset form pc raw o = text "[" ++ reg_at raw 16 20 ++ indexed form raw o ++ comment form pc raw o

-- ---- Rd of data processing
-- bench: "Data processing takes Rd from bits 19-16, as Rn". S1: "data processing takes Rd from bits 15-12"
unfoldable pub rd_text : Form → ℕ → List ℕ
rd_text Bench raw = reg_at raw 16 20
rd_text Sheet raw = reg_at raw 12 16

-- ---- the flags that an immediate sets: "\t; N={} Z={} C={} V={}"
unfoldable pub flag_text : ℕ → ℕ → List ℕ
flag_text v n = either v n (text "true") (text "false")

unfoldable pub flags : ℕ → List ℕ
flags v =
    text "\t; N=" ++ flag_text v 31 ++ text " Z=" ++ flag_text v 30 ++ text " C=" ++ flag_text v 29 ++ text " V=" ++ flag_text v 28

unfoldable pub flags_comment : Option ℕ → List ℕ
flags_comment None = []
flags_comment (Some v) = flags v

-- ---- the register that mla adds: ", {Rn}"
unfoldable pub added_register : ℕ → List ℕ
added_register raw = cond (bit raw 21) (text ", " ++ reg_at raw 12 16) []
