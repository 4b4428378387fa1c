-- Opcodes, shifts and operands. Assumes nothing.
use Rattle.std.specs.Prelude.{ℕ, ◌+◌, ◌-◌, ◌*◌, ◌/◌, ◌%◌, ◌^◌, Bool, true, false, cond, List, [], ◌∷◌, ◌==◌, Option, Some, None, slice_index_or}
use Rattle.arm7tdmi.specs.declared.Form.{Form}
use Rattle.arm7tdmi.specs.declared.Form.TheVariants.{Bench, Sheet}
use Rattle.arm7tdmi.specs.declared.alu.AluOpCode.{AluOpCode}
use Rattle.arm7tdmi.specs.declared.alu.AluOpCode.TheVariants as Op
use Rattle.arm7tdmi.specs.declared.alu.BarrelShiftOpCode.{BarrelShiftOpCode}
use Rattle.arm7tdmi.specs.declared.alu.BarrelShiftOpCode.TheVariants as Shift
use Rattle.arm7tdmi.specs.declared.alu.Amount.{Amount}
use Rattle.arm7tdmi.specs.declared.alu.Amount.TheVariants.{Places, Rrx}
use Rattle.arm7tdmi.specs.declared.alu.BarrelShifterValue.{BarrelShifterValue}
use Rattle.arm7tdmi.specs.declared.alu.BarrelShifterValue.TheVariants as Value

-- the opcodes in the order of their numbers, and the opcode of a number of four bits
abbrev pub alu_op_codes : List AluOpCode
alu_op_codes =
    Op.AND ∷ Op.EOR ∷ Op.SUB ∷ Op.RSB ∷ Op.ADD ∷ Op.ADC ∷ Op.SBC ∷ Op.RSC ∷ Op.TST ∷ Op.TEQ ∷ Op.CMP ∷ Op.CMN ∷ Op.ORR ∷ Op.MOV ∷ Op.BIC ∷ Op.MVN ∷ []

unfoldable pub alu_op_code : ℕ → AluOpCode
alu_op_code n = slice_index_or alu_op_codes (n % 16) Op.MVN

abbrev pub alu_number : AluOpCode → ℕ
alu_number Op.AND = 0
alu_number Op.EOR = 1
alu_number Op.SUB = 2
alu_number Op.RSB = 3
alu_number Op.ADD = 4
alu_number Op.ADC = 5
alu_number Op.SBC = 6
alu_number Op.RSC = 7
alu_number Op.TST = 8
alu_number Op.TEQ = 9
alu_number Op.CMP = 10
alu_number Op.CMN = 11
alu_number Op.ORR = 12
alu_number Op.MOV = 13
alu_number Op.BIC = 14
alu_number Op.MVN = 15

-- the opcodes that have no result but the flags
abbrev pub is_setting_flags : AluOpCode → Bool
is_setting_flags Op.AND = false
is_setting_flags Op.EOR = false
is_setting_flags Op.SUB = false
is_setting_flags Op.RSB = false
is_setting_flags Op.ADD = false
is_setting_flags Op.ADC = false
is_setting_flags Op.SBC = false
is_setting_flags Op.RSC = false
is_setting_flags Op.TST = true
is_setting_flags Op.TEQ = true
is_setting_flags Op.CMP = true
is_setting_flags Op.CMN = true
is_setting_flags Op.ORR = false
is_setting_flags Op.MOV = false
is_setting_flags Op.BIC = false
is_setting_flags Op.MVN = false

-- the opcodes that have a result and no first operand
abbrev pub is_move : AluOpCode → Bool
is_move Op.AND = false
is_move Op.EOR = false
is_move Op.SUB = false
is_move Op.RSB = false
is_move Op.ADD = false
is_move Op.ADC = false
is_move Op.SBC = false
is_move Op.RSC = false
is_move Op.TST = false
is_move Op.TEQ = false
is_move Op.CMP = false
is_move Op.CMN = false
is_move Op.ORR = false
is_move Op.MOV = true
is_move Op.BIC = false
is_move Op.MVN = true

-- the shifts in the order of their numbers, and the shift of a number of two bits
abbrev pub barrel_shift_op_codes : List BarrelShiftOpCode
barrel_shift_op_codes = Shift.LSL ∷ Shift.LSR ∷ Shift.ASR ∷ Shift.ROR ∷ []

unfoldable pub barrel_shift_op_code : ℕ → BarrelShiftOpCode
barrel_shift_op_code n = slice_index_or barrel_shift_op_codes (n % 4) Shift.ROR

abbrev pub barrel_shift_number : BarrelShiftOpCode → ℕ
barrel_shift_number Shift.LSL = 0
barrel_shift_number Shift.LSR = 1
barrel_shift_number Shift.ASR = 2
barrel_shift_number Shift.ROR = 3

-- ---- what the immediate amount of a shift means, in both sets
-- S10: "By the data sheet, an immediate amount of 0 means 32 for LSR and ASR, and RRX for ROR". ARM DDI 0029 has the rule under the shifts of data
-- processing: the codes of LSR #0, ASR #0 and ROR #0 stand for LSR #32, ASR #32 and RRX, that of LSL #0 for the register as it is.
abbrev pub amount_of_zero : BarrelShiftOpCode → Amount
amount_of_zero Shift.LSL = Places 0
amount_of_zero Shift.LSR = Places 32
amount_of_zero Shift.ASR = Places 32
amount_of_zero Shift.ROR = Rrx

unfoldable pub sheet_amount : BarrelShiftOpCode → ℕ → Amount
sheet_amount op n = cond (n == 0) (amount_of_zero op) (Places n)

-- "Bench lines keep the field's value"
unfoldable pub amount_of : Form → BarrelShiftOpCode → ℕ → Amount
amount_of Bench op n = Places n
amount_of Sheet op n = sheet_amount op n

-- by how many places, as a line states them: of RRX none
abbrev pub places : Amount → ℕ
places (Places n) = n
places Rrx = 0

-- a word of 32 bits cut into its upper part and its lowest k bits, and these put on top
abbrev turned : ℕ → ℕ → ℕ
turned v k = v / 2 ^ k + v % 2 ^ k * 2 ^ (32 - k)

-- turned right by n places
unfoldable pub rotate_right : ℕ → ℕ → ℕ
rotate_right v n = turned v (n % 32)

unfoldable pub decode_rotated_immediate : BarrelShifterValue → Option ℕ
decode_rotated_immediate (Value.ImmediateValue v) = None
decode_rotated_immediate (Value.RotatedImmediate v n) = Some (rotate_right v n)
decode_rotated_immediate (Value.ShiftedRegister r) = None
