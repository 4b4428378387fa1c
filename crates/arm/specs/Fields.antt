-- ARM words: fields. Flags are bits, and need no definition. Assumes nothing.
use Rattle.std.specs.Prelude.{ℕ, ◌+◌, ◌-◌, ◌*◌, ◌%◌, ◌^◌, cond, List, [], ◌∷◌, ℤ, Bool, Option, Some, None, slice_index_or}
use Rattle.common.specs.Bits.{bit, bit_range}
use Rattle.arm7tdmi.specs.Alu.{barrel_shift_op_code}
use Rattle.arm7tdmi.specs.Signed.{signed_times, extended, moved}
use Rattle.arm7tdmi.specs.declared.alu.BarrelShiftOpCode.{BarrelShiftOpCode}
use Rattle.arm7tdmi.specs.declared.alu.BarrelShiftOpCode.TheVariants as Shift
use Rattle.arm7tdmi.specs.declared.alu.ShiftRegisterBy.{ShiftRegisterBy}
use Rattle.arm7tdmi.specs.declared.alu.ShiftRegisterBy.TheVariants as By
use Rattle.arm7tdmi.specs.declared.alu.BarrelShifterValue.{BarrelShifterValue}
use Rattle.arm7tdmi.specs.declared.alu.BarrelShifterValue.TheVariants as Value
use Rattle.arm.specs.declared.ArmHalfwordTransferType.{ArmHalfwordTransferType}
use Rattle.arm.specs.declared.ArmHalfwordTransferType.TheVariants as Half

-- the type of a halfword transfer, bits 6-5; 00 is none (refusal 2)
abbrev pub halfword_types : List (Option ArmHalfwordTransferType)
halfword_types = None ∷ Some Half.UnsignedHalfwords ∷ Some Half.SignedByte ∷ Some Half.SignedHalfwords ∷ []

unfoldable pub halfword_type : ℕ → Option ArmHalfwordTransferType
halfword_type raw = slice_index_or halfword_types (bit_range raw 5 7) None

-- the sign-extended 24-bit field times four
unfoldable pub branch_offset : ℕ → ℤ
branch_offset raw = signed_times 24 4 (bit_range raw 0 24)

-- where a branch goes: "the address plus the sign-extended 24-bit field times four plus 8"
unfoldable pub branch_target : ℕ → ℕ → ℕ
branch_target pc raw = moved (moved pc 8) (extended 24 4 (bit_range raw 0 24))

-- where an offset from pc points: "adds address + 8 when Rn is pc"
unfoldable pub pc_relative : ℕ → ℕ → ℕ
pc_relative pc n = moved (moved pc 8) n

-- how a register is shifted: bit 4 says by what
unfoldable pub bs_op : ℕ → BarrelShiftOpCode
bs_op raw = barrel_shift_op_code (bit_range raw 5 7)

unfoldable pub shift_reg_by : ℕ → ShiftRegisterBy
shift_reg_by raw = cond (bit raw 4) (By.ByRegister (bit_range raw 8 12)) (By.ByAmount (bit_range raw 7 12))

-- the second operand of data processing: with bit 25, eight bits turned right by twice the four above them
unfoldable pub operand2 : ℕ → BarrelShifterValue
operand2 raw =
    cond (bit raw 25)
    (Value.RotatedImmediate (bit_range raw 0 8) (2 * bit_range raw 8 12))
    (Value.ShiftedRegister (record { reg = bit_range raw 0 4; shift_by = shift_reg_by raw; bs_op = bs_op raw; added = None }))

-- U, bit 23: an offset is added, or subtracted
unfoldable pub added_of : ℕ → Option Bool
added_of raw = Some (bit raw 23)

-- an immediate offset as a number of 32 bits: with U clear, its negative
unfoldable pub signed_offset : ℕ → ℕ → ℕ
signed_offset raw n = cond (bit raw 23) n ((2 ^ 32 - n) % 2 ^ 32)

-- the offset of a transfer: with bit 25 a shifted register, else twelve bits
unfoldable pub ldr_str_offset : ℕ → BarrelShifterValue
ldr_str_offset raw =
    cond (bit raw 25)
    (Value.ShiftedRegister (record { reg = bit_range raw 0 4; shift_by = shift_reg_by raw; bs_op = bs_op raw; added = added_of raw }))
    (Value.ImmediateValue (signed_offset raw (bit_range raw 0 12)))

-- of a halfword transfer: eight bits in two halves, or a register
unfoldable pub ldr_str_hs_imm_offset : ℕ → BarrelShifterValue
ldr_str_hs_imm_offset raw = Value.ImmediateValue (signed_offset raw (bit_range raw 8 12 * 16 + bit_range raw 0 4))

unfoldable pub ldr_str_hs_reg_offset : ℕ → BarrelShifterValue
ldr_str_hs_reg_offset raw = Value.ShiftedRegister (record { reg = bit_range raw 0 4; shift_by = By.ByAmount 0; bs_op = Shift.LSL; added = added_of raw })
