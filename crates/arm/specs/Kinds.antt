-- The kinds of ARM words: the first row of mask, value and kind that a word meets. Assumes nothing.
use Rattle.std.specs.Prelude.{ℕ, List, [], ◌∷◌, slice_index_or}
use Rattle.arm7tdmi.specs.declared.Form.{Form}
use Rattle.arm7tdmi.specs.declared.Form.TheVariants.{Bench, Sheet}
use Rattle.arm7tdmi.specs.declared.kinds.Row.{Row}
use Rattle.arm.specs.declared.ArmFormat.{ArmFormat}
use Rattle.arm.specs.declared.ArmFormat.TheVariants as A
use Rattle.arm7tdmi.specs.Kinds.{row, first_row}

-- bits 27-25 equal to 011: bench, Undefined with bit 4 clear; sheet (S2), "Undefined with bit 4 set"
abbrev pub undefined_bits : Form → ℕ
undefined_bits Bench = 0x06000000
undefined_bits Sheet = 0x06000010

-- the Rust's tests, in its order
unfoldable pub arm_rows : Form → List (Row ArmFormat)
arm_rows form =
    row 0x0ffffff0 0x012fff10 A.BranchExchange ∷
    row 0x0e000000 0x0a000000 A.BranchLink ∷
    row 0x0e000010 (undefined_bits form) A.Undefined ∷
    row 0x0fb00ff0 0x01000090 A.SingleDataSwap ∷
    row 0x0fc000f0 0x00000090 A.Multiply ∷
    row 0x0f8000f0 0x00800090 A.MultiplyLong ∷
    row 0x0fbf0fff 0x010f0000 A.MoveFromStatus ∷
    row 0x0fbffff0 0x0129f000 A.MoveToStatus ∷
    row 0x0dbff000 0x0128f000 A.MoveToFlags ∷
    row 0x0c000000 0x04000000 A.SingleDataTransfer ∷
    row 0x0e400f90 0x00000090 A.HalfwordDataTransferRegOffset ∷
    row 0x0e400090 0x00400090 A.HalfwordDataTransferImmediateOffset ∷
    row 0x0e000000 0x08000000 A.BlockDataTransfer ∷
    row 0x0f000000 0x0f000000 A.SoftwareInterrupt ∷
    row 0x0c000000 0x00000000 A.DataProcessing ∷
    []

-- row i, and none past the last
abbrev pub arm_none : Row ArmFormat
arm_none = row 0 0 A.Undefined

abbrev pub arm_row_at : Form → ℕ → Row ArmFormat
arm_row_at form i = slice_index_or (arm_rows form) i arm_none

abbrev pub arm_first : List (Row ArmFormat) → ℕ → ArmFormat
arm_first = first_row A.Undefined

abbrev pub arm_format : Form → ℕ → ArmFormat
arm_format form w = arm_first (arm_rows form) w

-- a kind's number, in the order of the Rust's enum
abbrev pub arm_number : ArmFormat → ℕ
arm_number A.BranchExchange = 0
arm_number A.BranchLink = 1
arm_number A.SoftwareInterrupt = 2
arm_number A.Multiply = 3
arm_number A.MultiplyLong = 4
arm_number A.SingleDataTransfer = 5
arm_number A.HalfwordDataTransferRegOffset = 6
arm_number A.HalfwordDataTransferImmediateOffset = 7
arm_number A.DataProcessing = 8
arm_number A.BlockDataTransfer = 9
arm_number A.SingleDataSwap = 10
arm_number A.MoveFromStatus = 11
arm_number A.MoveToStatus = 12
arm_number A.MoveToFlags = 13
arm_number A.Undefined = 14
