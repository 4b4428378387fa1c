-- A line is `<Undefined>` exactly if the kind is: all others begin with a name. Assumes nothing.
use Rattle.std.proofs.Common.{◌≡◌, eqb, ℕ, refl}
use Rattle.common.specs.Bits.{bit}
use Rattle.common.specs.Lists.{same}
use Rattle.text.specs.Text.{text}
use Rattle.lines.specs.Pieces.{either}
use Rattle.lines.proofs.Named.{Named, ◌&◌, not_undefined}
use Rattle.arm7tdmi.specs.declared.Form.{Form}
use Rattle.arm7tdmi.specs.declared.alu.AluOpCode.{AluOpCode}
use Rattle.arm7tdmi.specs.declared.alu.AluOpCode.TheVariants as Op
use Rattle.arm7tdmi.specs.declared.alu.BarrelShifterValue.{BarrelShifterValue}
use Rattle.arm.specs.Kinds.{arm_number}
use Rattle.arm.specs.declared.ArmFormat.{ArmFormat}
use Rattle.arm.specs.declared.ArmFormat.TheVariants as A
use Rattle.arm_disass.specs.Line.{fmt_branch, fmt_bx, fmt_data_processing, fmt_halfword, fmt_ldm_stm, fmt_ldr_str, fmt_ldr_str_hs_imm_offset, fmt_ldr_str_hs_reg_offset, fmt_move, fmt_mrs, fmt_msr, fmt_msr_flags, fmt_mul_mla, fmt_mull_mlal, fmt_opcode, fmt_swi, fmt_swp, fmt_test, fmt_three, line_of, op_text}
use Rattle.common.proofs.Tests.{by_test}

opcode : (form : Form) (raw : ℕ) (op : AluOpCode) → Named (fmt_opcode form raw op)
unfolding fmt_opcode fmt_move fmt_test fmt_three op_text
opcode form raw Op.AND = record { is = refl }
opcode form raw Op.EOR = record { is = refl }
opcode form raw Op.SUB = record { is = refl }
opcode form raw Op.RSB = record { is = refl }
opcode form raw Op.ADD = record { is = refl }
opcode form raw Op.ADC = record { is = refl }
opcode form raw Op.SBC = record { is = refl }
opcode form raw Op.RSC = record { is = refl }
opcode form raw Op.TST = record { is = refl }
opcode form raw Op.TEQ = record { is = refl }
opcode form raw Op.CMP = record { is = refl }
opcode form raw Op.CMN = record { is = refl }
opcode form raw Op.ORR = record { is = refl }
opcode form raw Op.MOV = record { is = refl }
opcode form raw Op.BIC = record { is = refl }
opcode form raw Op.MVN = record { is = refl }

halfword : (form : Form) (pc raw : ℕ) (o : BarrelShifterValue) → Named (fmt_halfword form pc raw o)
unfolding fmt_halfword either
halfword form pc raw o = record { is = by_test (bit raw 20) (λ t. rw t) (λ t. rw t) }

pub undefined_line : (form : Form) (fmt : ArmFormat) (pc raw : ℕ) → same (line_of form fmt pc raw) (text "<Undefined>") ≡ eqb (arm_number fmt) 14
unfolding line_of same fmt_bx fmt_branch fmt_swi fmt_mul_mla fmt_mull_mlal fmt_ldr_str fmt_ldr_str_hs_reg_offset fmt_ldr_str_hs_imm_offset fmt_data_processing fmt_ldm_stm fmt_swp fmt_mrs fmt_msr fmt_msr_flags either
undefined_line form A.BranchExchange pc raw = refl
undefined_line form A.BranchLink pc raw = refl
undefined_line form A.SoftwareInterrupt pc raw = refl
undefined_line form A.Multiply pc raw = by_test (bit raw 21) (λ t. rw t) (λ t. rw t)
undefined_line form A.MultiplyLong pc raw = by_test (bit raw 22) (λ t. rw t) (λ t. rw t)
undefined_line form A.SingleDataTransfer pc raw = by_test (bit raw 20) (λ t. rw t) (λ t. rw t)
undefined_line form A.HalfwordDataTransferRegOffset pc raw = not_undefined (halfword form pc raw _)
undefined_line form A.HalfwordDataTransferImmediateOffset pc raw = not_undefined (halfword form pc raw _)
undefined_line form A.DataProcessing pc raw = not_undefined (opcode form raw _ & _)
undefined_line form A.BlockDataTransfer pc raw = by_test (bit raw 20) (λ t. rw t) (λ t. rw t)
undefined_line form A.SingleDataSwap pc raw = refl
undefined_line form A.MoveFromStatus pc raw = refl
undefined_line form A.MoveToStatus pc raw = refl
undefined_line form A.MoveToFlags pc raw = refl
undefined_line form A.Undefined pc raw = refl
