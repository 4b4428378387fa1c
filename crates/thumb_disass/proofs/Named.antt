-- A line is `<Undefined>` exactly if the kind is: all others begin with a name. Assumes nothing.
use Rattle.std.proofs.Common.{◌≡◌, eqb, ℕ, refl}
use Rattle.common.specs.Bits.{bit}
use Rattle.common.specs.Lists.{same}
use Rattle.text.specs.Text.{text}
use Rattle.lines.specs.Pieces.{either}
use Rattle.lines.proofs.Named.{Named, ◌&◌, not_undefined, of_two}
use Rattle.arm7tdmi.specs.declared.Form.{Form}
use Rattle.arm7tdmi.specs.declared.alu.BarrelShiftOpCode.{BarrelShiftOpCode}
use Rattle.arm7tdmi.specs.declared.alu.BarrelShiftOpCode.TheVariants as Shift
use Rattle.thumb.specs.Kinds.{thumb_number}
use Rattle.thumb.specs.declared.OpFormat3.{OpFormat3}
use Rattle.thumb.specs.declared.OpFormat3.TheVariants as Three
use Rattle.thumb.specs.declared.OpFormat5.{OpFormat5}
use Rattle.thumb.specs.declared.OpFormat5.TheVariants as Five
use Rattle.thumb.specs.declared.ThumbAluOps.{ThumbAluOps}
use Rattle.thumb.specs.declared.ThumbAluOps.TheVariants as Op
use Rattle.thumb.specs.declared.ThumbFormat.{ThumbFormat}
use Rattle.thumb.specs.declared.ThumbFormat.TheVariants as H
use Rattle.thumb_disass.specs.Line.{alu_op_text, fmt_thumb_add_sp, fmt_thumb_add_sub, fmt_thumb_alu_ops, fmt_thumb_branch, fmt_thumb_branch_long_with_link, fmt_thumb_branch_with_cond, fmt_thumb_data_process_imm, fmt_thumb_high_reg_op_or_bx, fmt_thumb_ldm_stm, fmt_thumb_ldr_pc, fmt_thumb_ldr_str_halfword, fmt_thumb_ldr_str_imm_offset, fmt_thumb_ldr_str_reg_offset, fmt_thumb_ldr_str_shb, fmt_thumb_ldr_str_sp, fmt_thumb_load_address, fmt_thumb_move_shifted_reg, fmt_thumb_push_pop, fmt_thumb_swi, line_of, op3_text, op5_text, shb_text, shift_text}
use Rattle.common.proofs.Tests.{by_test}

shift : (op : BarrelShiftOpCode) → Named (shift_text op)
unfolding shift_text
shift Shift.LSL = record { is = refl }
shift Shift.LSR = record { is = refl }
shift Shift.ASR = record { is = refl }
shift Shift.ROR = record { is = refl }

op3 : (op : OpFormat3) → Named (op3_text op)
unfolding op3_text
op3 Three.MOV = record { is = refl }
op3 Three.CMP = record { is = refl }
op3 Three.ADD = record { is = refl }
op3 Three.SUB = record { is = refl }

op5 : (op : OpFormat5) → Named (op5_text op)
unfolding op5_text
op5 Five.ADD = record { is = refl }
op5 Five.CMP = record { is = refl }
op5 Five.MOV = record { is = refl }
op5 Five.BX = record { is = refl }

alu : (op : ThumbAluOps) → Named (alu_op_text op)
unfolding alu_op_text
alu Op.AND = record { is = refl }
alu Op.EOR = record { is = refl }
alu Op.LSL = record { is = refl }
alu Op.LSR = record { is = refl }
alu Op.ASR = record { is = refl }
alu Op.ADC = record { is = refl }
alu Op.SBC = record { is = refl }
alu Op.ROR = record { is = refl }
alu Op.TST = record { is = refl }
alu Op.NEG = record { is = refl }
alu Op.CMP = record { is = refl }
alu Op.CMN = record { is = refl }
alu Op.ORR = record { is = refl }
alu Op.MUL = record { is = refl }
alu Op.BIC = record { is = refl }
alu Op.MVN = record { is = refl }

shb : (raw : ℕ) → Named (shb_text raw)
unfolding shb_text either
shb raw =
    of_two (bit raw 10)
    (of_two (bit raw 11) (record { is = refl }) (record { is = refl }))
    (of_two (bit raw 11) (record { is = refl }) (record { is = refl }))

pub undefined_line : (form : Form) (fmt : ThumbFormat) (pc raw : ℕ) → same (line_of form fmt pc raw) (text "<Undefined>") ≡ eqb (thumb_number fmt) 19
unfolding line_of same fmt_thumb_move_shifted_reg fmt_thumb_data_process_imm fmt_thumb_alu_ops fmt_thumb_high_reg_op_or_bx fmt_thumb_ldr_pc fmt_thumb_ldr_str_reg_offset fmt_thumb_ldr_str_shb fmt_thumb_ldr_str_imm_offset fmt_thumb_ldr_str_halfword fmt_thumb_ldr_str_sp fmt_thumb_load_address fmt_thumb_add_sub fmt_thumb_add_sp fmt_thumb_push_pop fmt_thumb_ldm_stm fmt_thumb_branch_with_cond fmt_thumb_swi fmt_thumb_branch fmt_thumb_branch_long_with_link either
undefined_line form H.MoveShiftedReg pc raw = not_undefined (shift _ & _ & _ & _ & _ & _ & _)
undefined_line form H.AddSub pc raw = by_test (bit raw 9) (λ t. rw t) (λ t. rw t)
undefined_line form H.DataProcessImm pc raw = not_undefined (op3 _ & _ & _ & _ & _)
undefined_line form H.AluOps pc raw = not_undefined (alu _ & _ & _ & _ & _)
undefined_line form H.HiRegOpOrBranchExchange pc raw = not_undefined (op5 _ & _ & _)
undefined_line form H.LdrPc pc raw = refl
undefined_line form H.LdrStrRegOffset pc raw = by_test (bit raw 11) (λ t. rw t) (λ t. rw t)
undefined_line form H.LdrStrSHB pc raw = not_undefined (shb raw & _ & _ & _ & _ & _ & _ & _)
undefined_line form H.LdrStrImmOffset pc raw = by_test (bit raw 11) (λ t. rw t) (λ t. rw t)
undefined_line form H.LdrStrHalfWord pc raw = by_test (bit raw 11) (λ t. rw t) (λ t. rw t)
undefined_line form H.LdrStrSp pc raw = by_test (bit raw 11) (λ t. rw t) (λ t. rw t)
undefined_line form H.LoadAddress pc raw = refl
undefined_line form H.AddSp pc raw = refl
undefined_line form H.PushPop pc raw = by_test (bit raw 11) (λ t. rw t) (λ t. rw t)
undefined_line form H.LdmStm pc raw = by_test (bit raw 11) (λ t. rw t) (λ t. rw t)
undefined_line form H.BranchConditional pc raw = refl
undefined_line form H.Swi pc raw = refl
undefined_line form H.Branch pc raw = refl
undefined_line form H.BranchLongWithLink pc raw = refl
undefined_line form H.Undefined pc raw = refl
