-- How long the operands of a line are. Assumes nothing.
use Rattle.std.proofs.Common.{ℕ, ◌<◌, eqb, arith}
use Rattle.common.specs.Bits.{bit, bit_range}
use Rattle.common.proofs.Tests.{by_test}
use Rattle.text.specs.Text.{text}
use Rattle.text.proofs.Within.{Within, ◌&◌, exactly, loosely, of_two, or_none, hex_within, prefixed_within}
use Rattle.arm7tdmi.specs.Names.{reg_string, reg_names}
use Rattle.arm7tdmi.specs.declared.Form.{Form}
use Rattle.arm7tdmi.specs.declared.Form.TheVariants.{Bench, Sheet}
use Rattle.arm7tdmi.proofs.Names.{reg_within}
use Rattle.lines.proofs.Lengths.{reg_at_within, either_within, if_set_within, registers_within}
use Rattle.thumb_operand.specs.Operand.{high_dst, dst_reg, src_reg, dst_and_src, add_sub_operand, sp_size, sp_bits, sheet_sp_offset, sp_offset, link_name, push_pop_list, link_text, base_text}
use Rattle.thumb_operand.proofs.PushPop.{push_pop_list_lem}

-- ---- high registers
high_dst_lem : (form : Form) (raw : ℕ) → high_dst form raw < 16
unfolding high_dst
high_dst_lem Bench raw = omega arith
high_dst_lem Sheet raw = omega arith

dst : (form : Form) (raw : ℕ) → dst_reg form raw < 16
unfolding dst_reg
dst form raw = let h = high_dst_lem form raw in by_test (bit raw 7) (λ t. rw t h) (λ t. rw t (omega arith))

pub src : (raw : ℕ) → src_reg raw < 16
unfolding src_reg
src raw = by_test (bit raw 6) (λ t. rw t (omega arith)) (λ t. rw t (omega arith))

pub dst_and_src_lem : (form : Form) (raw : ℕ) → Within 6 8 (dst_and_src form raw)
unfolding dst_and_src
dst_and_src_lem form raw = reg_within (dst_reg form raw) (dst form raw) & exactly (text ", ") & reg_within (src_reg raw) (src raw)

pub add_sub_operand_lem : (raw : ℕ) → Within 2 9 (add_sub_operand raw)
unfolding add_sub_operand
add_sub_operand_lem raw =
    of_two (bit raw 10) (exactly (text "#") & hex_within 1 (bit_range raw 6 9) (omega arith))
    (loosely (reg_at_within raw 6 9 (omega arith)) (omega arith) (omega arith))

pub sp_offset_lem : (form : Form) (raw : ℕ) → Within 1 11 (sp_offset form raw)
unfolding sp_offset sheet_sp_offset
sp_offset_lem Bench raw = loosely (hex_within 1 (sp_bits raw) (omega arith)) (omega arith) (omega arith)
sp_offset_lem Sheet raw = loosely (if_set_within raw 7 (exactly (text "-")) & prefixed_within 1 (sp_size raw) (omega arith)) (omega arith) (omega arith)

link_name_lem : (raw : ℕ) → Within 2 2 (link_name raw)
unfolding link_name
link_name_lem raw = either_within raw 11 (exactly (text "pc")) (exactly (text "lr"))

link : (raw : ℕ) → Within 0 4 (link_text raw)
unfolding link_text
link raw =
    or_none (bit raw 8)
    (of_two (eqb (bit_range raw 0 8) 0) (loosely {c = 2} {d = 4} (link_name_lem raw) (omega arith) (omega arith))
    (loosely (exactly (text ", ") & link_name_lem raw) (omega arith) (omega arith)))

pub push_pop : (raw : ℕ) → Within 0 34 (push_pop_list raw)
unfolding reg_string reg_names
push_pop raw = rw (← push_pop_list_lem raw) (registers_within raw 8 & link raw)

pub base : (form : Form) (raw : ℕ) → Within 2 3 (base_text form raw)
unfolding base_text
base Bench raw = reg_at_within raw 3 6 (omega arith)
base Sheet raw = reg_at_within raw 8 11 (omega arith)
