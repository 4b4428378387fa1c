-- The listings and refusals of the table are what the definitions give. Assumes nothing.
use Rattle.std.proofs.Common.{◌≡◌, map, refl}
use Rattle.common.specs.Lists.{first}
use Rattle.text.specs.Digits.{digits, hex, prefixed}
use Rattle.arm7tdmi.specs.Alu.{alu_op_code, amount_of, barrel_shift_op_code, sheet_amount}
use Rattle.arm7tdmi.specs.Cond.{arm_cond}
use Rattle.arm7tdmi.specs.Names.{cond_names, cond_text, reg_names, reg_string}
use Rattle.arm7tdmi.specs.Signed.{extended}
use Rattle.lines.specs.Address.{address}
use Rattle.lines.specs.Pieces.{cond_at, either, if_set, reg_at}
use Rattle.arm.specs.Fields as Arm
use Rattle.arm.specs.Kinds.{arm_rows}
use Rattle.arm_disass.specs.Line as ALine
use Rattle.arm_operand.specs.Operand as AOperand
use Rattle.arm_print.specs.Print as APrint
use Rattle.thumb.specs.Fields as Thumb
use Rattle.thumb.specs.Kinds.{thumb_rows}
use Rattle.thumb.specs.Pair.{is_first_half, is_pair, is_second_half, pair_target}
use Rattle.thumb_operand.specs.Operand as TOperand
use Rattle.thumb_disass.specs.Line as TLine
use Rattle.thumb_print.specs.Print as TPrint
use Rattle.pairs.specs.Print.{pair_line, pair_text}
use Rattle.image.specs.Bytes.{half, word}
use Rattle.image.specs.Refusal.{refusal, refusal_at, wrong_pairs}
use Rattle.image.specs.Stretches.{pairs, pairs_from, set_at}
use Rattle.steps.specs.Steps.{call_pair, span_in, span_line, steps, steps_for}
use Rattle.worked_listing.specs.Listings.{given_refusal, given_row, refusals, table}

pub worked_listings : map given_row table ≡ table
unfolding half word refusal refusal_at wrong_pairs pairs pairs_from set_at call_pair span_in span_line steps steps_for first digits hex prefixed arm_cond cond_names cond_text reg_names reg_string extended address cond_at either if_set reg_at Arm.branch_offset Arm.branch_target arm_rows ALine.fmt_branch alu_op_code amount_of barrel_shift_op_code sheet_amount Arm.bs_op Arm.shift_reg_by Arm.operand2 AOperand.shift_text AOperand.places_text AOperand.amount_text AOperand.by_amount AOperand.shift_by AOperand.shifted_register AOperand.fmt_operand2 ALine.op_text ALine.fmt_test ALine.fmt_opcode ALine.fmt_data_processing ALine.line_of APrint.refusal_of APrint.answer_of APrint.arm_line Thumb.op_format5 Thumb.branch_target Thumb.call_half thumb_rows is_first_half is_pair is_second_half pair_target TOperand.high_dst TOperand.dst_reg TOperand.src_reg TOperand.dst_and_src TOperand.high_operands TLine.op5_text TLine.fmt_thumb_high_reg_op_or_bx TLine.fmt_thumb_branch TLine.fmt_thumb_branch_long_with_link TLine.line_of TPrint.thumb_line pair_line pair_text
worked_listings = refl

pub worked_refusals : map given_refusal refusals ≡ refusals
unfolding half word refusal refusal_at wrong_pairs pairs pairs_from set_at
worked_refusals = refl
