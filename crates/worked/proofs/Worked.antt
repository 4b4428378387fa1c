-- The worked lines are what the definitions give. Assumes nothing.
use mathlib.Core.Bool.{cond}
use mathlib.Core.List.{map}
use mathlib.Core.Path.{◌≡◌, ◌∙◌, refl}
use Prim.Native.Nat.{◌^◌}
use native.Mathlib.Omega.{arith}
use Rattle.arm7tdmi.specs.Alu.{alu_op_code, amount_of, barrel_shift_op_code, decode_rotated_immediate, rotate_right, sheet_amount}
use Rattle.arm.specs.Fields as Arm
use Rattle.arm.specs.Kinds.{arm_rows}
use Rattle.thumb.specs.Kinds.{thumb_rows}
use Rattle.arm7tdmi.specs.Names.{cond_named, cond_names, cond_text, reg_named, reg_names, reg_string}
use Rattle.lines.specs.Address.{address}
use Rattle.lines.specs.Pieces.{reg_at, cond_at, either, if_set, set_bits, registers, listed}
use Rattle.arm7tdmi.specs.Signed.{extended}
use Rattle.thumb.specs.Fields as Thumb
use Rattle.arm_disass.specs.Line as ALine
use Rattle.arm_operand.specs.Operand as AOperand
use Rattle.arm7tdmi.specs.Cond.{arm_cond}
use Rattle.arm_print.specs.Print as APrint
use Rattle.common.specs.Lists.{first, same}
use Rattle.common.specs.Lowest.{lowest}
use Rattle.text.specs.Digits.{digit_value, digits, hex, prefixed, dec, value_from}
use Rattle.thumb_disass.specs.Line as TLine
use Rattle.thumb_operand.specs.Operand as TOperand
use Rattle.thumb_print.specs.Print as TPrint
use Rattle.arm7tdmi.specs.declared.Form.{Form}
use Rattle.arm7tdmi.specs.declared.Form.TheVariants.{Bench, Sheet}
use Rattle.arm_lowest.proofs.Read.{read_arm_lem}
use Rattle.thumb_lowest.proofs.Read.{read_thumb_lem}
use Rattle.arm_candidate.specs.Candidate.{candidate}
use Rattle.arm_candidate.specs.CandidateDataProcessing.{dp_cand, dp_from}
use Rattle.arm_candidate.specs.CandidateOperand.{immediate_of, operand_of, rotation_of, shift_named, shift_names, shift_of, shifted_of}
use Rattle.arm_candidate.specs.CandidateSimple.{undefined_cand}
use Rattle.arm_mnemonic.specs.Heads.{cond_of, head_of, stem_names, stem_of, stems}
use Rattle.thumb_candidate.specs.Candidate as TCandidate
use Rattle.thumb_mnemonic.specs.Rows.{rows}
use Rattle.reading.proofs.Several.{best}
use Rattle.reading.specs.Read.{is_line}
use Rattle.text.specs.Word as Words
use Rattle.worked.proofs.Rows.{rows_alike}
use Rattle.worked.specs.Worked.{Input, Output, arm, arm_read, gives, given_row, table, thumb, thumb_read, word}

-- what they give, with the reader's law in place of the lowest word
abbrev by_law : Form → Input → Output
by_law form (arm w address) = gives form (arm w address)
by_law form (thumb w address) = gives form (thumb w address)
by_law form (arm_read l) = word (cond (is_line (APrint.arm_line form 0 (candidate form 0 l)) l) (candidate form 0 l) (2 ^ 32))
by_law form (thumb_read l address) = word (best (λ w. is_line (TPrint.thumb_line form address w) l) (2 ^ 16) (TCandidate.candidates form address l))

law : (form : Form) (i : Input) → gives form i ≡ by_law form i
law form (arm w address) = refl
law form (thumb w address) = refl
law form (arm_read l) = rw (read_arm_lem form 0 (omega arith) l)
law form (thumb_read l address) = rw (read_thumb_lem form address l)

computed : map (given_row by_law) table ≡ table
unfolding alu_op_code amount_of barrel_shift_op_code decode_rotated_immediate rotate_right sheet_amount arm_cond Arm.halfword_type Arm.branch_offset Arm.branch_target Arm.bs_op Arm.shift_reg_by Arm.operand2 Arm.added_of Arm.signed_offset Arm.ldr_str_offset arm_rows thumb_rows reg_names reg_string cond_names cond_text reg_at cond_at either if_set set_bits registers listed extended Thumb.op_format5 Thumb.sword7 ALine.op_text AOperand.shift_text AOperand.places_text AOperand.amount_text AOperand.by_amount AOperand.shift_by AOperand.shifted_register ALine.bx_cond ALine.fmt_bx ALine.fmt_branch AOperand.fmt_operand2 AOperand.rd_text ALine.fmt_move ALine.fmt_three ALine.fmt_opcode ALine.fmt_data_processing AOperand.bench_offset AOperand.magnitude AOperand.sheet_offset AOperand.immediate_offset AOperand.sign_text AOperand.signed_register AOperand.offset_text AOperand.indexed AOperand.value_comment AOperand.comment AOperand.fmt_rn_offset ALine.user_mark ALine.fmt_ldr_str ALine.line_of APrint.refusal_of APrint.answer_of APrint.arm_line ALine.fmt_swp ALine.halfword_text ALine.fmt_halfword ALine.fmt_ldr_str_hs_reg_offset Arm.ldr_str_hs_reg_offset ALine.fmt_msr ALine.fmt_msr_flags AOperand.flag_text AOperand.flags AOperand.flags_comment first digits hex prefixed dec TLine.shift_text TLine.shift_places TLine.fmt_thumb_move_shifted_reg TLine.op5_text TOperand.high_dst TOperand.dst_reg TOperand.src_reg TOperand.dst_and_src TOperand.high_operands TLine.fmt_thumb_high_reg_op_or_bx TOperand.sp_size TOperand.sp_bits TOperand.sheet_sp_offset TOperand.sp_offset TLine.fmt_thumb_add_sp TOperand.base_text TLine.fmt_thumb_ldm_stm TLine.line_of TPrint.thumb_line candidate dp_cand dp_from undefined_cand cond_of head_of stem_names stem_of stems same reg_named cond_named digit_value value_from Words.is_word Words.word Words.behind Words.after Words.has ALine.fmt_test AOperand.immediate AOperand.decoded_text immediate_of lowest operand_of rotation_of shift_named shift_names shift_of shifted_of Arm.pc_relative address Thumb.bcond_target Thumb.branch_target TLine.fmt_thumb_branch_with_cond TLine.fmt_thumb_branch TCandidate.candidates TCandidate.candidate TCandidate.operands TCandidate.offset_in TCandidate.suits rows best
computed = refl

pub worked : map (given_row gives) table ≡ table
worked = rows_alike (given_row gives) (given_row by_law) (λ r. rw (law Bench r.bench_input, law Sheet r.sheet_input)) table ∙ computed
