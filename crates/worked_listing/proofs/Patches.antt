-- The patches of the table are what the definitions give. Assumes nothing.
use Rattle.std.proofs.Common.{◌≡◌, ℕ, ◌^◌, ◌<◌, cond, ltb, List, [], ◌∷◌, map, refl, ◌∙◌, arith, Result, Ok, Err}
use Rattle.std.specs.Prelude.{⊤}
use Rattle.refusal.specs.declared.Refusal.{Refusal}
use Rattle.refusal.specs.declared.Refusal.TheVariants.{NoWord}
use Rattle.common.specs.Lists.{first, same}
use Rattle.common.specs.Lowest.{lowest}
use Rattle.text.specs.Digits.{dec, digit_value, digits, hex, prefixed, value_from}
use Rattle.text.specs.Word as Words
use Rattle.arm7tdmi.specs.Alu.{alu_op_code, amount_of, barrel_shift_op_code, decode_rotated_immediate, rotate_right, sheet_amount}
use Rattle.arm7tdmi.specs.Cond.{arm_cond}
use Rattle.arm7tdmi.specs.Names.{cond_named, cond_names, cond_text, reg_named, reg_names, reg_string}
use Rattle.arm7tdmi.specs.Signed.{extended, moved}
use Rattle.arm7tdmi.specs.declared.Form.TheVariants.{Sheet}
use Rattle.lines.specs.Address.{address}
use Rattle.lines.specs.Pieces.{cond_at, either, if_set, reg_at}
use Rattle.arm.specs.Fields as Arm
use Rattle.arm.specs.Kinds.{arm_rows}
use Rattle.arm_disass.specs.Line as ALine
use Rattle.arm_operand.specs.Operand as AOperand
use Rattle.arm_print.specs.Print as APrint
use Rattle.arm_candidate.specs.Candidate.{candidate}
use Rattle.arm_candidate.specs.CandidateDataProcessing.{dp_cand, dp_from}
use Rattle.arm_candidate.specs.CandidateOperand.{immediate_of, operand_of, rotation_of, shift_named, shift_names, shift_of, shifted_of}
use Rattle.arm_candidate.specs.CandidateSimple.{undefined_cand}
use Rattle.arm_mnemonic.specs.Heads.{cond_of, head_of, stem_names, stem_of, stems}
use Rattle.arm_lowest.specs.Read.{read_arm}
use Rattle.arm_lowest.proofs.Read.{read_arm_lem}
use Rattle.thumb.specs.Fields as Thumb
use Rattle.thumb.specs.Kinds.{thumb_rows}
use Rattle.thumb.specs.Pair.{is_first_half, is_pair, is_second_half, pair_target}
use Rattle.thumb_operand.specs.Operand as TOperand
use Rattle.thumb_disass.specs.Line as TLine
use Rattle.thumb_print.specs.Print as TPrint
use Rattle.thumb_mnemonic.specs.Rows.{rows}
use Rattle.thumb_candidate.specs.Candidate as TCandidate
use Rattle.thumb_lowest.specs.Read.{read_thumb}
use Rattle.thumb_lowest.proofs.Read.{read_thumb_lem}
use Rattle.reading.proofs.Several.{best}
use Rattle.reading.specs.Read.{is_line}
use Rattle.pairs.specs.Print.{pair_line, pair_text}
use Rattle.image.specs.Bytes.{half, word}
use Rattle.image.specs.Refusal.{refusal, refusal_at, wrong_pairs}
use Rattle.image.specs.Stretches.{pairs, pairs_from, set_at}
use Rattle.image.specs.declared.Set.{Set}
use Rattle.steps.specs.Steps.{call_pair, span_in, span_line, steps, steps_for}
use Rattle.patch.specs.Patch.{patched, patched_in, patched_unless, patch_refusal, read_in, stored, with_number, words_of}
use Rattle.worked_listing.specs.Patches.{Row, given_row, row_of, table}

-- what a line reads as, with the reader's law in place of the lowest word
abbrev read_by_law : Set → ℕ → List ℕ → ℕ
read_by_law Set.Arm p l = cond (is_line (APrint.arm_line Sheet p (candidate Sheet p l)) l) (candidate Sheet p l) (2 ^ 32)
read_by_law (Set.Thumb e) p l = best (λ w. is_line (TPrint.thumb_line Sheet p w) l) (2 ^ 16) (TCandidate.candidates Sheet p l)

read_law : (s : Set) (p : ℕ) (l : List ℕ) → p < 2 ^ 32 → read_in s p l ≡ read_by_law s p l
unfolding read_arm read_thumb
read_law Set.Arm p l h = read_arm_lem Sheet p h l
read_law (Set.Thumb e) p l h = read_thumb_lem Sheet p l

-- what a patch gives, likewise
abbrev stored_by : List ℕ → Set → ℕ → ℕ → Result ⊤ Refusal × List ℕ
stored_by image s at w = cond (ltb w (words_of s)) (Ok tt, stored image s at w) (Err NoWord, image)

abbrev by_law : List ℕ → List ℕ → ℕ → ℕ → List ℕ → Result ⊤ Refusal × List ℕ
by_law image list base at l = patched_unless (patch_refusal image list at) (stored_by image (set_at (pairs list) at) at (read_by_law (set_at (pairs list) at) (moved base at) l)) image

law : (image list : List ℕ) (base at : ℕ) (l : List ℕ) → patched image list base at l ≡ by_law image list base at l
unfolding patched patched_in
law image list base at l = rw (read_law (set_at (pairs list) at) (moved base at) l (omega arith))

abbrev law_row : Row → Row
law_row r = row_of r (by_law r.image r.list r.base r.offset r.line)

computed : map law_row table ≡ table
unfolding half word refusal refusal_at wrong_pairs pairs pairs_from set_at patch_refusal with_number call_pair span_in span_line steps steps_for is_pair is_first_half is_second_half pair_target pair_line pair_text first same digits hex prefixed dec digit_value value_from address extended alu_op_code amount_of barrel_shift_op_code decode_rotated_immediate rotate_right sheet_amount arm_cond arm_rows thumb_rows reg_names reg_string cond_names cond_text reg_named cond_named cond_at either if_set reg_at Arm.branch_offset Arm.branch_target Arm.bs_op Arm.shift_reg_by Arm.operand2 ALine.op_text ALine.fmt_branch ALine.fmt_move ALine.fmt_test ALine.fmt_three ALine.fmt_opcode ALine.fmt_data_processing AOperand.shift_text AOperand.places_text AOperand.amount_text AOperand.by_amount AOperand.shift_by AOperand.shifted_register AOperand.fmt_operand2 AOperand.immediate AOperand.decoded_text AOperand.rd_text ALine.line_of APrint.refusal_of APrint.answer_of APrint.arm_line candidate dp_cand dp_from undefined_cand cond_of head_of stem_names stem_of stems immediate_of lowest operand_of rotation_of shift_named shift_names shift_of shifted_of Words.is_word Words.word Words.behind Words.after Words.has Thumb.op_format5 Thumb.branch_target Thumb.call_half TOperand.high_dst TOperand.dst_reg TOperand.src_reg TOperand.dst_and_src TOperand.high_operands TLine.op5_text TLine.fmt_thumb_high_reg_op_or_bx TLine.fmt_thumb_branch TLine.fmt_thumb_branch_long_with_link TLine.line_of TPrint.thumb_line TCandidate.candidates TCandidate.candidate TCandidate.operands TCandidate.offset_in TCandidate.high_in TCandidate.low_in TCandidate.shift_in TCandidate.suits TLine.shift_text TLine.fmt_thumb_move_shifted_reg rows best
computed = refl

-- rows that are given alike are given alike as a table
alike : (rs : List Row) → map given_row rs ≡ map law_row rs
alike [] = refl
alike (r ∷ rs) = rw (law r.image r.list r.base r.offset r.line, alike rs)

pub worked_patches : map given_row table ≡ table
worked_patches = alike table ∙ computed
