-- THE LAW: a line is read back by its candidates. Assumes nothing.
use Prim.Native.Nat.{◌<◌, ◌^◌, ℕ}
use mathlib.Core.Bool.{Bool, true}
use mathlib.Core.List.{List, []}
use mathlib.Core.Path.{◌≡◌, ap, refl, sym}
use native.Mathlib.Omega.{arith}
use Rattle.lines.specs.Answer.{line}
use Rattle.thumb.specs.Kinds.{thumb_format}
use Rattle.arm7tdmi.specs.declared.Form.{Form}
use Rattle.thumb.specs.declared.ThumbFormat.{ThumbFormat}
use Rattle.common.proofs.Lists.{same_eq}
use Rattle.reading.proofs.Several.{Covers, best, covered}
use Rattle.reading.specs.Read.{is_line, read_back}
use Rattle.text.proofs.Word.{word_of}
use Rattle.text.specs.Text.{text}
use Rattle.text.specs.Word.{is_word}
use Rattle.thumb_disass.specs.Line.{line_of}
use Rattle.thumb_print.specs.Print.{thumb_line}
use Rattle.thumb_lowest.proofs.Branches.{branch_law, branch_conditional_law, branch_long_with_link_law}
use Rattle.thumb_lowest.proofs.Found.{Found, found_covers}
use Rattle.thumb_lowest.proofs.High.{high_reg_law}
use Rattle.thumb_lowest.proofs.Low.{add_sub_law, alu_ops_law, ldr_str_half_word_law, ldr_str_imm_offset_law, ldr_str_reg_offset_law, ldr_str_shb_law, move_shifted_reg_law}
use Rattle.thumb_lowest.proofs.Stack.{add_sp_law, ldm_stm_law, push_pop_law}
use Rattle.thumb_lowest.proofs.Wide.{data_process_imm_law, ldr_pc_law, ldr_str_sp_law, load_address_law, swi_law}
use Rattle.thumb_candidate.specs.Candidate.{candidate, candidates, operands, suits}
use Rattle.thumb_mnemonic.specs.Rows.{rows}
use Rattle.thumb_lowest.specs.Read.{read_thumb}
use Rattle.thumb_words.proofs.Rows.{undefined_least, undefined_lowest}
use Rattle.thumb.specs.declared.ThumbFormat.TheVariants as H

-- ---- Undefined: the lowest such word
undefined_law : (form : Form) (pc w : ℕ) → w < 2 ^ 16 → thumb_format form w ≡ H.Undefined → Found form pc w (line_of form H.Undefined pc w)
unfolding thumb_line line_of candidate operands suits rows is_word
undefined_law form pc w h e =
    let c : candidate form pc (text "<Undefined>") H.Undefined 0xb100 ≡ 0xb100 = refl in
    record {
      index = 46;
      there = omega arith;
      begins = sym (word_of [] (text "<Undefined>") refl refl);
      suited = refl;
      low = rw c (undefined_least form w h e);
      same_line = rw (c, e, undefined_lowest form);
    }

-- ---- each word is found, by its kind
of_kind : (form : Form) (pc : ℕ) (k : ThumbFormat) (w : ℕ) → w < 2 ^ 16 → thumb_format form w ≡ k → Found form pc w (line_of form k pc w)
of_kind form pc H.MoveShiftedReg = move_shifted_reg_law form pc
of_kind form pc H.AddSub = add_sub_law form pc
of_kind form pc H.DataProcessImm = data_process_imm_law form pc
of_kind form pc H.AluOps = alu_ops_law form pc
of_kind form pc H.HiRegOpOrBranchExchange = high_reg_law form pc
of_kind form pc H.LdrPc = ldr_pc_law form pc
of_kind form pc H.LdrStrRegOffset = ldr_str_reg_offset_law form pc
of_kind form pc H.LdrStrSHB = ldr_str_shb_law form pc
of_kind form pc H.LdrStrImmOffset = ldr_str_imm_offset_law form pc
of_kind form pc H.LdrStrHalfWord = ldr_str_half_word_law form pc
of_kind form pc H.LdrStrSp = ldr_str_sp_law form pc
of_kind form pc H.LoadAddress = load_address_law form pc
of_kind form pc H.AddSp = add_sp_law form pc
of_kind form pc H.PushPop = push_pop_law form pc
of_kind form pc H.LdmStm = ldm_stm_law form pc
of_kind form pc H.BranchConditional = branch_conditional_law form pc
of_kind form pc H.Swi = swi_law form pc
of_kind form pc H.Branch = branch_law form pc
of_kind form pc H.BranchLongWithLink = branch_long_with_link_law form pc
of_kind form pc H.Undefined = undefined_law form pc

-- ---- so the lowest word that prints a line is the best of its candidates
module _ (form : Form) (pc : ℕ) (l : List ℕ) where
  abbrev prints : ℕ → Bool
  prints w = is_line (thumb_line form pc w) l

  covered_word : (w : ℕ) → w < 2 ^ 16 → prints w ≡ true → Covers prints (2 ^ 16) w (candidates form pc l)
  unfolding thumb_line
  covered_word w h t =
      let e = same_eq (line_of form (thumb_format form w) pc w) l t in
      found_covers form pc w l (ap line e) (rw e at (of_kind form pc (thumb_format form w) w h refl))

  pub read_thumb_lem : read_thumb form pc l ≡ best (λ w. is_line (thumb_line form pc w) l) (2 ^ 16) (candidates form pc l)
  unfolding read_thumb read_back
  read_thumb_lem = covered prints (2 ^ 16) (candidates form pc l) covered_word
