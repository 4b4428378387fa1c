-- High registers and bx. Assumes nothing.
use Prim.Native.Nat.{◌%◌, ◌*◌, ◌+◌, ◌<◌, ◌^◌, suc, zero, ℕ}
use borrow.Author.Tests.{eqb-false, eqb-true, ltb-false, ltb-true, ne_eqb}
use lib.Dec.{eqb, ltb}
use mathlib.Core.Bool.{false, true}
use mathlib.Core.List.{List, [], ◌++◌, ◌∷◌}
use mathlib.Core.Path.{◌∙◌, ◌≡◌, ap, refl}
use native.Mathlib.Omega.{arith}
use Rattle.arm7tdmi.proofs.Names.{reg_back, reg_wordy}
use Rattle.arm7tdmi.specs.Names.{reg_string}
use Rattle.thumb.specs.Fields.{op_format5}
use Rattle.arm7tdmi.specs.declared.Form.{Form}
use Rattle.arm7tdmi.specs.declared.Form.TheVariants.{Bench, Sheet}
use Rattle.common.proofs.Tests.{by_test}
use Rattle.common.specs.Lists.{first, same}
use Rattle.reading.proofs.Pieces.{Pieces, good, last, piece, regroup, spell, word_nth}
use Rattle.text.specs.Text.{text}
use Rattle.text.specs.Word.{is_word}
use Rattle.thumb_operand.specs.Operand.{dst_and_src, dst_reg, high_dst, high_operands, src_reg}
use Rattle.thumb_disass.specs.Line.{fmt_thumb_high_reg_op_or_bx, op5_text, line_of}
use Rattle.thumb_lowest.proofs.Found.{Law, Mnemonic, Words, found, rows_are}
use Rattle.thumb_candidate.specs.Candidate.{high_in, operands, suits}
use Rattle.thumb_mnemonic.specs.Rows.{rows}
use Rattle.thumb_words.proofs.Laws.{NoHigher, parts, thumb_lower, thumb_read_lem, thumb_words}
use Rattle.thumb_words.proofs.Parts.{Fits}
use Rattle.thumb_words.proofs.Words.{bench_destination_lem, bx_least, by_flag, hi_reg_least, hi_reg_word}
use Rattle.thumb.specs.declared.ThumbFormat.TheVariants as H

-- ---- what a line shows of bit 7: on the bench it shows where bit 3 is set, on the sheet always
abbrev shows : Form → ℕ → ℕ → ℕ
shows Bench h1 rs = h1 * (rs % 2)
shows Sheet h1 rs = h1

shows_twice : (form : Form) (h1 rs : ℕ) → shows form (shows form h1 rs) rs ≡ shows form h1 rs
shows_twice Bench h1 rs =
    by_test (eqb (rs % 2) 1)
    (λ e. rw (eqb-true (rs % 2) 1 e) (omega arith))
    (λ e. let n = eqb-false (rs % 2) 1 e in let z : rs % 2 ≡ 0 = omega arith in rw z (omega arith))
shows_twice Sheet h1 rs = refl

abbrev Fields : Form → ℕ → ℕ → ℕ → ℕ → ℕ → Type 0
Fields form op h1 h2 rs rd = Fits (parts form H.HiRegOpOrBranchExchange) (op ∷ h1 ∷ h2 ∷ rs ∷ rd ∷ [])

-- so the lowest word has bit 7 where it shows
least : (form : Form) (op h1 h2 rs rd : ℕ) → Fields form op h1 h2 rs rd →
    NoHigher form H.HiRegOpOrBranchExchange (op ∷ shows form h1 rs ∷ h2 ∷ rs ∷ rd ∷ []) (op ∷ h1 ∷ h2 ∷ rs ∷ rd ∷ [])
least Bench op h1 h2 rs rd f = hi_reg_least Bench op h1 h2 rs rd f
least Sheet op h1 h2 rs rd f = thumb_lower Sheet H.HiRegOpOrBranchExchange tt (op ∷ h1 ∷ h2 ∷ rs ∷ rd ∷ []) (op ∷ h1 ∷ h2 ∷ rs ∷ rd ∷ []) (omega arith) f

shows_bit : (form : Form) (op h1 h2 rs rd : ℕ) → Fields form op h1 h2 rs rd → shows form h1 rs < 2
shows_bit form op h1 h2 rs rd f = (least form op h1 h2 rs rd f).fits.1.0

-- ---- the registers that a line shows
module _ (form : Form) (op h1 h2 rs rd : ℕ) (f : Fields form op h1 h2 rs rd) where
  abbrev raw : ℕ
  raw = hi_reg_word op h1 h2 rs rd

  src_is : src_reg raw ≡ h2 * 8 + rs
  unfolding src_reg
  src_is =
      let r = thumb_read_lem form H.HiRegOpOrBranchExchange tt (op ∷ h1 ∷ h2 ∷ rs ∷ rd ∷ []) f in
      let c : rs + 8 ≡ 8 + rs = omega arith in
      rw (r 2, r 3, c) (by_flag h2 8 rs f.1.1.0)

sheet_dst : (op h1 h2 rs rd : ℕ) → Fields Sheet op h1 h2 rs rd → dst_reg Sheet (hi_reg_word op h1 h2 rs rd) ≡ h1 * 8 + rd
unfolding dst_reg high_dst
sheet_dst op h1 h2 rs rd f =
    let r = thumb_read_lem Sheet H.HiRegOpOrBranchExchange tt (op ∷ h1 ∷ h2 ∷ rs ∷ rd ∷ []) f in
    let c : rd + 8 ≡ 8 + rd = omega arith in
    rw (r 1, r 4, c) (by_flag h1 8 rd f.1.0)

bench_dst : (op h1 h2 rs rd : ℕ) → Fields Bench op h1 h2 rs rd → dst_reg Bench (hi_reg_word op h1 h2 rs rd) ≡ h1 * (rs % 2) * 8 + rd
unfolding dst_reg high_dst
bench_dst op h1 h2 rs rd f = bench_destination_lem Bench op h1 h2 rs rd f ∙ omega arith

dst_is : (form : Form) (op h1 h2 rs rd : ℕ) → Fields form op h1 h2 rs rd → dst_reg form (hi_reg_word op h1 h2 rs rd) ≡ shows form h1 rs * 8 + rd
dst_is Bench op h1 h2 rs rd f = bench_dst op h1 h2 rs rd f
dst_is Sheet op h1 h2 rs rd f = sheet_dst op h1 h2 rs rd f

-- ---- the lines: "{op}\t{dst}, {src}" and "bx\t{src}"
two_operands : (form : Form) (raw op : ℕ) → op < 3 → high_operands form raw (op_format5 op) ≡ dst_and_src form raw
unfolding high_operands op_format5
two_operands form raw zero h = refl
two_operands form raw (suc zero) h = refl
two_operands form raw (suc (suc zero)) h = refl
two_operands form raw (suc (suc (suc n))) h = absurd (omega arith)

row : (op : ℕ) → op < 4 → Mnemonic H.HiRegOpOrBranchExchange (op5_text (op_format5 op)) (0x4400 + op * 2 ^ 8)
unfolding rows op5_text op_format5 first same is_word
row op h = rows_are H.HiRegOpOrBranchExchange 4 (λ op. op5_text (op_format5 op)) (λ op. 0x4400 + op * 2 ^ 8) refl op h

module _ (form : Form) (pc op : ℕ) (h : op < 3) (h2 rs rd : ℕ) where
  abbrev two : ℕ → Pieces
  two s = piece (op5_text (op_format5 op)) (text "\t") (piece (reg_string (s * 8 + rd)) (text ", ") (last (reg_string (h2 * 8 + rs))))

  two_shown : (h1 : ℕ) → Fields form op h1 h2 rs rd → line_of form H.HiRegOpOrBranchExchange pc (hi_reg_word op h1 h2 rs rd) ≡ spell (two (shows form h1 rs))
  unfolding line_of fmt_thumb_high_reg_op_or_bx dst_and_src
  two_shown h1 f =
      let r = thumb_read_lem form H.HiRegOpOrBranchExchange tt (op ∷ h1 ∷ h2 ∷ rs ∷ rd ∷ []) f in
      let m = op5_text (op_format5 op) in
      rw (r 0, two_operands form (hi_reg_word op h1 h2 rs rd) op h, dst_is form op h1 h2 rs rd f, src_is form op h1 h2 rs rd f)
      (regroup m (text "\t" ∷ (reg_string (shows form h1 rs * 8 + rd) ++ text ", " ++ reg_string (h2 * 8 + rs)) ∷ [])
      ∙ ap (λ (l : List ℕ). m ++ (text "\t" ++ l)) (regroup (reg_string (shows form h1 rs * 8 + rd)) (text ", " ∷ reg_string (h2 * 8 + rs) ∷ [])))

  two_found : (h1 : ℕ) → Fields form op h1 h2 rs rd → Law form pc H.HiRegOpOrBranchExchange tt (hi_reg_word op h1 h2 rs rd)
  unfolding operands suits high_in is_word
  two_found h1 f =
      let s = shows form h1 rs in
      let n = least form op h1 h2 rs rd f in
      let l = shows_bit form op h1 h2 rs rd f in
      let m = row op f.0 in
      let g : good (two s) ≡ true = rw (m.one_word, reg_wordy (s * 8 + rd) (omega arith), reg_wordy (h2 * 8 + rs) (omega arith)) in
      let x : eqb (0x4400 + op * 2 ^ 8) 0x4700 ≡ false = ne_eqb (0x4400 + op * 2 ^ 8) 0x4700 (λ e. let z : 0x4400 + op * 2 ^ 8 ≡ 0x4700 = e in omega arith) in
      found form pc H.HiRegOpOrBranchExchange tt (op ∷ s ∷ h2 ∷ rs ∷ rd ∷ []) (op ∷ h1 ∷ h2 ∷ rs ∷ rd ∷ []) f n (two s) (0x4400 + op * 2 ^ 8) m g
      (rw (x, word_nth 1 (two s) g, word_nth 2 (two s) g, reg_back (s * 8 + rd) (omega arith), reg_back (h2 * 8 + rs) (omega arith)) (omega arith))
      (two_shown h1 f) (two_shown s n.fits ∙ ap (λ (s : ℕ). spell (two s)) (shows_twice form h1 rs)) refl

module _ (form : Form) (pc h2 rs : ℕ) where
  abbrev one : Pieces
  one = piece (text "bx") (text "\t") (last (reg_string (h2 * 8 + rs)))

  one_shown : (h1 rd : ℕ) → Fields form 3 h1 h2 rs rd → line_of form H.HiRegOpOrBranchExchange pc (hi_reg_word 3 h1 h2 rs rd) ≡ spell one
  unfolding line_of fmt_thumb_high_reg_op_or_bx op5_text high_operands op_format5
  one_shown h1 rd f =
      let r = thumb_read_lem form H.HiRegOpOrBranchExchange tt (3 ∷ h1 ∷ h2 ∷ rs ∷ rd ∷ []) f in
      rw (r 0, src_is form 3 h1 h2 rs rd f)

  one_found : (h1 rd : ℕ) → Fields form 3 h1 h2 rs rd → Law form pc H.HiRegOpOrBranchExchange tt (hi_reg_word 3 h1 h2 rs rd)
  unfolding operands suits high_in op5_text op_format5 is_word
  one_found h1 rd f =
      let n = bx_least form h1 h2 rs rd f in
      let g : good one ≡ true = reg_wordy (h2 * 8 + rs) (omega arith) in
      found form pc H.HiRegOpOrBranchExchange tt (3 ∷ 0 ∷ h2 ∷ rs ∷ 0 ∷ []) (3 ∷ h1 ∷ h2 ∷ rs ∷ rd ∷ []) f n one 0x4700 (row 3 (omega arith)) g
      (rw (word_nth 1 one g, reg_back (h2 * 8 + rs) (omega arith)) (omega arith)) (one_shown h1 rd f) (one_shown 0 0 n.fits) refl

pub high_reg_law : (form : Form) (pc : ℕ) → Words form pc H.HiRegOpOrBranchExchange tt
high_reg_law form pc = thumb_words form H.HiRegOpOrBranchExchange tt (Law form pc H.HiRegOpOrBranchExchange tt) (λ op h1 h2 rs rd f e. by_op op h1 h2 rs rd f)
  where
    by_op : (op h1 h2 rs rd : ℕ) → Fields form op h1 h2 rs rd → Law form pc H.HiRegOpOrBranchExchange tt (hi_reg_word op h1 h2 rs rd)
    by_op op h1 h2 rs rd f =
        by_test (ltb op 3)
        (λ t. two_found form pc op (ltb-true op 3 t) h2 rs rd h1 f)
        (λ t. let l = ltb-false op 3 t in let z : op ≡ 3 = omega arith in rw z (one_found form pc h2 rs h1 rd (rw z at f)))
