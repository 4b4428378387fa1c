-- Single transfers, ldr and str: the line of an assembled word as pieces, and the law. Assumes nothing.
use Prim.Native.Nat.{◌%◌, ◌*◌, ◌+◌, ◌<◌, ◌^◌, ℕ}
use borrow.Author.Tests.{eq-eqb, eqb-false, eqb-true, ne_eqb}
use lib.Dec.{eqb}
use mathlib.Core.Bool.{◌&&◌, cond, false, not, true}
use mathlib.Core.List.{◌++◌, append_assoc}
use mathlib.Core.Path.{◌∙◌, ◌≡◌, ap, refl, sym}
use native.Mathlib.Omega.{arith}
use Rattle.arm.specs.Fields.{added_of, bs_op, ldr_str_offset, shift_reg_by, signed_offset}
use Rattle.arm.specs.Kinds.{arm_format}
use Rattle.arm7tdmi.specs.Names.{cond_text, reg_string}
use Rattle.lines.specs.Pieces.{cond_at, either, if_set, reg_at}
use Rattle.arm7tdmi.specs.declared.Form.{Form}
use Rattle.arm7tdmi.specs.declared.alu.ShiftedRegister.{ShiftedRegister}
use Rattle.arm_disass.specs.Line.{fmt_ldr_str, user_mark, line_of}
use Rattle.arm_operand.specs.Operand.{fmt_rn_offset}
use Rattle.arm_lowest.proofs.Found.{Law, fifteen, least_found, pieces_read, printed_line}
use Rattle.arm_lowest.proofs.Heads.{ldr_reads, ldr_bits, ldr_stem}
use Rattle.arm_lowest.proofs.Offset.{number_added, number_same, number_says, number_size, number_spelled, offset, offset_seen, offset_lead, register_added_lem, register_says, register_shifted, register_spelled, sep, shown_u, transfer_base, transfer_good, transfer_pieces}
use Rattle.arm_lowest.proofs.Operand.{shift_same, shift_spelled}
use Rattle.reading.specs.Parts.{flag}
use Rattle.arm_candidate.specs.CandidateTransfer.{ldr_cand, ldr_offset}
use Rattle.arm_words.proofs.Operand.{shift_least_lem, shift_least}
use Rattle.arm_words.proofs.Scheme.{Least, Words}
use Rattle.arm_words.proofs.Transfer.{LdrFields, ldr_least, ldr_read, ldr_words, ldr_u, ldr_word, unsigned}
use Rattle.common.proofs.Tests.{by_test}
use Rattle.common.specs.Bits.{bit_range}
use Rattle.reading.proofs.Pieces.{Pieces, flag_back, spell}
use Rattle.text.proofs.Word.{wordy}
use Rattle.text.specs.Text.{text}
use Rattle.arm7tdmi.specs.declared.alu.BarrelShifterValue.TheVariants as Value
use Rattle.arm.specs.declared.ArmFormat.TheVariants as A

-- the line of an assembled word, as pieces
abbrev ldr_pieces : Form → ℕ → ℕ → ℕ → ℕ → ℕ → ℕ → ℕ → ℕ → ℕ → ℕ → ℕ → Pieces
ldr_pieces form pc c i p u b w l rn rd n =
    transfer_pieces (ldr_stem p b w l ++ cond_text c) p rn rd (offset_lead form (eqb i 0) u) (offset form pc (eqb i 0) p u w rn n)

module _ (form : Form) (pc : ℕ) {c i p u b w l rn rd n : ℕ} (f : LdrFields c i p u b w l rn rd n) where
  abbrev raw : ℕ
  raw = ldr_word c i p u b w l rn rd n

  ldr_offset_lem : fmt_rn_offset form pc raw (ldr_str_offset raw) ≡ text "[" ++ (reg_string rn ++ ((sep p ++ offset_lead form (eqb i 0) u) ++ spell (offset form pc (eqb i 0) p u w rn n)))
  unfolding ldr_str_offset
  ldr_offset_lem =
      let r = ldr_read f in
      by_test (eqb i 0)
      (λ e. let y = eqb-true i 0 e in
      let o : ldr_str_offset raw ≡ Value.ImmediateValue (signed_offset raw n) = rw (r.1, ne_eqb i 1 (omega arith), r.9) in
      rw (o, e) (number_spelled form pc raw r.2 r.3 r.5 r.7 n f.hn))
      (λ e. let y = eqb-false i 0 e in
      let s : ShiftedRegister = record { reg = bit_range raw 0 4; shift_by = shift_reg_by raw; bs_op = bs_op raw; added = added_of raw } in
      let o : ldr_str_offset raw ≡ Value.ShiftedRegister s = rw (r.1, eq-eqb i 1 (omega arith)) in
      rw (o, e) (register_spelled form pc raw r.2 r.3 r.5 r.7 n s refl (shift_spelled form raw n (added_of raw) r.9)))

  ldr_spelled : fmt_ldr_str form pc raw ≡ spell (ldr_pieces form pc c i p u b w l rn rd n)
  unfolding fmt_ldr_str either if_set user_mark cond_at reg_at
  ldr_spelled = let r = ldr_read f in rw (ldr_offset_lem, r.6, r.4, r.2, r.5, r.0, r.8) (simp append_assoc)

-- ---- what the line does not show
abbrev least : ℕ → ℕ → ℕ
least i n = cond (eqb i 0) n (shift_least n)

ldr_u_lem : (form : Form) (u n : ℕ) → ldr_u form 0 u n ≡ shown_u form false u n
ldr_u_lem form u n = by_test (unsigned form n) (λ e. rw e) (λ e. rw e)

module _ (form : Form) (pc : ℕ) {c i p u b w l rn rd n : ℕ} (f : LdrFields c i p u b w l rn rd n) where
  same_pieces : ldr_pieces form pc c i p (ldr_u form i u (least i n)) b w l rn rd (least i n) ≡ ldr_pieces form pc c i p u b w l rn rd n
  same_pieces =
      by_test (eqb i 0)
      (λ e. let y : i ≡ 0 = eqb-true i 0 e in
      let s = number_same form false pc p u w rn n in
      rw (y, ldr_u_lem form u n, s.0, s.1))
      (λ e. let z = eqb-false i 0 e in
      let y : i ≡ 1 = omega arith in
      rw (y, shift_same form (shift_least_lem n)))

  least_word : arm_format form (ldr_word c i p u b w l rn rd n) ≡ A.SingleDataTransfer → let k = least i n in let v = ldr_u form i u k in
      Least (LdrFields c i p v b w l rn rd k) form A.SingleDataTransfer (ldr_word c i p v b w l rn rd k) (ldr_word c i p u b w l rn rd n)
  least_word e =
      let s = shift_least_lem n in
      ldr_least f form e (least i n) (by_test (eqb i 0) (λ z. rw z (omega arith)) (λ z. rw z s.low)) (λ z. rw z s.by)

-- ---- the candidate
user_sum : (p w : ℕ) → w < 2 → cond (not (eqb p 1) && eqb w 1) 1 0 + flag (eqb p 1 && eqb w 1) ≡ w
user_sum p w h = let y = flag_back w h in by_test (eqb p 1) (λ e. rw e (omega arith)) (λ e. rw e (omega arith))

sum : (c b l p w rn rd t m x n : ℕ) → t + m ≡ w →
    c * 2 ^ 28 + 2 ^ 26 + (b * 2 ^ 22 + t * 2 ^ 21 + l * 2 ^ 20 + p * 2 ^ 24 + m * 2 ^ 21 + rn * 2 ^ 16 + rd * 2 ^ 12) + (x + n)
    ≡ c * 2 ^ 28 + 2 ^ 26 + x + p * 2 ^ 24 + b * 2 ^ 22 + w * 2 ^ 21 + l * 2 ^ 20 + rn * 2 ^ 16 + rd * 2 ^ 12 + n
sum c b l p w rn rd t m x n e = omega arith

module _ (form : Form) (pc : ℕ) {c i p u b w l rn rd n : ℕ} (f : LdrFields c i p u b w l rn rd n) (hh : wordy (ldr_stem p b w l ++ cond_text c) ≡ true) where
  ldr_back : let k = least i n in ldr_cand form pc (ldr_bits p b w l) c (spell (ldr_pieces form pc c i p u b w l rn rd n)) ≡ ldr_word c i p (ldr_u form i u k) b w l rn rd k
  unfolding ldr_cand ldr_offset
  ldr_back =
      let h = ldr_stem p b w l ++ cond_text c in
      by_test (eqb i 0)
      (λ e. let y : i ≡ 0 = eqb-true i 0 e in
      let a = transfer_base h p rn rd (offset_seen form pc true p u w rn n) hh f.hrn f.hrd (ldr_bits p b w l) in
      let d = number_says form pc h p u w rn rd n hh f.hu f.hrn f.hrd f.hn in
      let s = number_size form pc h p u w rn rd n hh f.hu f.hrn f.hrd f.hn false in
      let x = number_added form pc h p u w rn rd n hh f.hu f.hrn f.hrd f.hn false in
      let o : n % 2 ^ 12 ≡ n = omega arith in
      rw (y, a, d, s, x, o, ldr_u_lem form u n, flag_back p f.hp) (sum c b l p w rn rd _ _ (shown_u form false u n * 2 ^ 23) n (user_sum p w f.hw) ∙ omega arith))
      (λ e. let z = eqb-false i 0 e in
      let y : i ≡ 1 = omega arith in
      let a = transfer_base h p rn rd (offset_seen form pc false p u w rn n) hh f.hrn f.hrd (ldr_bits p b w l) in
      let d = register_says form pc h p u w rn rd n hh f.hu f.hrn f.hrd f.hn in
      let s = register_shifted form pc h p u w rn rd n hh f.hu f.hrn f.hrd f.hn in
      let x = register_added_lem form pc h p u w rn rd n hh f.hu f.hrn f.hrd f.hn in
      rw (y, a, d, x, s, flag_back p f.hp) (sum c b l p w rn rd _ _ (2 ^ 25 + u * 2 ^ 23) (shift_least n) (user_sum p w f.hw) ∙ omega arith))

-- THE LAW
pub ldr_law : (form : Form) (pc : ℕ) → Words form A.SingleDataTransfer (Law 3 ldr_cand form pc)
unfolding line_of
ldr_law form pc = ldr_words form (Law 3 ldr_cand form pc) (λ c i p u b w l rn rd n f k t e.
    let q = printed_line form A.SingleDataTransfer pc (ldr_word c i p u b w l rn rd n) k t e in
    let m = ldr_reads p b w l c f.hp f.hb f.hw f.hl (fifteen (ldr_word c i p u b w l rn rd n) (ldr_read f).0 f.hc (q.when refl)) in
    let v = least_word form pc f k in
    pieces_read (ldr_pieces form pc c i p u b w l rn rd n) (q.text ∙ ldr_spelled form pc f)
    (transfer_good (ldr_stem p b w l ++ cond_text c) p rn rd (offset_seen form pc (eqb i 0) p u w rn n) m.one_word f.hrn f.hrd) m
    (rw (ldr_back form pc f m.one_word)
    (least_found pc t k e v (λ z. (ldr_read v.fields).0 ∙ sym (ldr_read f).0) refl
    (ldr_spelled form pc v.fields ∙ ap spell (same_pieces form pc f) ∙ sym (ldr_spelled form pc f)))))
