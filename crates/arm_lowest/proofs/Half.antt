-- Halfword transfers: the line of an assembled word as pieces, and the law. Assumes nothing.
use Prim.Native.Nat.{◌*◌, ◌+◌, ◌/◌, ◌<◌, ◌^◌, suc, zero, ℕ}
use borrow.Author.Tests.{eqb-false, eqb-true, ne_eqb}
use lib.Dec.{eqb}
use mathlib.Core.Bool.{Bool, ◌&&◌, false, true, true≢false}
use mathlib.Core.List.{List, ◌++◌, append_assoc, append-nil}
use mathlib.Core.Path.{◌∙◌, ◌≡◌, ap, refl, sym}
use native.Mathlib.Omega.{arith}
use Rattle.std.proofs.Common.{Option}
use Rattle.arm.specs.Fields.{added_of, halfword_type, ldr_str_hs_imm_offset, ldr_str_hs_reg_offset}
use Rattle.arm7tdmi.specs.Names.{cond_text, reg_string}
use Rattle.lines.specs.Pieces.{cond_at, either, reg_at}
use Rattle.arm7tdmi.specs.declared.Form.{Form}
use Rattle.arm7tdmi.specs.declared.alu.BarrelShifterValue.{BarrelShifterValue}
use Rattle.arm7tdmi.specs.declared.alu.ShiftedRegister.{ShiftedRegister}
use Rattle.arm_operand.specs.Operand.{by_amount, fmt_rn_offset, shift_by, shifted_register}
use Rattle.arm_disass.specs.Line.{fmt_halfword, fmt_ldr_str_hs_imm_offset, fmt_ldr_str_hs_reg_offset, line_of}
use Rattle.arm_print.specs.Print.{is_data_processing, is_halfword, prints_cond}
use Rattle.arm_lowest.proofs.Found.{Law, fifteen, least_found, pieces_read, printed_line}
use Rattle.arm_lowest.proofs.Heads.{half_reads, half_bits, half_stem}
use Rattle.arm_lowest.proofs.Offset.{number_added, number_same, number_says, number_size, number_spelled, offset, offset_seen, offset_lead, register_added_lem, register_named, register_says, register_spelled, sep, transfer_base, transfer_good, transfer_pieces}
use Rattle.arm_lowest.proofs.Operand.{shift_alone, shift_pieces}
use Rattle.reading.specs.Parts.{flag}
use Rattle.arm_candidate.specs.CandidateTransfer.{as_flags, base_in, half_cand, half_offset}
use Rattle.arm_words.proofs.Halfword.{HalfFields, flags_shape, half_least, half_read, half_words, half_kind, half_u, half_w, half_word}
use Rattle.arm_words.proofs.Scheme.{Words, shown_low}
use Rattle.common.proofs.Tests.{by_test}
use Rattle.common.specs.Bits.{bit_range}
use Rattle.reading.proofs.Pieces.{Pieces, flag_back, spell}
use Rattle.text.proofs.Word.{wordy}
use Rattle.text.specs.Text.{text}
use Rattle.arm7tdmi.specs.declared.alu.BarrelShiftOpCode.TheVariants as Shift
use Rattle.arm7tdmi.specs.declared.alu.ShiftRegisterBy.TheVariants as By

-- the line of an assembled word, as pieces
abbrev half_pieces : Form → ℕ → ℕ → ℕ → ℕ → ℕ → ℕ → ℕ → ℕ → ℕ → ℕ → ℕ → ℕ → Pieces
half_pieces form pc c i p u w l k rn rd hi lo =
    transfer_pieces (half_stem l k ++ cond_text c) p rn rd (offset_lead form (eqb i 1) u) (offset form pc (eqb i 1) p u w rn (hi * 2 ^ 4 + lo))

-- a register, as a shifted one
register_text : (form : Form) (r : ℕ) (s : Option Bool) → r < 16 → shifted_register form (record { reg = r; shift_by = By.ByAmount 0; bs_op = Shift.LSL; added = s }) ≡ spell (shift_pieces form r)
unfolding shifted_register shift_by by_amount
register_text form r s h = rw (shift_alone form r h) (append-nil (reg_string r))

module _ (form : Form) (pc : ℕ) {c i p u w l k rn rd hi lo : ℕ} (f : HalfFields c i p u w l k rn rd hi lo) where
  abbrev raw : ℕ
  raw = half_word c i p u w l k rn rd hi lo

  abbrev Spelled : Bool → BarrelShifterValue → Type 0
  Spelled by o = fmt_rn_offset form pc raw o ≡ text "[" ++ (reg_string rn ++ ((sep p ++ offset_lead form by u) ++ spell (offset form pc by p u w rn (hi * 2 ^ 4 + lo))))

  by_number : Spelled true (ldr_str_hs_imm_offset raw)
  unfolding ldr_str_hs_imm_offset
  by_number =
      let r = half_read f in
      rw (r.9, r.10) (number_spelled form pc raw r.2 r.3 r.4 r.7 (hi * 2 ^ 4 + lo) (omega arith))

  by_register : i ≡ 0 → Spelled false (ldr_str_hs_reg_offset raw)
  unfolding ldr_str_hs_reg_offset
  by_register z =
      let r = half_read f in
      let n : hi * 2 ^ 4 + lo ≡ lo = omega arith in
      let s : ShiftedRegister = record { reg = lo; shift_by = By.ByAmount 0; bs_op = Shift.LSL; added = added_of raw } in
      rw (r.10, n) (register_spelled form pc raw r.2 r.3 r.4 r.7 lo s refl (register_text form lo (added_of raw) f.hlo))

  half_text : (by : Bool) (o : BarrelShifterValue) → Spelled by o →
      fmt_halfword form pc raw o ≡ spell (transfer_pieces (half_stem l k ++ cond_text c) p rn rd (offset_lead form by u) (offset form pc by p u w rn (hi * 2 ^ 4 + lo)))
  unfolding fmt_halfword either cond_at reg_at halfword_type
  half_text by o e = let r = half_read f in rw (e, r.5, r.6, r.0, r.8) (simp append_assoc)

half_spelled : (form : Form) (pc c i p u w l k rn rd hi lo : ℕ) → HalfFields c i p u w l k rn rd hi lo →
    line_of form (half_kind i) pc (half_word c i p u w l k rn rd hi lo) ≡ spell (half_pieces form pc c i p u w l k rn rd hi lo)
unfolding line_of fmt_ldr_str_hs_imm_offset fmt_ldr_str_hs_reg_offset
half_spelled form pc c zero p u w l k rn rd hi lo f = half_text form pc f false (ldr_str_hs_reg_offset (half_word c 0 p u w l k rn rd hi lo)) (by_register form pc f refl)
half_spelled form pc c (suc zero) p u w l k rn rd hi lo f = half_text form pc f true (ldr_str_hs_imm_offset (half_word c 1 p u w l k rn rd hi lo)) (by_number form pc f)
half_spelled form pc c (suc (suc i)) p u w l k rn rd hi lo f = absurd (omega arith)

-- ---- what the line does not show
same_w : (form : Form) (pc : ℕ) (by : Bool) (p u w rn n : ℕ) → offset form pc by p u (half_w p w) rn n ≡ offset form pc by p u w rn n
same_w form pc true p u w rn n = by_test (eqb p 1) (λ e. rw e) (λ e. rw e)
same_w form pc false p u w rn n = by_test (eqb p 1) (λ e. rw e) (λ e. rw e)

same_pieces : (form : Form) (t : Bool) (pc c i p u w l k rn rd hi lo : ℕ) → i < 2 →
    half_pieces form pc c i p (half_u form i u (hi * 2 ^ 4 + lo) t) (half_w p w) l k rn rd hi lo ≡ half_pieces form pc c i p u w l k rn rd hi lo
same_pieces form t pc c zero p u w l k rn rd hi lo h = rw (same_w form pc false p u w rn (hi * 2 ^ 4 + lo))
same_pieces form t pc c (suc zero) p u w l k rn rd hi lo h =
    let s = number_same form t pc p u w rn (hi * 2 ^ 4 + lo) in
    rw (same_w form pc true p (half_u form 1 u (hi * 2 ^ 4 + lo) t) w rn (hi * 2 ^ 4 + lo), s.0, s.1)
same_pieces form t pc c (suc (suc i)) p u w l k rn rd hi lo h = absurd (omega arith)

-- ---- the candidate
shown_w : (p w : ℕ) → w < 2 → flag (eqb p 1 && eqb w 1) ≡ half_w p w
shown_w p w h = by_test (eqb p 1) (λ e. rw e (flag_back w h)) (λ e. rw e)

shape : (l k p w rn rd : ℕ) → k < 4 → rd < 16 → rn < 16 → l < 2 → w < 2 → (l * 2 ^ 20 + k * 2 ^ 5 + p * 2 ^ 24 + w * 2 ^ 21 + rn * 2 ^ 16 + rd * 2 ^ 12) / 2 ^ 12 ≡ p * 2 ^ 12 + w * 2 ^ 9 + l * 2 ^ 8 + rn * 2 ^ 4 + rd
shape l k p w rn rd a b d e g = omega arith

digit_parts : (hi lo : ℕ) → hi < 16 → lo < 16 → (bit_range (hi * 2 ^ 4 + lo) 4 8 ≡ hi) × (bit_range (hi * 2 ^ 4 + lo) 0 4 ≡ lo)
digit_parts hi lo a b = omega arith

module _ (form : Form) (pc : ℕ) {c i p u w l k rn rd hi lo : ℕ} (f : HalfFields c i p u w l k rn rd hi lo) (hh : wordy (half_stem l k ++ cond_text c) ≡ true) where
  abbrev n : ℕ
  n = hi * 2 ^ 4 + lo

  abbrev line_of_lem : Bool → List ℕ
  line_of_lem by = spell (transfer_pieces (half_stem l k ++ cond_text c) p rn rd (offset_lead form by u) (offset form pc by p u w rn n))

  small : n < 2 ^ 12
  small = omega arith

  base : (by : Bool) → base_in (half_bits l k) (line_of_lem by) ≡ l * 2 ^ 20 + k * 2 ^ 5 + p * 2 ^ 24 + half_w p w * 2 ^ 21 + rn * 2 ^ 16 + rd * 2 ^ 12
  base by =
      transfer_base (half_stem l k ++ cond_text c) p rn rd (offset_seen form pc by p u w rn n) hh f.hrn f.hrd (half_bits l k)
      ∙ rw (flag_back p f.hp, shown_w p w f.hw)

  flags_back : (by : Bool) → as_flags (half_bits l k) (line_of_lem by) ≡ flags_shape p (half_w p w) l rn rd
  flags_back by =
      let s = shown_low (eqb p 1) w in
      rw (base by, shape l k p (half_w p w) rn rd f.hk f.hrd f.hrn f.hl (omega arith))

  half_back : let t = flags_shape p (half_w p w) l rn rd in
      half_cand form pc (half_bits l k) c (spell (half_pieces form pc c i p u w l k rn rd hi lo)) ≡ half_word c i p (half_u form i u n t) (half_w p w) l k rn rd hi lo
  unfolding half_cand half_offset
  half_back =
      let h = half_stem l k ++ cond_text c in
      let t = flags_shape p (half_w p w) l rn rd in
      by_test (eqb i 1)
      (λ e. let y : i ≡ 1 = eqb-true i 1 e in
      let d = number_says form pc h p u w rn rd n hh f.hu f.hrn f.hrd small in
      let s = number_size form pc h p u w rn rd n hh f.hu f.hrn f.hrd small t in
      let x = number_added form pc h p u w rn rd n hh f.hu f.hrn f.hrd small t in
      let z = digit_parts hi lo (omega arith) f.hlo in
      rw (y, d, flags_back true, base true, s, x, z.0, z.1) (omega arith))
      (λ e. let y : i ≡ 0 = let z = eqb-false i 1 e in omega arith in
      let d = register_says form pc h p u w rn rd n hh f.hu f.hrn f.hrd small in
      let s = register_named form pc h p u w rn rd n hh f.hu f.hrn f.hrd small in
      let x = register_added_lem form pc h p u w rn rd n hh f.hu f.hrn f.hrd small in
      let z : bit_range (hi * 2 ^ 4 + lo) 0 4 ≡ lo = (digit_parts hi lo (omega arith) f.hlo).1 in
      let o : hi ≡ 0 = omega arith in
      rw (y, d, base false, x, s, z, o) (omega arith))

-- THE LAW, by a register (0) and by a number (1)
kind_shows : (form : Form) (i : ℕ) → (prints_cond form (half_kind i) ≡ true) × (is_halfword (half_kind i) ≡ true) × (is_data_processing (half_kind i) ≡ false)
kind_shows form zero = (refl, refl, refl)
kind_shows form (suc i) = (refl, refl, refl)

pub half_law : (form : Form) (pc i : ℕ) → i < 2 → Words form (half_kind i) (Law 9 half_cand form pc)
half_law form pc i hi' = half_words form (Law 9 half_cand form pc) i hi' (λ c p u w l k rn rd hi lo f g t e.
    let r = half_read f in
    let q = printed_line form (half_kind i) pc (half_word c i p u w l k rn rd hi lo) g t e in
    let hk : k ≡ 0 → ⊥ = λ z. true≢false (sym q.regular ∙ rw ((kind_shows form i).1, r.6, z)) in
    let m = half_reads l k c f.hl f.hk hk (fifteen (half_word c i p u w l k rn rd hi lo) r.0 f.hc (q.when (kind_shows form i).0)) in
    let v = half_least f form g (omega arith) in
    pieces_read (half_pieces form pc c i p u w l k rn rd hi lo) (q.text ∙ half_spelled form pc c i p u w l k rn rd hi lo f)
    (transfer_good (half_stem l k ++ cond_text c) p rn rd (offset_seen form pc (eqb i 1) p u w rn (hi * 2 ^ 4 + lo)) m.one_word f.hrn f.hrd) m
    (rw (half_back form pc f m.one_word)
    (least_found pc t g e v (λ z. (half_read v.fields).0 ∙ sym r.0) (rw ((kind_shows form i).1, (half_read v.fields).6, ne_eqb k 0 hk, (kind_shows form i).2))
    (half_spelled form pc c i p _ _ l k rn rd hi lo v.fields ∙ ap spell (same_pieces form (flags_shape p (half_w p w) l rn rd) pc c i p u w l k rn rd hi lo hi') ∙ sym (half_spelled form pc c i p u w l k rn rd hi lo f)))))
