-- Kinds whose lines have low registers in words 1 and 2: MoveShiftedReg, AddSub, AluOps, and loads and stores by a register or a number. Assumes nothing.
use Rattle.thumb_words.proofs.Parts.{word as made, Fits}
use Prim.Native.Nat.{◌%◌, ◌*◌, ◌+◌, ◌/◌, ◌<◌, ◌^◌, ℕ}
use borrow.Author.Tests.{eqb-false, eqb-true, lt-ltb}
use lib.Dec.{T, eqb, ltb}
use mathlib.Core.Bool.{cond, false, or-false, true}
use mathlib.Core.List.{List, [], ◌++◌, ◌∷◌}
use mathlib.Core.Path.{◌∙◌, ◌≡◌, refl, sym}
use native.Mathlib.Omega.{arith}
use Rattle.arm7tdmi.proofs.Names.{reg_back, reg_wordy}
use Rattle.arm7tdmi.specs.Alu.{amount_of, barrel_shift_op_code, places}
use Rattle.thumb.specs.Kinds.{thumb_number}
use Rattle.arm7tdmi.specs.Names.{reg_string}
use Rattle.lines.specs.Pieces.{either, if_set, reg_at}
use Rattle.thumb.specs.Fields.{thumb_alu_op}
use Rattle.arm7tdmi.specs.declared.Form.{Form}
use Rattle.arm7tdmi.specs.declared.alu.Amount.{Amount}
use Rattle.thumb.specs.declared.ThumbFormat.{ThumbFormat}
use Rattle.common.proofs.Tests.{at, by_test}
use Rattle.common.specs.Lists.{first, same}
use Rattle.reading.proofs.Amount.{amount_states, places_state}
use Rattle.reading.proofs.Pieces.{Pieces, first_word, first_of, gaps_have, good, has_append, has_gaps, last, lead_from, none, piece, regroup, spell, word_nth}
use Rattle.text.proofs.Digits.{dec_back, hex_back, prefixed_back}
use Rattle.text.proofs.Word.{dec_wordy, gap, hex_wordy, prefixed_wordy, wordy}
use Rattle.text.specs.Digits.{dec, hex, prefixed}
use Rattle.text.specs.Text.{text}
use Rattle.text.specs.Word.{after, from_word, has, is_word, word}
use Rattle.thumb_operand.specs.Operand.{add_sub_operand, imm_offset}
use Rattle.thumb_disass.specs.Line.{alu_op_text, fmt_thumb_add_sub, fmt_thumb_alu_ops, fmt_thumb_ldr_str_halfword, fmt_thumb_ldr_str_imm_offset, fmt_thumb_ldr_str_reg_offset, fmt_thumb_ldr_str_shb, fmt_thumb_move_shifted_reg, shb_text, shift_places, shift_text, line_of}
use Rattle.thumb_lowest.proofs.Found.{Law, Mnemonic, Words, exact, pick, rows_are, rows_are₂, whole_found}
use Rattle.thumb_candidate.specs.Candidate.{low_in, operands, shift_in, third_in, transfer_unit, suits}
use Rattle.thumb_mnemonic.specs.Rows.{rows}
use Rattle.reading.specs.Parts.{amount_field, flag}
use Rattle.thumb_words.proofs.Laws.{parts, thumb_read_lem, thumb_words}
use Rattle.thumb_words.proofs.Words.{move_shifted_reg_word}
use Rattle.thumb.specs.declared.ThumbFormat.TheVariants as H

-- words 1 and 2 are the registers in bits 2-0 and 5-3
module _ (m g : List ℕ) (rd rs : ℕ) (q : Pieces) where
  abbrev ps : Pieces
  ps = piece m (text "\t") (piece (reg_string rd) g q)

  low_back : good ps ≡ true → first_of q ≡ reg_string rs → rd < 8 → rs < 8 → low_in (spell ps) ≡ rs * 2 ^ 3 + rd
  unfolding low_in
  low_back e s hd hs = rw (word_nth 1 ps e, word_nth 2 ps e, s, reg_back rd (omega arith), reg_back rs (omega arith))

-- ---- "{op:?}\t{Rd}, {Rs}, #{Offset5}": Rd is word 1, and nothing is word 0, as capitals stand there
abbrev capitals : ℕ → List ℕ
capitals op = shift_text (barrel_shift_op_code op) ++ text "\t"

capitals_gap : (op : ℕ) → op < 3 → gap (capitals op) ≡ true
unfolding shift_text barrel_shift_op_code is_word
capitals_gap = at (λ op. gap (capitals op)) 3 refl

capitals_back : (op : ℕ) → op < 3 → cond (has 65 (capitals op)) 2 (flag (has 82 (capitals op))) ≡ op
unfolding shift_text barrel_shift_op_code has
capitals_back op h = eqb-true _ _ (at (λ op. eqb (cond (has 65 (capitals op)) 2 (flag (has 82 (capitals op)))) op) 3 refl op h)

module _ (form : Form) (pc op offset rs rd : ℕ) (f : Fits (parts form H.MoveShiftedReg) (op ∷ offset ∷ rs ∷ rd ∷ [])) where
  -- the places that are stated
  abbrev stated : Amount
  stated = amount_of form (barrel_shift_op_code op) offset

  stated_back : (places stated < 2 ^ 32) × (amount_field (places stated) ≡ offset)
  stated_back = places_state op offset stated (amount_states form op offset (omega arith) (omega arith))

  abbrev qs : Pieces
  qs = piece (reg_string rd) (text ", ") (piece (reg_string rs) (text ", #") (last (dec (places stated))))

  abbrev shift_line : List ℕ
  shift_line = capitals op ++ spell qs

  qs_good : good qs ≡ true
  unfolding is_word
  qs_good = rw (reg_wordy rd (omega arith), reg_wordy rs (omega arith), dec_wordy (places stated))

  lead : (word shift_line ≡ []) × (after shift_line ≡ spell qs)
  lead = lead_from (capitals op) qs (capitals_gap op f.0) qs_good

  -- a capital stands nowhere behind
  shift_mark : (x : ℕ) → is_word x ≡ false → gaps_have x qs ≡ false → has x shift_line ≡ has x (capitals op)
  shift_mark x e n = rw (has_append x (capitals op) (spell qs), has_gaps x qs e qs_good, n) (or-false (has x (capitals op)))

  shift_back : 0 + operands H.MoveShiftedReg 0 form pc shift_line ≡ move_shifted_reg_word op offset rs rd
  unfolding operands suits shift_in low_in has is_word
  shift_back =
      rw (shift_mark 65 refl refl, shift_mark 82 refl refl, capitals_back op f.0, lead.1, first_word qs qs_good, word_nth 1 qs qs_good, word_nth 2 qs qs_good)
      (rw (reg_back rd (omega arith), reg_back rs (omega arith), dec_back (places stated) stated_back.0, stated_back.1) (omega arith))

  shift_shown : line_of form H.MoveShiftedReg pc (move_shifted_reg_word op offset rs rd) ≡ shift_line
  unfolding line_of fmt_thumb_move_shifted_reg shift_places reg_at
  shift_shown =
      let r = thumb_read_lem form H.MoveShiftedReg tt (op ∷ offset ∷ rs ∷ rd ∷ []) f in
      rw (r 0, r 1, r 2, r 3) (regroup (capitals op) (reg_string rd ∷ text ", " ∷ reg_string rs ∷ text ", #" ∷ dec (places stated) ∷ []))

  shift_found : Law form pc H.MoveShiftedReg tt (move_shifted_reg_word op offset rs rd)
  unfolding rows suits
  shift_found = whole_found form pc H.MoveShiftedReg tt (op ∷ offset ∷ rs ∷ rd ∷ []) f shift_line 0 shift_back shift_shown 0 (omega arith) (sym lead.0) refl refl refl

pub move_shifted_reg_law : (form : Form) (pc : ℕ) → Words form pc H.MoveShiftedReg tt
move_shifted_reg_law form pc = thumb_words form H.MoveShiftedReg tt (Law form pc H.MoveShiftedReg tt) (λ op offset rs rd f e. shift_found form pc op offset rs rd f)

-- ---- "{op}\t{Rd}, {Rs}, {operand}", where the operand is a register or `#` and a number
pub add_sub_law : (form : Form) (pc : ℕ) → Words form pc H.AddSub tt
unfolding line_of fmt_thumb_add_sub add_sub_operand either reg_at operands suits third_in rows first same has is_word
add_sub_law form pc = thumb_words form H.AddSub tt (Law form pc H.AddSub tt) (λ i op rn rs rd f e.
    let xs = i ∷ op ∷ rn ∷ rs ∷ rd ∷ [] in
    let r = thumb_read_lem form H.AddSub tt xs f in
    let m = pick op (text "sub") (text "add") in
    let row = rows_are H.AddSub 2 (λ op. pick op (text "sub") (text "add")) (λ op. 0x1800 + op * 2 ^ 9) refl op f.1.0 in
    let q = piece (reg_string rs) (pick i (text ", #") (text ", ")) (last (pick i (hex 1 rn) (reg_string rn))) in
    let ps = piece m (text "\t") (piece (reg_string rd) (text ", ") q) in
    let g : good ps ≡ true =
    rw (row.one_word, reg_wordy rd (omega arith), reg_wordy rs (omega arith))
    (by_test (eqb i 1) (λ e. rw (e, hex_wordy 1 rn (omega arith))) (λ e. rw (e, reg_wordy rn (omega arith)))) in
    let third : third_in (spell ps) ≡ i * 2 ^ 10 + rn * 2 ^ 6 =
    rw (has_gaps 35 ps refl g, word_nth 3 ps g)
    (by_test (eqb i 1)
    (λ e. rw (e, hex_back 1 rn (omega arith), eqb-true i 1 e) (omega arith))
    (λ e. let z = eqb-false i 1 e in let o : i ≡ 0 = omega arith in rw (e, reg_back rn (omega arith), o) (omega arith))) in
    exact form pc H.AddSub tt xs f ps (0x1800 + op * 2 ^ 9) row g
    (rw (third, low_back m (text ", ") rd rs q g refl (omega arith) (omega arith)) (omega arith))
    (rw (r 0, r 1, r 2, r 3, r 4)
    (by_test (eqb i 1)
    (λ e. rw e (regroup m (text "\t" ∷ reg_string rd ∷ text ", " ∷ reg_string rs ∷ text ", " ∷ (text "#" ++ hex 1 rn) ∷ [])))
    (λ e. rw e (regroup m (text "\t" ∷ reg_string rd ∷ text ", " ∷ reg_string rs ∷ text ", " ∷ reg_string rn ∷ [])))))
    (rw (word_nth 2 ps g, reg_back rs (omega arith)) (lt-ltb rs 8 (omega arith))))

-- ---- "{op}\t{Rd}, {Rs}"
pub alu_ops_law : (form : Form) (pc : ℕ) → Words form pc H.AluOps tt
unfolding line_of fmt_thumb_alu_ops alu_op_text thumb_alu_op reg_at operands suits rows first same is_word
alu_ops_law form pc = thumb_words form H.AluOps tt (Law form pc H.AluOps tt) (λ op rs rd f e.
    let xs = op ∷ rs ∷ rd ∷ [] in
    let r = thumb_read_lem form H.AluOps tt xs f in
    let m = alu_op_text (thumb_alu_op op) in
    let row = rows_are H.AluOps 16 (λ op. alu_op_text (thumb_alu_op op)) (λ op. 0x4000 + op * 2 ^ 6) refl op f.0 in
    let q = last (reg_string rs) in
    let ps = piece m (text "\t") (piece (reg_string rd) (text ", ") q) in
    let g : good ps ≡ true = rw (row.one_word, reg_wordy rd (omega arith), reg_wordy rs (omega arith)) in
    exact form pc H.AluOps tt xs f ps (0x4000 + op * 2 ^ 6) row g
    (rw (low_back m (text ", ") rd rs q g refl (omega arith) (omega arith)) (omega arith))
    (rw (r 0, r 1, r 2) (regroup m (text "\t" ∷ reg_string rd ∷ text ", " ∷ reg_string rs ∷ []))) refl)

-- ---- "{op}\t{Rd}, [{Rb}, {operand}]": the operand c, with what stands before it, gives x in bits from 6 on
module _ (form : Form) (pc : ℕ) (k : ThumbFormat) (d : T (ltb (thumb_number k) 19)) (xs : List ℕ) (f : Fits (parts form k) xs)
    (m : List ℕ) (b : ℕ) (row : Mnemonic k m b) (rd rb : ℕ) (hd : rd < 8) (hb : rb < 8) (h c : List ℕ) (gh : gap h ≡ true) (wc : wordy c ≡ true) where
  memory_found : (x : ℕ) → ((t : List ℕ) → word (from_word 3 t) ≡ c → operands k b form pc t ≡ x * 2 ^ 6 + low_in t) →
      b + (x * 2 ^ 6 + (rb * 2 ^ 3 + rd)) ≡ made (parts form k) xs →
      line_of form k pc (made (parts form k) xs) ≡ m ++ text "\t" ++ reg_string rd ++ text ", [" ++ reg_string rb ++ h ++ c ++ text "]" →
      ((t : List ℕ) → word (from_word 2 t) ≡ reg_string rb → word (from_word 3 t) ≡ c → suits k t ≡ true) → Law form pc k d (made (parts form k) xs)
  unfolding is_word
  memory_found x o s shown u =
      let q = piece (reg_string rb) h (piece c (text "]") none) in
      let ps = piece m (text "\t") (piece (reg_string rd) (text ", [") q) in
      let g : good ps ≡ true = rw (row.one_word, reg_wordy rd (omega arith), reg_wordy rb (omega arith), gh, wc) in
      exact form pc k d xs f ps b row g (rw (o (spell ps) (word_nth 3 ps g), low_back m (text ", [") rd rb q g refl hd hb) s)
      (shown ∙ regroup m (text "\t" ∷ reg_string rd ∷ text ", [" ∷ reg_string rb ∷ h ∷ c ∷ text "]" ∷ []))
      (u (spell ps) (word_nth 2 ps g) (word_nth 3 ps g))

pub ldr_str_reg_offset_law : (form : Form) (pc : ℕ) → Words form pc H.LdrStrRegOffset tt
unfolding line_of fmt_thumb_ldr_str_reg_offset either if_set reg_at operands suits rows first same is_word
ldr_str_reg_offset_law form pc = thumb_words form H.LdrStrRegOffset tt (Law form pc H.LdrStrRegOffset tt) (λ l b ro rb rd f e.
    let xs = l ∷ b ∷ ro ∷ rb ∷ rd ∷ [] in
    let r = thumb_read_lem form H.LdrStrRegOffset tt xs f in
    let row = rows_are₂ H.LdrStrRegOffset 2 2 (λ l b. pick l (text "ldr") (text "str") ++ pick b (text "b") []) (λ l b. 0x5000 + l * 2 ^ 11 + b * 2 ^ 10) refl
    l b f.0 f.1.0 in
    memory_found form pc H.LdrStrRegOffset tt xs f _ _ row rd rb (omega arith) (omega arith) (text ", ") (reg_string ro) refl (reg_wordy ro (omega arith)) ro
    (λ t e. rw (e, reg_back ro (omega arith))) (omega arith) (rw (r 0, r 1, r 2, r 3, r 4))
    (λ t e₂ e₃. rw (e₃, reg_back ro (omega arith)) (lt-ltb ro 8 (omega arith))))

pub ldr_str_shb_law : (form : Form) (pc : ℕ) → Words form pc H.LdrStrSHB tt
unfolding line_of fmt_thumb_ldr_str_shb shb_text either reg_at operands suits rows first same is_word
ldr_str_shb_law form pc = thumb_words form H.LdrStrSHB tt (Law form pc H.LdrStrSHB tt) (λ h s ro rb rd f e.
    let xs = h ∷ s ∷ ro ∷ rb ∷ rd ∷ [] in
    let r = thumb_read_lem form H.LdrStrSHB tt xs f in
    let row = rows_are₂ H.LdrStrSHB 2 2 (λ h s. pick s (pick h (text "ldsh") (text "ldsb")) (pick h (text "ldrh") (text "strh")))
    (λ h s. 0x5200 + h * 2 ^ 11 + s * 2 ^ 10) refl h s f.0 f.1.0 in
    memory_found form pc H.LdrStrSHB tt xs f _ _ row rd rb (omega arith) (omega arith) (text ", ") (reg_string ro) refl (reg_wordy ro (omega arith)) ro
    (λ t e. rw (e, reg_back ro (omega arith))) (omega arith) (rw (r 0, r 1, r 2, r 3, r 4))
    (λ t e₂ e₃. rw (e₃, reg_back ro (omega arith)) (lt-ltb ro 8 (omega arith))))

-- bytes are counted by one, words by four
unit_back : (b l offset : ℕ) → b < 2 → l < 2 → offset < 2 ^ 5 → cond (eqb b 1) offset (offset * 4) / transfer_unit (0x6000 + b * 2 ^ 12 + l * 2 ^ 11) % 2 ^ 5 ≡ offset
unit_back b l offset h g k =
    let t : (0x6000 + b * 2 ^ 12 + l * 2 ^ 11) / 2 ^ 12 % 2 ≡ b = omega arith in
    rw t (by_test (eqb b 1) (λ e. rw e (omega arith)) (λ e. rw e (omega arith)))

pub ldr_str_imm_offset_law : (form : Form) (pc : ℕ) → Words form pc H.LdrStrImmOffset tt
unfolding line_of fmt_thumb_ldr_str_imm_offset imm_offset either if_set reg_at operands suits rows first same is_word
ldr_str_imm_offset_law form pc = thumb_words form H.LdrStrImmOffset tt (Law form pc H.LdrStrImmOffset tt) (λ b l offset rb rd f e.
    let xs = b ∷ l ∷ offset ∷ rb ∷ rd ∷ [] in
    let r = thumb_read_lem form H.LdrStrImmOffset tt xs f in
    let row = rows_are₂ H.LdrStrImmOffset 2 2 (λ b l. pick l (text "ldr") (text "str") ++ pick b (text "b") []) (λ b l. 0x6000 + b * 2 ^ 12 + l * 2 ^ 11) refl
    b l f.0 f.1.0 in
    let n = cond (eqb b 1) offset (offset * 4) in
    let small : n < 2 ^ 32 = by_test (eqb b 1) (λ e. rw e (omega arith)) (λ e. rw e (omega arith)) in
    memory_found form pc H.LdrStrImmOffset tt xs f _ _ row rd rb (omega arith) (omega arith) (text ", #") (prefixed 1 n) refl (prefixed_wordy 1 n (omega arith)) offset
    (λ t e. rw (e, prefixed_back 1 n small, unit_back b l offset f.0 f.1.0 f.1.1.0)) (omega arith) (rw (r 0, r 1, r 2, r 3, r 4))
    (λ t e₂ e₃. rw (e₂, reg_back rb (omega arith)) (lt-ltb rb 8 (omega arith))))

pub ldr_str_half_word_law : (form : Form) (pc : ℕ) → Words form pc H.LdrStrHalfWord tt
unfolding line_of fmt_thumb_ldr_str_halfword either reg_at operands suits rows first same is_word
ldr_str_half_word_law form pc = thumb_words form H.LdrStrHalfWord tt (Law form pc H.LdrStrHalfWord tt) (λ l offset rb rd f e.
    let xs = l ∷ offset ∷ rb ∷ rd ∷ [] in
    let r = thumb_read_lem form H.LdrStrHalfWord tt xs f in
    let row = rows_are H.LdrStrHalfWord 2 (λ l. pick l (text "ldrh") (text "strh")) (λ l. 0x8000 + l * 2 ^ 11) refl l f.0 in
    memory_found form pc H.LdrStrHalfWord tt xs f _ _ row rd rb (omega arith) (omega arith) (text ", #") (prefixed 1 (offset * 2)) refl (prefixed_wordy 1 (offset * 2) (omega arith)) offset
    (λ t e. let q : offset * 2 / 2 % 2 ^ 5 ≡ offset = omega arith in rw (e, prefixed_back 1 (offset * 2) (omega arith), q)) (omega arith) (rw (r 0, r 1, r 2, r 3))
    (λ t e₂ e₃. rw (e₂, reg_back rb (omega arith)) (lt-ltb rb 8 (omega arith))))
