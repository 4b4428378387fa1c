-- Data processing: the candidate of a line is found. Assumes nothing.
use Prim.Native.Nat.{◌%◌, ◌*◌, ◌+◌, ◌/◌, ◌<◌, ◌^◌, ℕ}
use borrow.Author.Tests.{eq-eqb, eqb-false, eqb-true, ne_eqb}
use lib.Dec.{eqb}
use mathlib.Core.Bool.{beq, ◌||◌, cond, false, not, true, true≢false}
use mathlib.Core.List.{List, [], ◌++◌, ◌∷◌}
use mathlib.Core.Path.{◌∙◌, ◌≡◌, ap, refl, sym}
use native.Mathlib.Omega.{arith}
use Rattle.arm7tdmi.proofs.Names.{reg_back, reg_wordy}
use Rattle.arm7tdmi.specs.Alu.{alu_op_code, is_move}
use Rattle.arm7tdmi.specs.Names.{cond_text, reg_string}
use Rattle.lines.specs.Pieces.{cond_at, if_set, reg_at}
use Rattle.arm7tdmi.specs.declared.Form.TheVariants.{Bench, Sheet}
use Rattle.arm7tdmi.specs.declared.Form.{Form}
use Rattle.arm_disass.specs.Line.{fmt_data_processing, fmt_move, fmt_opcode, fmt_test, fmt_three, op_text, line_of}
use Rattle.arm_operand.specs.Operand.{rd_text}
use Rattle.arm_print.specs.Print.{is_test_opcode, refuses_tests}
use Rattle.arm_lowest.proofs.Found.{Law, fifteen, least_found, pieces_read, printed_line, regular}
use Rattle.arm_lowest.proofs.Heads.{Mnemonic, dp_reads, dp_bits, dp_stem, pick}
use Rattle.arm_lowest.proofs.Operand.{lead, op_back, op_good, op_least_lem, op_spelled, op_least, op_pieces}
use Rattle.arm_candidate.specs.CandidateDataProcessing.{dp_cand, dp_from, is_mrs, is_three, operand_in, rd_in, rn_in, shows_rd, test_s}
use Rattle.arm_candidate.specs.CandidateOperand.{operand_of}
use Rattle.reading.specs.Parts.{reg_in}
use Rattle.arm_words.proofs.DataProcessing.{DpFields, dp_least, dp_read, dp_test_lem, dp_words, dp_move, dp_rd, dp_rn, dp_s, dp_test, dp_test_s, dp_word, mrs_shape, same_test}
use Rattle.arm_words.proofs.Scheme.{Words, bench, shown_low}
use Rattle.common.proofs.Tests.{and_left, at, by_test}
use Rattle.reading.proofs.Pieces.{Pieces, from_nth, good, piece, regroup, spell, word_nth}
use Rattle.text.proofs.Word.{gap}
use Rattle.text.specs.Text.{text}
use Rattle.text.specs.Word.{from_word, is_word}
use Rattle.arm.specs.declared.ArmFormat.TheVariants as A

-- ---- opcodes
dp_move_lem : (op : ℕ) → op < 16 → is_move (alu_op_code op) ≡ dp_move op
unfolding alu_op_code
dp_move_lem op h = same_test _ _ (at (λ op. beq (is_move (alu_op_code op)) (dp_move op)) 16 refl op h)

move_test : (op : ℕ) → dp_move op ≡ true → dp_test op ≡ false
move_test op e = let z = eqb-true (op / 4) 3 (and_left (eqb (op / 4) 3) (eqb (op % 2) 1) e) in rw z

-- ---- the words of the line
abbrev dp_first : Form → ℕ → ℕ → ℕ → ℕ
dp_first form op rn rd = cond (shows_rd form op) rd rn

abbrev dp_pieces : Form → ℕ → ℕ → ℕ → ℕ → ℕ → ℕ → ℕ → Pieces
dp_pieces form c i op s rn rd n =
    piece (dp_stem op s ++ cond_text c) (text "\t")
    (cond (is_three op) (piece (reg_string (dp_first form op rn rd)) (text ", ") (piece (reg_string rn) (text ", " ++ lead i) (op_pieces form i n)))
    (piece (reg_string (dp_first form op rn rd)) (text ", " ++ lead i) (op_pieces form i n)))

rd_first : (form : Form) {c i op s rn rd n : ℕ} → DpFields c i op s rn rd n → dp_test op ≡ false → rd_text form (dp_word c i op s rn rd n) ≡ reg_string (dp_first form op rn rd)
unfolding rd_text reg_at
rd_first Bench f t = rw (dp_read f).4
rd_first Sheet f t = rw (t, (dp_read f).5)

test_first : (form : Form) (op rn rd : ℕ) → dp_test op ≡ true → dp_first form op rn rd ≡ rn
test_first Bench op rn rd t = refl
test_first Sheet op rn rd t = rw t

dp_spelled : (form : Form) {c i op s rn rd n : ℕ} → DpFields c i op s rn rd n → fmt_data_processing form (dp_word c i op s rn rd n) ≡ spell (dp_pieces form c i op s rn rd n)
unfolding fmt_data_processing fmt_opcode fmt_move fmt_test fmt_three if_set cond_at reg_at
dp_spelled form {c} {i} {op} {s} {rn} {rd} {n} f =
    let r = dp_read f in
    let o = op_spelled form (dp_word c i op s rn rd n) i n r.1 r.6 in
    let m = dp_move_lem op f.hop in
    let t = dp_test_lem op f.hop in
    by_test (dp_test op)
    (λ e. let h : dp_move op ≡ false = by_test (dp_move op) (λ y. absurd (true≢false (sym e ∙ move_test op y))) (λ y. y) in
    rw (o, r.2, m, h, t, e, r.0, r.4, test_first form op rn rd e)
    (regroup (op_text (alu_op_code op) ++ cond_text c) (text "\t" ∷ reg_string rn ∷ text ", " ∷ (lead i ++ spell (op_pieces form i n)) ∷ [])))
    (λ e. let d = rd_first form f e in
    by_test (dp_move op)
    (λ h. rw (o, r.2, m, h, e, r.0, r.3, d)
    (regroup (op_text (alu_op_code op) ++ pick s (text "s") [] ++ cond_text c) (text "\t" ∷ reg_string (dp_first form op rn rd) ∷ text ", " ∷ (lead i ++ spell (op_pieces form i n)) ∷ [])))
    (λ h. rw (o, r.2, m, h, t, e, r.0, r.3, r.4, d)
    (regroup (op_text (alu_op_code op) ++ pick s (text "s") [] ++ cond_text c) (text "\t" ∷ reg_string (dp_first form op rn rd) ∷ text ", " ∷ reg_string rn ∷ text ", " ∷ (lead i ++ spell (op_pieces form i n)) ∷ []))))

-- ---- its candidate
mrs_shape_lem : (i op rn n : ℕ) → rn < 16 → is_mrs op rn (i * 2 ^ 25 + n) ≡ mrs_shape i op rn n
mrs_shape_lem i op rn n h =
    by_test (mrs_shape i op rn n)
    (λ e. let z = eqb-true (15 + i + op % 2 + n) rn e in
    rw (e, eq-eqb (op % 2) 0 (omega arith), eq-eqb rn 15 (omega arith)) (eq-eqb (i * 2 ^ 25 + n) 0 (omega arith)))
    (λ e. let z = eqb-false (15 + i + op % 2 + n) rn e in
    rw e (by_test (eqb (op % 2) 0)
    (λ a. by_test (eqb rn 15)
    (λ b. let x = eqb-true (op % 2) 0 a in let y = eqb-true rn 15 b in rw (a, b) (ne_eqb (i * 2 ^ 25 + n) 0 (λ q. let v : i * 2 ^ 25 + n ≡ 0 = q in z (omega arith))))
    (λ b. rw (a, b)))
    (λ a. rw a)))

test_s_lem : (form : Form) (i op rn n : ℕ) → rn < 16 → test_s form op rn (i * 2 ^ 25 + n) ≡ dp_test_s form i op rn n
test_s_lem Bench i op rn n h = mrs_shape_lem i op rn n h
test_s_lem Sheet i op rn n h = refl

-- what is shown of the registers
rn_shown : (form : Form) (op rn : ℕ) → cond (is_three op) rn (cond (shows_rd form op) 0 rn) ≡ dp_rn form op rn
rn_shown Bench op rn = by_test (is_three op) (λ e. rw e) (λ e. rw e)
rn_shown Sheet op rn =
    by_test (dp_test op)
    (λ e. let h : dp_move op ≡ false = by_test (dp_move op) (λ y. absurd (true≢false (sym e ∙ move_test op y))) (λ y. y) in rw (e, h))
    (λ e. by_test (dp_move op) (λ h. rw (e, h)) (λ h. rw (e, h)))

rd_shown : (form : Form) (op rd : ℕ) → cond (shows_rd form op) rd 0 ≡ dp_rd form op rd
rd_shown Bench op rd = refl
rd_shown Sheet op rd = refl

-- what a line's words name
module _ (form : Form) (op : ℕ) (l : List ℕ) where
  rn_named : (rn rd : ℕ) → (is_three op ≡ true → reg_in 2 l ≡ rn) → reg_in 1 l ≡ dp_first form op rn rd → rn_in form op l ≡ dp_rn form op rn
  rn_named rn rd two one =
      rw (← rn_shown form op rn) (by_test (is_three op)
      (λ e. rw (e, two e))
      (λ e. by_test (shows_rd form op) (λ h. rw (e, h)) (λ h. rw (e, h, one, h))))

  rd_named : (rn rd : ℕ) → reg_in 1 l ≡ dp_first form op rn rd → rd_in form op l ≡ dp_rd form op rd
  rd_named rn rd one = rw (← rd_shown form op rd) (by_test (shows_rd form op) (λ h. rw (h, one, h)) (λ h. rw h))

  operand_named : (x : List ℕ) → (is_three op ≡ true → from_word 3 l ≡ x) → (is_three op ≡ false → from_word 2 l ≡ x) → operand_in op l ≡ operand_of x
  operand_named x a b = by_test (is_three op) (λ e. rw (e, a e)) (λ e. rw (e, b e))

module _ (form : Form) {c i op s rn rd n : ℕ} (f : DpFields c i op s rn rd n) where
  abbrev ps : Pieces
  ps = dp_pieces form c i op s rn rd n

  abbrev k : ℕ
  k = op_least i n

  abbrev R : ℕ
  R = dp_rn form op rn

  abbrev D : ℕ
  D = dp_rd form op rd

  first_small : dp_first form op rn rd < 16
  first_small = by_test (shows_rd form op) (λ e. rw e f.hrd) (λ e. rw e f.hrn)

  -- the least word has the same words
  first_same : dp_first form op R D ≡ dp_first form op rn rd
  first_same =
      by_test (shows_rd form op)
      (λ e. rw (← rd_shown form op rd, e))
      (λ e. by_test (is_three op) (λ h. rw (← rn_shown form op rn, h, e)) (λ h. rw (← rn_shown form op rn, h, e)))

  stem_same : dp_stem op (dp_s form i op s R k) ≡ dp_stem op s
  stem_same = by_test (dp_test op) (λ e. rw e) (λ e. rw e)

  dp_same : dp_pieces form c i op (dp_s form i op s R k) R D k ≡ ps
  dp_same =
      let o = (op_least_lem form i n f.hi f.hn).words in
      by_test (is_three op)
      (λ e. let r : R ≡ rn = sym (rn_shown form op rn) ∙ rw e in rw (stem_same, first_same, e, o, r))
      (λ e. rw (stem_same, first_same, e, o))

  module _ (hc : c < 15) where
    dp_mnemonic : Mnemonic 0 (dp_bits op s) c (dp_stem op s ++ cond_text c)
    dp_mnemonic = dp_reads op s c f.hop f.hs hc

    lead_gap : gap (text ", " ++ lead i) ≡ true
    unfolding is_word
    lead_gap = by_test (eqb i 1) (λ e. rw e) (λ e. rw e)

    dp_good : good ps ≡ true
    unfolding is_word
    dp_good =
        let h = dp_mnemonic.one_word in
        let a = reg_wordy (dp_first form op rn rd) first_small in
        let b = reg_wordy rn f.hrn in
        let o = op_good form i n in
        let g = lead_gap in
        by_test (is_three op) (λ e. rw (e, h, a, b, g, o)) (λ e. rw (e, h, a, g, o))

    one : reg_in 1 (spell ps) ≡ dp_first form op rn rd
    one =
        let w = word_nth 1 ps dp_good in
        let b = reg_back (dp_first form op rn rd) first_small in
        by_test (is_three op) (λ e. rw (w, e) b) (λ e. rw (w, e) b)

    rn_back : rn_in form op (spell ps) ≡ R
    rn_back = rn_named form op (spell ps) rn rd (λ e. rw (word_nth 2 ps dp_good, e) (reg_back rn f.hrn)) one

    rd_back : rd_in form op (spell ps) ≡ D
    rd_back = rd_named form op (spell ps) rn rd one

    operand_back : operand_in op (spell ps) ≡ i * 2 ^ 25 + k
    operand_back =
        operand_named form op (spell ps) (spell (op_pieces form i n)) (λ e. (from_nth 3 ps dp_good).0 ∙ rw e) (λ e. (from_nth 2 ps dp_good).0 ∙ rw e)
        ∙ op_back form i n f.hi f.hn

    s_small : cond (dp_test op) 0 s < 2
    s_small = by_test (dp_test op) (λ e. rw e (omega arith)) (λ e. rw e f.hs)

    op_bits : dp_bits op s / 2 ^ 21 ≡ op
    op_bits = let h = s_small in omega arith

    R_small : R < 16
    R_small = let l = shown_low (bench form || not (dp_move op)) rn in omega arith

    dp_back : (pc : ℕ) → dp_cand form pc (dp_bits op s) c (spell ps) ≡ dp_word c i op (dp_s form i op s R k) R D k
    unfolding dp_cand dp_from
    dp_back pc =
        rw (op_bits, rn_back, rd_back, operand_back, test_s_lem form i op R k R_small)
        (by_test (dp_test op)
        (λ e. by_test (dp_test_s form i op R k) (λ m. rw (e, m) (omega arith)) (λ m. rw (e, m) (omega arith)))
        (λ e. rw e (omega arith)))

-- ---- its S
test_opcode : (op : ℕ) → op < 16 → is_test_opcode op ≡ dp_test op
test_opcode op h = same_test _ _ (at (λ op. beq (is_test_opcode op) (dp_test op)) 16 refl op h)

sheet_tests : (form : Form) → refuses_tests form ≡ not (bench form)
sheet_tests Bench = refl
sheet_tests Sheet = refl

module _ (form : Form) {c i op s rn rd n : ℕ} (f : DpFields c i op s rn rd n) where
  -- a test that prints on the sheet has it
  has_s : regular form A.DataProcessing (dp_word c i op s rn rd n) ≡ true → bench form ≡ false → dp_test op ≡ true → s ≡ 1
  has_s p b t =
      by_test (eqb s 1)
      (λ y. eqb-true _ _ y)
      (λ y. absurd (true≢false (sym p ∙ rw (sheet_tests form, b, (dp_read f).2, test_opcode op f.hop, t, (dp_read f).3, y))))

  -- and one that has it prints
  with_s : (bench form ≡ false → dp_test op ≡ true → s ≡ 1) → regular form A.DataProcessing (dp_word c i op s rn rd n) ≡ true
  with_s h =
      by_test (bench form)
      (λ b. rw (sheet_tests form, b))
      (λ b. by_test (dp_test op)
      (λ t. rw (sheet_tests form, b, (dp_read f).2, test_opcode op f.hop, t, (dp_read f).3, h b t))
      (λ t. rw (sheet_tests form, b, (dp_read f).2, test_opcode op f.hop, t)))

pub dp_law : (form : Form) (pc : ℕ) → Words form A.DataProcessing (Law 0 dp_cand form pc)
unfolding line_of
dp_law form pc = dp_words form (Law 0 dp_cand form pc) (λ c i op s rn rd n f e t q.
    let p = printed_line form A.DataProcessing pc (dp_word c i op s rn rd n) e t q in
    let hc = fifteen (dp_word c i op s rn rd n) (dp_read f).0 f.hc (p.when refl) in
    let o = op_least_lem form i n f.hi f.hn in
    let l = dp_least f form e (op_least i n) o.low o.reg (has_s form f p.regular) in
    pieces_read (dp_pieces form c i op s rn rd n) (p.text ∙ dp_spelled form f) (dp_good form f hc) (dp_mnemonic form f hc)
    (rw (dp_back form f hc pc) (least_found pc t e q l (λ z. (dp_read l.fields).0 ∙ sym (dp_read f).0) (with_s form l.fields (λ b t. rw (t, b)))
    (dp_spelled form l.fields ∙ ap spell (dp_same form f) ∙ sym (dp_spelled form f)))))
