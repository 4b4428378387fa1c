-- Moves from and to the status: the candidate of a line is found. Assumes nothing.
use Prim.Native.Nat.{◌*◌, ◌+◌, ◌<◌, ◌^◌, ℕ}
use borrow.Author.Tests.{eqb-false, eqb-true}
use lib.Dec.{eqb}
use lib.ListN.{get_or}
use mathlib.Core.Bool.{cond, false, not, true}
use mathlib.Core.List.{List, [], ◌++◌, ◌∷◌, append_assoc, append-nil}
use mathlib.Core.Path.{◌∙◌, ◌≡◌, ap, refl, sym}
use native.Mathlib.Omega.{arith}
use Rattle.arm7tdmi.proofs.Names.{reg_back, reg_wordy}
use Rattle.arm7tdmi.specs.Alu.{decode_rotated_immediate}
use Rattle.arm.specs.Fields.{operand2}
use Rattle.arm7tdmi.specs.Names.{cond_text, reg_string}
use Rattle.lines.specs.Pieces.{cond_at, either, reg_at}
use Rattle.arm7tdmi.specs.declared.Form.{Form}
use Rattle.arm_operand.specs.Operand.{flag_text, flags, flags_comment, fmt_operand2}
use Rattle.arm_disass.specs.Line.{fmt_mrs, fmt_msr, fmt_msr_flags, line_of}
use Rattle.arm_lowest.proofs.Found.{Law, exact, fifteen, least_found, pieces_read, printed_line}
use Rattle.arm_lowest.proofs.Heads.{mrs_reads, msr_reads, pick}
use Rattle.arm_lowest.proofs.Operand.{lead, number_back, op_least_lem, op_spelled, op_least, register_back, shift_alone, shift_good, shift_same, shift_pieces}
use Rattle.arm_lowest.proofs.Rotation.{immediate_least, immediate_at}
use Rattle.arm_candidate.specs.CandidateOperand.{operand_of}
use Rattle.reading.specs.Parts.{flag}
use Rattle.arm_candidate.specs.CandidateSimple.{mrs_cand, msr_cand}
use Rattle.arm_words.proofs.Operand.{operand_read, shift_least_lem}
use Rattle.arm_words.proofs.Scheme.{Words}
use Rattle.arm_words.proofs.Status.{FlagsFields, MrsFields, MsrFields, flags_least, flags_read, flags_words, flags_word, mrs_read, mrs_words, mrs_word, msr_read, msr_words, msr_word}
use Rattle.common.proofs.Tests.{by_test}
use Rattle.common.specs.Bits.{bit, bit_range}
use Rattle.reading.proofs.Pieces.{Pieces, first_rest, from_nth, good, has_gaps, last, none, piece, regroup, spell, word_nth}
use Rattle.text.proofs.Word.{dec_wordy, prefixed_wordy, wordy}
use Rattle.text.specs.Digits.{dec, prefixed}
use Rattle.text.specs.Text.{text}
use Rattle.text.specs.Word.{behind, has, is_word}
use Rattle.arm.specs.declared.ArmFormat.TheVariants as A

-- ---- mrs: exact
abbrev psr : ℕ → List ℕ
psr p = pick p (text "SPSR") (text "CPSR")

module _ {c p rd : ℕ} (f : MrsFields c p rd) where
  abbrev mrs_pieces : Pieces
  mrs_pieces = piece (text "mrs" ++ cond_text c) (text "\t") (piece (reg_string rd) (text ", " ++ psr p) none)

  mrs_spelled : fmt_mrs (mrs_word c p rd) ≡ spell mrs_pieces
  unfolding fmt_mrs either cond_at reg_at
  mrs_spelled =
      let r = mrs_read f in
      rw (r.0, r.1, r.2, append-nil) (regroup (text "mrs" ++ cond_text c) (text "\t" ∷ reg_string rd ∷ text ", " ∷ psr p ∷ []))

  module _ (hc : c < 15) where
    mrs_good : good mrs_pieces ≡ true
    unfolding is_word
    mrs_good = by_test (eqb p 1) (λ e. rw (e, (mrs_reads c hc).one_word, reg_wordy rd f.hrd)) (λ e. rw (e, (mrs_reads c hc).one_word, reg_wordy rd f.hrd))

    -- C stands in CPSR alone
    mrs_psr : flag (not (has 67 (spell mrs_pieces))) ≡ p
    unfolding has is_word
    mrs_psr =
        let h = has_gaps 67 mrs_pieces refl mrs_good in
        by_test (eqb p 1)
        (λ e. rw (h, e) (sym (eqb-true p 1 e)))
        (λ e. let z = eqb-false p 1 e in rw (h, e) (omega arith))

    mrs_back : (form : Form) (pc : ℕ) → mrs_cand form pc 0 c (spell mrs_pieces) ≡ mrs_word c p rd
    unfolding mrs_cand
    mrs_back form pc = rw (mrs_psr, word_nth 1 mrs_pieces mrs_good, reg_back rd f.hrd) (omega arith)

pub mrs_law : (form : Form) (pc : ℕ) → Words form A.MoveFromStatus (Law 5 mrs_cand form pc)
unfolding line_of
mrs_law form pc = mrs_words form (Law 5 mrs_cand form pc) (λ c p rd f e t q.
    let s = printed_line form A.MoveFromStatus pc (mrs_word c p rd) e t q in
    let hc = fifteen (mrs_word c p rd) (mrs_read f).0 f.hc (s.when refl) in
    pieces_read (mrs_pieces f) (s.text ∙ mrs_spelled f) (mrs_good f hc) (mrs_reads c hc) (exact (mrs_back f hc form pc)))

-- ---- msr, a register to the whole: exact
module _ {c p rm : ℕ} (f : MsrFields c p rm) where
  abbrev msr_pieces : Pieces
  msr_pieces = piece (text "msr" ++ cond_text c) (text "\t" ++ (psr p ++ text ", ")) (last (reg_string rm))

  msr_spelled : (form : Form) → fmt_msr form (msr_word c p rm) ≡ spell msr_pieces
  unfolding fmt_msr either cond_at
  msr_spelled form =
      let r = msr_read f in
      let o : fmt_operand2 form (operand2 (msr_word c p rm)) ≡ reg_string rm = op_spelled form (msr_word c p rm) 0 rm r.3 r.2 ∙ ap spell (shift_alone form rm f.hrm) in
      rw (r.0, r.1, o)
      (regroup (text "msr" ++ cond_text c) (text "\t" ∷ psr p ∷ text ", " ∷ reg_string rm ∷ []) ∙
      ap (λ (l : List ℕ). text "msr" ++ cond_text c ++ (text "\t" ++ l)) (sym (append_assoc (psr p) (text ", ") (reg_string rm))))

  module _ (hc : c < 15) where
    msr_good : good msr_pieces ≡ true
    unfolding is_word
    msr_good = by_test (eqb p 1) (λ e. rw (e, (msr_reads c hc).one_word, reg_wordy rm f.hrm)) (λ e. rw (e, (msr_reads c hc).one_word, reg_wordy rm f.hrm))

    msr_psr : flag (eqb (get_or (behind (spell msr_pieces)) 1 0) 83) ≡ p
    msr_psr =
        let h = first_rest msr_pieces msr_good in
        by_test (eqb p 1)
        (λ e. rw (h, e) (sym (eqb-true p 1 e)))
        (λ e. let z = eqb-false p 1 e in rw (h, e) (omega arith))

    msr_whole : has 95 (spell msr_pieces) ≡ false
    unfolding has is_word
    msr_whole = let h = has_gaps 95 msr_pieces refl msr_good in by_test (eqb p 1) (λ e. rw (h, e)) (λ e. rw (h, e))

    msr_back : (form : Form) (pc : ℕ) → msr_cand form pc 0 c (spell msr_pieces) ≡ msr_word c p rm
    unfolding msr_cand
    msr_back form pc = rw (msr_psr, msr_whole, word_nth 1 msr_pieces msr_good, reg_back rm f.hrm) (omega arith)

pub msr_law : (form : Form) (pc : ℕ) → Words form A.MoveToStatus (Law 6 msr_cand form pc)
unfolding line_of
msr_law form pc = msr_words form (Law 6 msr_cand form pc) (λ c p rm f e t q.
    let s = printed_line form A.MoveToStatus pc (msr_word c p rm) e t q in
    let hc = fifteen (msr_word c p rm) (msr_read f).0 f.hc (s.when refl) in
    pieces_read (msr_pieces f) (s.text ∙ msr_spelled f form) (msr_good f hc) (msr_reads c hc) (exact (msr_back f hc form pc)))

-- ---- msr to the flags: operand 2 as in data processing, and of an immediate the flags in a comment
abbrev truth : ℕ → ℕ → List ℕ
truth v n = cond (bit v n) (text "true") (text "false")

truth_wordy : (v n : ℕ) → wordy (truth v n) ≡ true
unfolding is_word
truth_wordy v n = by_test (bit v n) (λ e. rw e) (λ e. rw e)

abbrev value_pieces : ℕ → Pieces
value_pieces v =
    piece (dec v) (text "\t; ") (piece (prefixed 1 v) (text "\t; N=") (piece (truth v 31) (text " Z=") (piece (truth v 30) (text " C=") (piece (truth v 29) (text " V=") (last (truth v 28))))))

abbrev flags_operand : Form → ℕ → ℕ → Pieces
flags_operand form i n = cond (eqb i 1) (value_pieces (immediate_at n)) (shift_pieces form n)

flags_right : (v : ℕ) → flags v ≡ text "\t; N=" ++ (truth v 31 ++ (text " Z=" ++ (truth v 30 ++ (text " C=" ++ (truth v 29 ++ (text " V=" ++ truth v 28))))))
unfolding flags flag_text either
flags_right v = regroup (text "\t; N=") (truth v 31 ∷ text " Z=" ∷ truth v 30 ∷ text " C=" ∷ truth v 29 ∷ text " V=" ∷ truth v 28 ∷ [])

operand_good : (form : Form) (i n : ℕ) → good (flags_operand form i n) ≡ true
unfolding is_word
operand_good form i n =
    by_test (eqb i 1)
    (λ e. rw (e, dec_wordy (immediate_at n), prefixed_wordy 1 (immediate_at n) (omega arith), truth_wordy (immediate_at n) 31, truth_wordy (immediate_at n) 30, truth_wordy (immediate_at n) 29, truth_wordy (immediate_at n) 28))
    (λ e. rw e (shift_good form n))

operand_spelled : (form : Form) (w i n : ℕ) → bit_range w 25 26 ≡ i → bit_range w 0 12 ≡ n →
    fmt_operand2 form (operand2 w) ++ flags_comment (decode_rotated_immediate (operand2 w)) ≡ lead i ++ spell (flags_operand form i n)
operand_spelled form w i n h e =
    by_test (eqb i 1)
    (λ y. rw (op_spelled form w i n h e, comment y, y) (ap (λ (l : List ℕ). text "#" ++ l) (append_assoc (dec (immediate_at n)) (text "\t; " ++ prefixed 1 (immediate_at n)) (flags (immediate_at n)) ∙ rw (flags_right (immediate_at n)))))
    (λ y. rw (op_spelled form w i n h e, none y, y) (append-nil (spell (shift_pieces form n))))
  where
    set : bit w 25 ≡ eqb i 1
    set = ap (λ (x : ℕ). eqb x 1) h

    comment : eqb i 1 ≡ true → flags_comment (decode_rotated_immediate (operand2 w)) ≡ flags (immediate_at n)
    comment y = unfold flags_comment decode_rotated_immediate operand2 in rw (set, y, (operand_read w n e).4, (operand_read w n e).5)

    none : eqb i 1 ≡ false → flags_comment (decode_rotated_immediate (operand2 w)) ≡ []
    none y = unfold flags_comment decode_rotated_immediate operand2 in rw (set, y)

abbrev flags_pieces : Form → ℕ → ℕ → ℕ → ℕ → Pieces
flags_pieces form c p i n = piece (text "msr" ++ cond_text c) (text "\t" ++ (psr p ++ text "_")) (piece (text "f") (text ", " ++ lead i) (flags_operand form i n))

flags_spelled : (form : Form) {c p i n : ℕ} → FlagsFields c p i n → fmt_msr_flags form (flags_word c p i n) ≡ spell (flags_pieces form c p i n)
unfolding fmt_msr_flags either cond_at
flags_spelled form {c} {p} {i} {n} f =
    let r = flags_read f in
    let o = operand_spelled form (flags_word c p i n) i n r.2 r.3 in
    by_test (eqb p 1)
    (λ e. rw (r.0, r.1, e)
    (regroup (text "msr" ++ cond_text c) (text "\t" ∷ text "SPSR_f" ∷ text ", " ∷ fmt_operand2 form (operand2 (flags_word c p i n)) ∷ flags_comment (decode_rotated_immediate (operand2 (flags_word c p i n))) ∷ [])
    ∙ rw o))
    (λ e. rw (r.0, r.1, e)
    (regroup (text "msr" ++ cond_text c) (text "\t" ∷ text "CPSR_f" ∷ text ", " ∷ fmt_operand2 form (operand2 (flags_word c p i n)) ∷ flags_comment (decode_rotated_immediate (operand2 (flags_word c p i n))) ∷ [])
    ∙ rw o))

module _ (form : Form) {c p i n : ℕ} (f : FlagsFields c p i n) where
  abbrev fps : Pieces
  fps = flags_pieces form c p i n

  flags_same : flags_pieces form c p i (op_least i n) ≡ fps
  flags_same =
      by_test (eqb i 1)
      (λ e. rw (e, (immediate_least n f.hn).value))
      (λ e. rw (e, shift_same form (shift_least_lem n)))

  flags_operand_lem : operand_of (spell (flags_operand form i n)) ≡ i * 2 ^ 25 + op_least i n
  flags_operand_lem =
      by_test (eqb i 1)
      (λ e. let y = eqb-true i 1 e in rw (e, number_back (value_pieces (immediate_at n)) n (rw e at (operand_good form i n)) refl, y) (omega arith))
      (λ e. let z = eqb-false i 1 e in let y : i ≡ 0 = omega arith in rw (e, register_back form n f.hn, y) (omega arith))

  module _ (hc : c < 15) where
    flags_good : good fps ≡ true
    unfolding is_word
    flags_good =
        let h = (msr_reads c hc).one_word in
        let o = operand_good form i n in
        by_test (eqb p 1) (λ e. by_test (eqb i 1) (λ g. rw (h, o, e, g)) (λ g. rw (h, o, e, g))) (λ e. by_test (eqb i 1) (λ g. rw (h, o, e, g)) (λ g. rw (h, o, e, g)))

    flags_psr : flag (eqb (get_or (behind (spell fps)) 1 0) 83) ≡ p
    flags_psr =
        let h = first_rest fps flags_good in
        by_test (eqb p 1)
        (λ e. rw (h, e) (sym (eqb-true p 1 e)))
        (λ e. let z = eqb-false p 1 e in rw (h, e) (omega arith))

    flags_alone : has 95 (spell fps) ≡ true
    unfolding has is_word
    flags_alone = let h = has_gaps 95 fps refl flags_good in by_test (eqb p 1) (λ e. rw (h, e)) (λ e. rw (h, e))

    flags_back : (pc : ℕ) → msr_cand form pc 0 c (spell fps) ≡ flags_word c p i (op_least i n)
    unfolding msr_cand
    flags_back pc = rw (flags_psr, flags_alone, (from_nth 2 fps flags_good).0, flags_operand_lem) (omega arith)

pub flags_law : (form : Form) (pc : ℕ) → Words form A.MoveToFlags (Law 6 msr_cand form pc)
unfolding line_of
flags_law form pc = flags_words form (Law 6 msr_cand form pc) (λ c p i n f e t q.
    let s = printed_line form A.MoveToFlags pc (flags_word c p i n) e t q in
    let hc = fifteen (flags_word c p i n) (flags_read f).0 f.hc (s.when refl) in
    let l = flags_least f form (op_least i n) (op_least_lem form i n f.hi f.hn).low in
    pieces_read (flags_pieces form c p i n) (s.text ∙ flags_spelled form f) (flags_good form f hc) (msr_reads c hc)
    (rw (flags_back form f hc pc) (least_found pc t e q l (λ z. (flags_read l.fields).0 ∙ sym (flags_read f).0) refl (flags_spelled form l.fields ∙ ap spell (flags_same form f) ∙ sym (flags_spelled form f)))))
