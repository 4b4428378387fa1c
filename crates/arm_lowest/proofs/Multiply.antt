-- Multiply, long multiply and swap: the candidate of a line is found. Assumes nothing.
use Prim.Native.Nat.{◌*◌, ◌<◌, ◌^◌, ℕ}
use lib.Dec.{eqb}
use mathlib.Core.Bool.{cond, true}
use mathlib.Core.List.{[], ◌++◌, ◌∷◌, append-nil}
use mathlib.Core.Path.{◌∙◌, ◌≡◌, ap, refl, sym}
use native.Mathlib.Omega.{arith}
use Rattle.arm7tdmi.proofs.Names.{reg_back, reg_wordy}
use Rattle.arm7tdmi.specs.Names.{cond_text, reg_string}
use Rattle.lines.specs.Pieces.{cond_at, either, if_set, reg_at}
use Rattle.arm7tdmi.specs.declared.Form.{Form}
use Rattle.arm_operand.specs.Operand.{added_register}
use Rattle.arm_disass.specs.Line.{fmt_mul_mla, fmt_mull_mlal, fmt_swp, line_of}
use Rattle.arm_lowest.proofs.Found.{Law, exact, fifteen, least_found, pieces_read, printed_line}
use Rattle.arm_lowest.proofs.Heads.{Mnemonic, mul_reads, mul_bits, mul_stem, mull_reads, mull_bits, mull_stem, pick, swp_reads, swp_stem}
use Rattle.arm_candidate.specs.CandidateSimple.{mul_cand, mull_cand, swp_cand}
use Rattle.arm_words.proofs.Multiply.{MulFields, MullFields, SwpFields, mul_least, mul_read, mul_words, mul_word, mull_read, mull_words, mull_word, swp_read, swp_words, swp_word}
use Rattle.arm_words.proofs.Scheme.{Words, shown}
use Rattle.common.proofs.Tests.{by_test}
use Rattle.common.specs.Bits.{bit, bit_range}
use Rattle.reading.proofs.Pieces.{Pieces, good, last, none, piece, regroup, spell, word_nth}
use Rattle.text.specs.Text.{text}
use Rattle.text.specs.Word.{is_word}
use Rattle.arm.specs.declared.ArmFormat.TheVariants as A

-- ---- mull and mlal: exact
module _ {c u a s hi lo rs rm : ℕ} (f : MullFields c u a s hi lo rs rm) where
  abbrev mull_pieces : Pieces
  mull_pieces = piece (mull_stem u a s ++ cond_text c) (text "\t") (piece (reg_string lo) (text ", ") (piece (reg_string hi) (text ", ") (piece (reg_string rm) (text ", ") (last (reg_string rs)))))

  mull_spelled : fmt_mull_mlal (mull_word c u a s hi lo rs rm) ≡ spell mull_pieces
  unfolding fmt_mull_mlal either if_set cond_at reg_at
  mull_spelled =
      let r = mull_read f in
      rw (r.0, r.1, r.2, r.3, r.4, r.5, r.6, r.7)
      (regroup (mull_stem u a s ++ cond_text c) (text "\t" ∷ reg_string lo ∷ text ", " ∷ reg_string hi ∷ text ", " ∷ reg_string rm ∷ text ", " ∷ reg_string rs ∷ []))

  module _ (hc : c < 15) where
    mull_mnemonic : Mnemonic 8 (mull_bits u a s) c (mull_stem u a s ++ cond_text c)
    mull_mnemonic = mull_reads u a s c f.hu f.ha f.hs hc

    mull_good : good mull_pieces ≡ true
    unfolding is_word
    mull_good = rw (mull_mnemonic.one_word, reg_wordy lo f.hlo, reg_wordy hi f.hhi, reg_wordy rm f.hrm, reg_wordy rs f.hrs)

    mull_back : (form : Form) (pc : ℕ) → mull_cand form pc (mull_bits u a s) c (spell mull_pieces) ≡ mull_word c u a s hi lo rs rm
    unfolding mull_cand
    mull_back form pc =
        rw (word_nth 1 mull_pieces mull_good, word_nth 2 mull_pieces mull_good, word_nth 3 mull_pieces mull_good, word_nth 4 mull_pieces mull_good, reg_back lo f.hlo, reg_back hi f.hhi, reg_back rm f.hrm, reg_back rs f.hrs)
        (omega arith)

pub mull_law : (form : Form) (pc : ℕ) → Words form A.MultiplyLong (Law 8 mull_cand form pc)
unfolding line_of
mull_law form pc = mull_words form (Law 8 mull_cand form pc) (λ c u a s hi lo rs rm f e t q.
    let p = printed_line form A.MultiplyLong pc (mull_word c u a s hi lo rs rm) e t q in
    let hc = fifteen (mull_word c u a s hi lo rs rm) (mull_read f).0 f.hc (p.when refl) in
    pieces_read (mull_pieces f) (p.text ∙ mull_spelled f) (mull_good f hc) (mull_mnemonic f hc) (exact (mull_back f hc form pc)))

-- ---- swp: exact
module _ {c b rn rd rm : ℕ} (f : SwpFields c b rn rd rm) where
  abbrev swp_pieces : Pieces
  swp_pieces = piece (swp_stem b ++ cond_text c) (text "\t") (piece (reg_string rd) (text ", ") (piece (reg_string rm) (text ", [") (piece (reg_string rn) (text "]") none)))

  swp_spelled : fmt_swp (swp_word c b rn rd rm) ≡ spell swp_pieces
  unfolding fmt_swp if_set cond_at reg_at
  swp_spelled =
      let r = swp_read f in
      rw (r.0, r.1, r.2, r.3, r.4)
      (regroup (swp_stem b ++ cond_text c) (text "\t" ∷ reg_string rd ∷ text ", " ∷ reg_string rm ∷ text ", [" ∷ reg_string rn ∷ text "]" ∷ []))

  module _ (hc : c < 15) where
    swp_mnemonic : Mnemonic 11 (b * 2 ^ 22) c (swp_stem b ++ cond_text c)
    swp_mnemonic = swp_reads b c f.hb hc

    swp_good : good swp_pieces ≡ true
    unfolding is_word
    swp_good = rw (swp_mnemonic.one_word, reg_wordy rd f.hrd, reg_wordy rm f.hrm, reg_wordy rn f.hrn)

    swp_back : (form : Form) (pc : ℕ) → swp_cand form pc (b * 2 ^ 22) c (spell swp_pieces) ≡ swp_word c b rn rd rm
    unfolding swp_cand
    swp_back form pc = rw (word_nth 1 swp_pieces swp_good, word_nth 2 swp_pieces swp_good, word_nth 3 swp_pieces swp_good, reg_back rd f.hrd, reg_back rm f.hrm, reg_back rn f.hrn)

pub swp_law : (form : Form) (pc : ℕ) → Words form A.SingleDataSwap (Law 11 swp_cand form pc)
unfolding line_of
swp_law form pc = swp_words form (Law 11 swp_cand form pc) (λ c b rn rd rm f e t q.
    let p = printed_line form A.SingleDataSwap pc (swp_word c b rn rd rm) e t q in
    let hc = fifteen (swp_word c b rn rd rm) (swp_read f).0 f.hc (p.when refl) in
    pieces_read (swp_pieces f) (p.text ∙ swp_spelled f) (swp_good f hc) (swp_mnemonic f hc) (exact (swp_back f hc form pc)))

-- ---- mul and mla: Rn is shown of mla alone
abbrev mul_pieces : ℕ → ℕ → ℕ → ℕ → ℕ → ℕ → ℕ → Pieces
mul_pieces c a s rd rn rs rm =
    piece (mul_stem a s ++ cond_text c) (text "\t") (piece (reg_string rd) (text ", ") (piece (reg_string rm) (text ", ")
    (cond (eqb a 1) (piece (reg_string rs) (text ", ") (last (reg_string rn))) (last (reg_string rs)))))

mul_spelled : {c a s rd rn rs rm : ℕ} → MulFields c a s rd rn rs rm → fmt_mul_mla (mul_word c a s rd rn rs rm) ≡ spell (mul_pieces c a s rd rn rs rm)
unfolding fmt_mul_mla added_register either if_set cond_at reg_at
mul_spelled {c} {a} {s} {rd} {rn} {rs} {rm} f =
    let r = mul_read f in
    by_test (eqb a 1)
    (λ e. rw (r.0, r.1, r.2, r.3, r.4, r.5, r.6, e)
    (regroup (text "mla" ++ pick s (text "s") [] ++ cond_text c) (text "\t" ∷ reg_string rd ∷ text ", " ∷ reg_string rm ∷ text ", " ∷ reg_string rs ∷ (text ", " ++ reg_string rn) ∷ [])))
    (λ e. rw (r.0, r.1, r.2, r.3, r.4, r.5, r.6, e, append-nil)
    (regroup (text "mul" ++ pick s (text "s") [] ++ cond_text c) (text "\t" ∷ reg_string rd ∷ text ", " ∷ reg_string rm ∷ text ", " ∷ reg_string rs ∷ [])))

module _ {c a s rd rn rs rm : ℕ} (f : MulFields c a s rd rn rs rm) where
  abbrev mps : Pieces
  mps = mul_pieces c a s rd rn rs rm

  abbrev low : ℕ
  low = mul_word c a s rd (shown (eqb a 1) rn) rs rm

  mul_same : mul_pieces c a s rd (shown (eqb a 1) rn) rs rm ≡ mps
  mul_same = by_test (eqb a 1) (λ e. rw e) (λ e. rw e)

  module _ (hc : c < 15) where
    mul_mnemonic : Mnemonic 7 (mul_bits a s) c (mul_stem a s ++ cond_text c)
    mul_mnemonic = mul_reads a s c f.ha f.hs hc

    mul_good : good mps ≡ true
    unfolding is_word
    mul_good =
        let h = mul_mnemonic.one_word in
        by_test (eqb a 1) (λ e. rw (h, e, reg_wordy rd f.hrd, reg_wordy rm f.hrm, reg_wordy rs f.hrs, reg_wordy rn f.hrn)) (λ e. rw (h, e, reg_wordy rd f.hrd, reg_wordy rm f.hrm, reg_wordy rs f.hrs))

    mul_back : (form : Form) (pc : ℕ) → mul_cand form pc (mul_bits a s) c (spell mps) ≡ low
    unfolding mul_cand
    mul_back form pc =
        let b : bit_range (mul_bits a s) 21 22 ≡ a = omega arith in
        let b1 : bit (mul_bits a s) 21 ≡ eqb a 1 = ap (λ (x : ℕ). eqb x 1) b in
        by_test (eqb a 1)
        (λ e. rw (b1, word_nth 1 mps mul_good, word_nth 2 mps mul_good, word_nth 3 mps mul_good, word_nth 4 mps mul_good, e, reg_back rd f.hrd, reg_back rm f.hrm, reg_back rs f.hrs, reg_back rn f.hrn) (omega arith))
        (λ e. rw (b1, word_nth 1 mps mul_good, word_nth 2 mps mul_good, word_nth 3 mps mul_good, e, reg_back rd f.hrd, reg_back rm f.hrm, reg_back rs f.hrs) (omega arith))

pub mul_law : (form : Form) (pc : ℕ) → Words form A.Multiply (Law 7 mul_cand form pc)
unfolding line_of
mul_law form pc = mul_words form (Law 7 mul_cand form pc) (λ c a s rd rn rs rm f e t q.
    let p = printed_line form A.Multiply pc (mul_word c a s rd rn rs rm) e t q in
    let hc = fifteen (mul_word c a s rd rn rs rm) (mul_read f).0 f.hc (p.when refl) in
    let l = mul_least f form in
    pieces_read (mul_pieces c a s rd rn rs rm) (p.text ∙ mul_spelled f) (mul_good f hc) (mul_mnemonic f hc)
    (rw (mul_back f hc form pc) (least_found pc t e q l (λ z. (mul_read l.fields).0 ∙ sym (mul_read f).0) refl (mul_spelled l.fields ∙ ap spell (mul_same f) ∙ sym (mul_spelled f)))))
