-- Block transfers, ldm and stm: the line of an assembled word as pieces, and the law. All is shown, so the candidate is the word. Assumes nothing.
use Prim.Native.Nat.{ℕ}
use lib.Dec.{eqb}
use mathlib.Core.Bool.{true}
use mathlib.Core.List.{List, [], ◌++◌, append_assoc}
use mathlib.Core.Path.{◌∙◌, ◌≡◌, refl}
use native.Mathlib.Omega.{arith}
use Rattle.arm7tdmi.proofs.Names.{reg_back, reg_wordy}
use Rattle.arm7tdmi.specs.Names.{cond_text, reg_string}
use Rattle.lines.specs.Pieces.{cond_at, either, if_set, reg_at, registers, set_bits}
use Rattle.arm7tdmi.specs.declared.Form.{Form}
use Rattle.arm_disass.specs.Line.{fmt_ldm_stm, line_of}
use Rattle.arm_lowest.proofs.Found.{Law, exact, fifteen, pieces_read, printed_line}
use Rattle.arm_lowest.proofs.Heads.{Mnemonic, ldm_reads, ldm_bits, ldm_stem, pick}
use Rattle.reading.proofs.RegisterList.{behind_word, bits_below, bits_few, bits_sum, list_back, list_first, list_good, list_has, list_spelled}
use Rattle.arm_candidate.specs.CandidateTransfer.{ldm_cand}
use Rattle.reading.specs.Parts.{list_in}
use Rattle.arm_words.proofs.Scheme.{Words}
use Rattle.arm_words.proofs.Transfer.{LdmFields, ldm_read, ldm_words, ldm_word}
use Rattle.common.proofs.Tests.{by_test}
use Rattle.common.specs.Bits.{bit_range}
use Rattle.reading.proofs.Pieces.{Pieces, flag_back, from_nth, good, has_gaps, piece, spell, word_nth}
use Rattle.text.proofs.Word.{gap}
use Rattle.text.specs.Text.{text}
use Rattle.text.specs.Word.{from_word, has, is_word, word}
use Rattle.arm.specs.declared.ArmFormat.TheVariants as A

-- ---- the line of an assembled word, as pieces
module _ {c p u s w l rn n : ℕ} (f : LdmFields c p u s w l rn n) (m : Mnemonic 4 (ldm_bits p u l) c (ldm_stem p u l ++ cond_text c)) where
  abbrev raw : ℕ
  raw = ldm_word c p u s w l rn n

  abbrev opens : List ℕ
  opens = pick w (text "!") [] ++ text ", {"

  abbrev closes : List ℕ
  closes = text "}" ++ pick s (text "^") []

  abbrev ps : Pieces
  ps = piece (ldm_stem p u l ++ cond_text c) (text "\t") (behind_word (reg_string rn) opens (set_bits raw 16) closes)

  ldm_spelled : fmt_ldm_stm raw ≡ spell ps
  unfolding fmt_ldm_stm either if_set reg_at cond_at registers
  ldm_spelled =
      let r = ldm_read f in
      rw (r.0, r.1, r.2, r.3, r.4, r.5, r.6, list_spelled) (simp append_assoc)

  opens_gap : gap opens ≡ true
  unfolding is_word
  opens_gap = by_test (eqb w 1) (λ e. rw e) (λ e. rw e)

  closes_gap : gap closes ≡ true
  unfolding is_word
  closes_gap = by_test (eqb s 1) (λ e. rw e) (λ e. rw e)

  ps_good : good ps ≡ true
  unfolding is_word
  ps_good = rw (m.one_word, list_good closes closes_gap (reg_string rn) opens (set_bits raw 16) (reg_wordy rn f.hrn) opens_gap (bits_below raw 16 (omega arith)))

  -- ---- its marks
  bang : has 33 (spell ps) ≡ eqb w 1
  unfolding has is_word
  bang =
      has_gaps 33 ps refl ps_good ∙ list_has closes closes_gap 33 (reg_string rn) opens (set_bits raw 16) refl
      ∙ by_test (eqb w 1) (λ e. rw e) (λ e. by_test (eqb s 1) (λ g. rw (e, g)) (λ g. rw (e, g)))

  hat : has 94 (spell ps) ≡ eqb s 1
  unfolding has is_word
  hat =
      has_gaps 94 ps refl ps_good ∙ list_has closes closes_gap 94 (reg_string rn) opens (set_bits raw 16) refl
      ∙ by_test (eqb w 1) (λ e. by_test (eqb s 1) (λ g. rw (e, g)) (λ g. rw (e, g))) (λ e. by_test (eqb s 1) (λ g. rw (e, g)) (λ g. rw (e, g)))

  base : word (from_word 1 (spell ps)) ≡ reg_string rn
  base = word_nth 1 ps ps_good ∙ list_first (reg_string rn) opens (set_bits raw 16) closes

  names : list_in 16 (from_word 2 (spell ps)) ≡ n
  names =
      let b = bits_sum raw 16 in
      let r : bit_range raw 0 16 ≡ n = (ldm_read f).7 in
      rw (from_nth 2 ps ps_good).0
      (list_back closes closes_gap 16 (reg_string rn) opens (set_bits raw 16) (bits_few raw 16) (bits_below raw 16 (omega arith)) ∙ b ∙ omega arith)

  ldm_back : (form : Form) (pc : ℕ) → ldm_cand form pc (ldm_bits p u l) c (spell ps) ≡ raw
  unfolding ldm_cand
  ldm_back form pc = rw (hat, bang, base, names, flag_back s f.hs, flag_back w f.hw, reg_back rn f.hrn) (omega arith)

-- THE LAW
pub ldm_law : (form : Form) (pc : ℕ) → Words form A.BlockDataTransfer (Law 4 ldm_cand form pc)
unfolding line_of
ldm_law form pc = ldm_words form (Law 4 ldm_cand form pc) (λ c p u s w l rn n f k t e.
    let q = printed_line form A.BlockDataTransfer pc (ldm_word c p u s w l rn n) k t e in
    let m = ldm_reads p u l c f.hp f.hu f.hl (fifteen (ldm_word c p u s w l rn n) (ldm_read f).0 f.hc (q.when refl)) in
    pieces_read (ps f m) (q.text ∙ ldm_spelled f m) (ps_good f m) m (exact (ldm_back f m form pc)))
