-- Branches and software interrupts: the candidate of a line is found. Assumes nothing.
use Prim.Native.Nat.{◌*◌, ◌<◌, ◌^◌, ℕ}
use borrow.Author.Tests.{ltb-false, ltb-true}
use lib.Dec.{ltb}
use mathlib.Core.Bool.{not, true, true≢false}
use mathlib.Core.List.{List, [], ◌++◌, ◌∷◌}
use mathlib.Core.Path.{◌∙◌, ◌≡◌, ap, refl, sym}
use native.Mathlib.Omega.{arith}
use Rattle.arm7tdmi.proofs.Names.{reg_back, reg_wordy}
use Rattle.arm.specs.Fields.{branch_target}
use Rattle.arm7tdmi.specs.Names.{cond_names, cond_text, reg_string}
use Rattle.lines.proofs.Address.{address_back, address_wordy}
use Rattle.lines.specs.Address.{address}
use Rattle.lines.specs.Pieces.{cond_at, if_set, reg_at}
use Rattle.arm7tdmi.specs.Signed.{extended, moved}
use Rattle.arm7tdmi.specs.declared.Form.TheVariants.{Bench, Sheet}
use Rattle.arm7tdmi.specs.declared.Form.{Form}
use Rattle.arm_disass.specs.Line.{bx_cond, fmt_branch, fmt_bx, fmt_swi, line_of}
use Rattle.arm_print.specs.Print.{prints_cond}
use Rattle.arm_lowest.proofs.Found.{HasLine, Law, exact, fifteen, least_found, pieces_read, printed_line}
use Rattle.arm_lowest.proofs.Heads.{Mnemonic, branch_reads, branch_stem, bx_reads, swi_reads}
use Rattle.arm_candidate.specs.CandidateSimple.{branch_cand, bx_cand, cond_shown, field_of, swi_cand}
use Rattle.arm_words.proofs.Branch.{BranchFields, BxFields, SwiFields, branch_read, branch_words, branch_word, bx_least, bx_read, bx_words, bx_word, swi_read, swi_words, swi_word}
use Rattle.arm_words.proofs.Scheme.{Words, bench, shown}
use Rattle.common.proofs.Tests.{by_test}
use Rattle.common.specs.Bits.{bit_range}
use Rattle.reading.proofs.Pieces.{Pieces, good, last, piece, regroup, spell, word_nth}
use Rattle.text.proofs.Digits.{prefixed_back}
use Rattle.text.proofs.Word.{prefixed_wordy}
use Rattle.text.specs.Digits.{prefixed}
use Rattle.text.specs.Text.{text}
use Rattle.text.specs.Word.{is_word}
use Rattle.arm.specs.declared.ArmFormat.TheVariants as A

-- ---- b and bl: exact
abbrev target : ℕ → ℕ → ℕ
target pc n = moved (moved pc 8) (extended 24 4 n)

target_lt : (pc n : ℕ) → target pc n < 2 ^ 32
target_lt pc n = omega arith

-- the field of a target
field_back : (pc n : ℕ) → pc < 2 ^ 32 → n < 2 ^ 24 → field_of pc (target pc n) ≡ n
unfolding field_of extended
field_back pc n h g = by_test (ltb n (2 ^ 23)) (λ e. rw e (omega (arith, ltb-true))) (λ e. rw e (omega (arith, ltb-false)))

module _ (form : Form) (pc : ℕ) {c l n : ℕ} (f : BranchFields c l n) where
  abbrev branch_pieces : Pieces
  branch_pieces = piece (branch_stem l ++ cond_text c) (text "\t") (last (address form (target pc n)))

  branch_spelled : fmt_branch form pc (branch_word c l n) ≡ spell branch_pieces
  unfolding fmt_branch branch_target if_set cond_at
  branch_spelled = let r = branch_read f in rw (r.0, r.1, r.2) (regroup (branch_stem l ++ cond_text c) (text "\t" ∷ address form (target pc n) ∷ []))

  module _ (hc : c < 15) where
    branch_mnemonic : Mnemonic 1 (l * 2 ^ 24) c (branch_stem l ++ cond_text c)
    branch_mnemonic = branch_reads l c f.hl hc

    branch_good : good branch_pieces ≡ true
    unfolding is_word
    branch_good = rw (branch_mnemonic.one_word, address_wordy form (target pc n))

    branch_back : pc < 2 ^ 32 → branch_cand form pc (l * 2 ^ 24) c (spell branch_pieces) ≡ branch_word c l n
    unfolding branch_cand
    branch_back h = rw (word_nth 1 branch_pieces branch_good, address_back form (target pc n) (target_lt pc n), field_back pc n h f.hn)

pub branch_law : (form : Form) (pc : ℕ) → pc < 2 ^ 32 → Words form A.BranchLink (Law 1 branch_cand form pc)
unfolding line_of
branch_law form pc h = branch_words form (Law 1 branch_cand form pc) (λ c l n f e t q.
    let p = printed_line form A.BranchLink pc (branch_word c l n) e t q in
    let hc = fifteen (branch_word c l n) (branch_read f).0 f.hc (p.when refl) in
    pieces_read (branch_pieces form pc f) (p.text ∙ branch_spelled form pc f) (branch_good form pc f hc) (branch_mnemonic form pc f hc) (exact (branch_back form pc f hc h)))

-- ---- swi: exact
module _ {c n : ℕ} (f : SwiFields c n) where
  abbrev swi_pieces : Pieces
  swi_pieces = piece (text "swi" ++ cond_text c) (text "\t#") (last (prefixed 1 n))

  swi_spelled : fmt_swi (swi_word c n) ≡ spell swi_pieces
  unfolding fmt_swi cond_at
  swi_spelled = let r = swi_read f in rw (r.0, r.1) (regroup (text "swi" ++ cond_text c) (text "\t#" ∷ prefixed 1 n ∷ []))

  module _ (hc : c < 15) where
    swi_good : good swi_pieces ≡ true
    unfolding is_word
    swi_good = rw ((swi_reads c hc).one_word, prefixed_wordy 1 n (omega arith))

    swi_back : (form : Form) (pc : ℕ) → swi_cand form pc 0 c (spell swi_pieces) ≡ swi_word c n
    unfolding swi_cand
    swi_back form pc = rw (word_nth 1 swi_pieces swi_good, prefixed_back 1 n (omega arith))

pub swi_law : (form : Form) (pc : ℕ) → Words form A.SoftwareInterrupt (Law 10 swi_cand form pc)
unfolding line_of
swi_law form pc = swi_words form (Law 10 swi_cand form pc) (λ c n f e t q.
    let p = printed_line form A.SoftwareInterrupt pc (swi_word c n) e t q in
    let hc = fifteen (swi_word c n) (swi_read f).0 f.hc (p.when refl) in
    pieces_read (swi_pieces f) (p.text ∙ swi_spelled f) (swi_good f hc) (swi_reads c hc) (exact (swi_back f hc form pc)))

-- ---- bx: the bench shows no condition, and so is read as always
abbrev said : Form → ℕ → ℕ
said Bench c = 14
said Sheet c = c

abbrev bx_pieces : Form → ℕ → ℕ → Pieces
bx_pieces form c rn = piece (text "bx" ++ cond_text (said form c)) (text "\t") (last (reg_string rn))

bx_spelled : (form : Form) {c rn : ℕ} → BxFields c rn → fmt_bx form (bx_word c rn) ≡ spell (bx_pieces form c rn)
unfolding fmt_bx bx_cond cond_at reg_at cond_text cond_names
bx_spelled Bench f = let r = bx_read f in rw r.1
bx_spelled Sheet {c} {rn} f = let r = bx_read f in rw (r.0, r.1) (regroup (text "bx" ++ cond_text c) (text "\t" ∷ reg_string rn ∷ []))

bx_same : (form : Form) (c rn : ℕ) → bx_pieces form (shown (not (bench form)) c) rn ≡ bx_pieces form c rn
bx_same Bench c rn = refl
bx_same Sheet c rn = refl

bx_shown : (form : Form) (c : ℕ) → cond_shown form (said form c) ≡ shown (not (bench form)) c
bx_shown Bench c = refl
bx_shown Sheet c = refl

module _ (form : Form) {c rn : ℕ} (f : BxFields c rn) (hc : said form c < 15) where
  abbrev bps : Pieces
  bps = bx_pieces form c rn

  bx_good : good bps ≡ true
  unfolding is_word
  bx_good = rw ((bx_reads (said form c) hc).one_word, reg_wordy rn f.hrn)

  bx_back : (pc : ℕ) → bx_cand form pc 0 (said form c) (spell bps) ≡ bx_word (shown (not (bench form)) c) rn
  unfolding bx_cand
  bx_back pc = rw (word_nth 1 bps bx_good, reg_back rn f.hrn, bx_shown form c)

bx_cond_lem : (form : Form) (pc : ℕ) {c rn : ℕ} (t : List ℕ) → BxFields c rn → HasLine form A.BranchExchange pc (bx_word c rn) t → said form c < 15
bx_cond_lem Bench pc t f p = omega arith
bx_cond_lem Sheet pc {c} {rn} t f p = fifteen (bx_word c rn) (bx_read f).0 f.hc (p.when refl)

bx_kept : (form : Form) {c d rn : ℕ} → BxFields c rn → BxFields d rn → d ≡ shown (not (bench form)) c → prints_cond form A.BranchExchange ≡ true → bit_range (bx_word d rn) 28 32 ≡ bit_range (bx_word c rn) 28 32
bx_kept Bench f g e z = absurd (true≢false (sym z))
bx_kept Sheet f g e z = (bx_read g).0 ∙ e ∙ sym (bx_read f).0

pub bx_law : (form : Form) (pc : ℕ) → Words form A.BranchExchange (Law 2 bx_cand form pc)
unfolding line_of
bx_law form pc = bx_words form (Law 2 bx_cand form pc) (λ c rn f e t q.
    let p = printed_line form A.BranchExchange pc (bx_word c rn) e t q in
    let hc = bx_cond_lem form pc t f p in
    let l = bx_least f form in
    pieces_read (bx_pieces form c rn) (p.text ∙ bx_spelled form f) (bx_good form f hc) (bx_reads (said form c) hc)
    (rw (bx_back form f hc pc) (least_found pc t e q l (bx_kept form f l.fields refl) refl (bx_spelled form l.fields ∙ ap spell (bx_same form c rn) ∙ sym (bx_spelled form f)))))
