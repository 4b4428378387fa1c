-- Branches: BranchConditional, Branch, BranchLongWithLink. Assumes nothing.
use Rattle.thumb_words.proofs.Parts.{word as made, Fits}
use Prim.Native.Nat.{◌%◌, ◌*◌, ◌+◌, ◌-◌, ◌/◌, ◌<◌, ◌^◌, ℕ}
use borrow.Author.Tests.{ltb-false, ltb-true}
use lib.Dec.{T, eqb, ltb}
use mathlib.Core.Bool.{cond, true}
use mathlib.Core.List.{List, [], ◌++◌, ◌∷◌}
use mathlib.Core.Path.{◌∙◌, ◌≡◌, refl}
use native.Mathlib.Omega.{arith}
use Rattle.thumb.specs.Kinds.{thumb_number}
use Rattle.arm7tdmi.specs.Names.{cond_names, cond_text}
use Rattle.lines.proofs.Address.{address_back, address_wordy}
use Rattle.lines.specs.Address.{address}
use Rattle.lines.specs.Pieces.{cond_at}
use Rattle.arm7tdmi.specs.Signed.{extended, moved}
use Rattle.thumb.specs.Fields.{bcond_target, branch_target, call_half}
use Rattle.arm7tdmi.specs.declared.Form.{Form}
use Rattle.arm7tdmi.specs.declared.Form.TheVariants.{Bench, Sheet}
use Rattle.thumb.specs.declared.ThumbFormat.{ThumbFormat}
use Rattle.common.proofs.Tests.{by_test}
use Rattle.common.specs.Lists.{first, same}
use Rattle.reading.proofs.Pieces.{good, last, piece, regroup, spell, word_nth}
use Rattle.text.proofs.Digits.{prefixed_back}
use Rattle.text.proofs.Word.{prefixed_wordy}
use Rattle.text.specs.Digits.{prefixed}
use Rattle.text.specs.Text.{text}
use Rattle.text.specs.Word.{is_word}
use Rattle.thumb_disass.specs.Line.{fmt_thumb_branch, fmt_thumb_branch_long_with_link, fmt_thumb_branch_with_cond, line_of}
use Rattle.thumb_lowest.proofs.Found.{Law, Mnemonic, Words, exact, row_is, rows_are}
use Rattle.thumb_candidate.specs.Candidate.{call_unit, offset_in, operands, suits}
use Rattle.thumb_mnemonic.specs.Rows.{rows}
use Rattle.thumb_words.proofs.Laws.{conditions, parts, thumb_read_lem, thumb_words}
use Rattle.thumb.specs.declared.ThumbFormat.TheVariants as H

-- ---- a target back to the sign-extended field, of eight bits and of eleven
distance_back : (p x : ℕ) → p < 2 ^ 32 → x < 2 ^ 32 → moved (moved p x) (2 ^ 32 - p) ≡ x
distance_back p x h g = omega arith

-- a field is below 2 ^ 32 when extended, and is what its half ends in
eight_back : (x : ℕ) → x < 2 ^ 8 → (extended 8 2 x < 2 ^ 32) × (extended 8 2 x / 2 % 2 ^ 8 ≡ x)
unfolding extended
eight_back x h = by_test (ltb x (2 ^ 7)) (λ e. let l = ltb-true x (2 ^ 7) e in rw e (omega arith)) (λ e. let l = ltb-false x (2 ^ 7) e in rw e (omega arith))

eleven_back : (x : ℕ) → x < 2 ^ 11 → (extended 11 2 x < 2 ^ 32) × (extended 11 2 x / 2 % 2 ^ 11 ≡ x)
unfolding extended
eleven_back x h = by_test (ltb x (2 ^ 10)) (λ e. let l = ltb-true x (2 ^ 10) e in rw e (omega arith)) (λ e. let l = ltb-false x (2 ^ 10) e in rw e (omega arith))

module _ (form : Form) (pc : ℕ) (k : ThumbFormat) (d : T (ltb (thumb_number k) 19)) (xs : List ℕ) (f : Fits (parts form k) xs)
    (m : List ℕ) (b : ℕ) (row : Mnemonic k m b) where
  branch_found : (x y : ℕ) → y < 2 ^ 32 → ((t : List ℕ) → offset_in pc t ≡ y / 2 → operands k b form pc t ≡ x) → b + x ≡ made (parts form k) xs →
      line_of form k pc (made (parts form k) xs) ≡ m ++ text "\t" ++ address form (moved (moved pc 4) y) → ((t : List ℕ) → suits k t ≡ true) → Law form pc k d (made (parts form k) xs)
  unfolding offset_in is_word
  branch_found x y h o s shown u =
      let a = moved (moved pc 4) y in
      let ps = piece m (text "\t") (last (address form a)) in
      let g : good ps ≡ true = rw (row.one_word, address_wordy form a) in
      exact form pc k d xs f ps b row g
      (rw (o (spell ps) (rw (word_nth 1 ps g, address_back form a (omega arith), distance_back (moved pc 4) y (omega arith) h))) s)
      (shown ∙ regroup m (text "\t" ∷ address form a ∷ [])) (u (spell ps))

-- ---- "b{cond}\t{addr:#x}"
conditional_row : (form : Form) (c : ℕ) → c < conditions form → Mnemonic H.BranchConditional (text "b" ++ cond_text c) (0xd000 + c * 2 ^ 8)
unfolding rows cond_text cond_names first same is_word
conditional_row Bench = rows_are H.BranchConditional 15 (λ c. text "b" ++ cond_text c) (λ c. 0xd000 + c * 2 ^ 8) refl
conditional_row Sheet = rows_are H.BranchConditional 14 (λ c. text "b" ++ cond_text c) (λ c. 0xd000 + c * 2 ^ 8) refl

pub branch_conditional_law : (form : Form) (pc : ℕ) → Words form pc H.BranchConditional tt
unfolding line_of fmt_thumb_branch_with_cond bcond_target cond_at operands suits
branch_conditional_law form pc = thumb_words form H.BranchConditional tt (Law form pc H.BranchConditional tt) (λ c offset f e.
    let xs = c ∷ offset ∷ [] in
    let r = thumb_read_lem form H.BranchConditional tt xs f in
    let back = eight_back offset f.1.0 in
    branch_found form pc H.BranchConditional tt xs f (text "b" ++ cond_text c) (0xd000 + c * 2 ^ 8) (conditional_row form c f.0) offset (extended 8 2 offset) back.0
    (λ t e. rw e back.1) (omega arith) (rw (r 0, r 1)) (λ t. refl))

-- ---- "b\t{addr:#x}"
pub branch_law : (form : Form) (pc : ℕ) → Words form pc H.Branch tt
unfolding line_of fmt_thumb_branch branch_target operands suits rows first same is_word
branch_law form pc = thumb_words form H.Branch tt (Law form pc H.Branch tt) (λ offset f e.
    let xs = offset ∷ [] in
    let r = thumb_read_lem form H.Branch tt xs f in
    let back = eleven_back offset f.0 in
    branch_found form pc H.Branch tt xs f (text "b") 0xe000 (row_is H.Branch (text "b") 0xe000 refl) offset (extended 11 2 offset) back.0
    (λ t e. rw e back.1) (omega arith) (rw (r 0)) (λ t. refl))

-- ---- "bl\t#0x{:08x}": a row for each half
half_back : (h offset : ℕ) → h < 2 → offset < 2 ^ 11 →
    (cond (eqb h 1) (offset * 2) (moved 0 (extended 11 4096 offset)) < 2 ^ 32)
    × (cond (eqb h 1) (offset * 2) (moved 0 (extended 11 4096 offset)) / call_unit (0xf000 + h * 2 ^ 11) % 2 ^ 11 ≡ offset)
unfolding extended
half_back h offset l g =
    let t : (0xf000 + h * 2 ^ 11) / 2 ^ 11 % 2 ≡ h = omega arith in
    rw t
    (by_test (eqb h 1) (λ e. rw e (omega arith))
    (λ e. rw e (by_test (ltb offset (2 ^ 10)) (λ d. let z = ltb-true offset (2 ^ 10) d in rw d (omega arith)) (λ d. let z = ltb-false offset (2 ^ 10) d in rw d (omega arith)))))

pub branch_long_with_link_law : (form : Form) (pc : ℕ) → Words form pc H.BranchLongWithLink tt
unfolding line_of fmt_thumb_branch_long_with_link call_half operands suits rows first same is_word
branch_long_with_link_law form pc = thumb_words form H.BranchLongWithLink tt (Law form pc H.BranchLongWithLink tt) (λ h offset f e.
    let xs = h ∷ offset ∷ [] in
    let r = thumb_read_lem form H.BranchLongWithLink tt xs f in
    let row = rows_are H.BranchLongWithLink 2 (λ h. text "bl") (λ h. 0xf000 + h * 2 ^ 11) refl h f.0 in
    let a = cond (eqb h 1) (offset * 2) (moved 0 (extended 11 4096 offset)) in
    let back = half_back h offset f.0 f.1.0 in
    let ps = piece (text "bl") (text "\t#") (last (prefixed 8 a)) in
    let g : good ps ≡ true = prefixed_wordy 8 a (omega arith) in
    exact form pc H.BranchLongWithLink tt xs f ps (0xf000 + h * 2 ^ 11) row g
    (rw (word_nth 1 ps g, prefixed_back 8 a back.0, back.1) (omega arith)) (rw (r 0, r 1)) refl)
