-- Kinds whose lines have a low register and a number: DataProcessImm, LdrPc, LdrStrSp, LoadAddress; and Swi. Assumes nothing.
use Rattle.thumb_words.proofs.Parts.{word as made, Fits}
use Prim.Native.Nat.{◌*◌, ◌+◌, ◌<◌, ◌^◌, ℕ}
use borrow.Author.Tests.{eqb-true}
use lib.Dec.{T, eqb, ltb}
use mathlib.Core.Bool.{true}
use mathlib.Core.List.{List, [], ◌++◌, ◌∷◌}
use mathlib.Core.Path.{◌≡◌, refl}
use native.Mathlib.Omega.{arith}
use Rattle.arm7tdmi.proofs.Names.{reg_back, reg_wordy}
use Rattle.thumb.specs.Kinds.{thumb_number}
use Rattle.arm7tdmi.specs.Names.{reg_named, reg_names, reg_string}
use Rattle.lines.proofs.Address.{address_wordy}
use Rattle.lines.specs.Address.{address}
use Rattle.lines.specs.Pieces.{either, reg_at}
use Rattle.thumb.specs.Fields.{op_format3, pc_load_address, word8}
use Rattle.arm7tdmi.specs.declared.Form.{Form}
use Rattle.thumb.specs.declared.ThumbFormat.{ThumbFormat}
use Rattle.common.proofs.Tests.{at}
use Rattle.common.specs.Lists.{first, same}
use Rattle.reading.proofs.Pieces.{Pieces, first_of, good, last, none, piece, regroup, spell, word_nth}
use Rattle.text.proofs.Word.{gap, prefixed_wordy, wordy}
use Rattle.text.proofs.Digits.{prefixed_back}
use Rattle.text.specs.Digits.{prefixed}
use Rattle.text.specs.Text.{text}
use Rattle.text.specs.Word.{from_word, is_word, word}
use Rattle.thumb_disass.specs.Line.{fmt_thumb_data_process_imm, fmt_thumb_ldr_pc, fmt_thumb_ldr_str_sp, fmt_thumb_load_address, fmt_thumb_swi, op3_text, line_of}
use Rattle.thumb_lowest.proofs.Found.{Law, Mnemonic, Words, exact, pick, row_is, rows_are}
use Rattle.thumb_candidate.specs.Candidate.{operands, wide_in, suits}
use Rattle.thumb_mnemonic.specs.Rows.{rows}
use Rattle.reading.specs.Parts.{flag}
use Rattle.thumb_words.proofs.Laws.{parts, thumb_read_lem, thumb_words}
use Rattle.thumb_words.proofs.Words.{ldr_pc_word}
use Rattle.thumb.specs.declared.ThumbFormat.TheVariants as H

-- ---- "{op}\t{Rd}, #{Offset8:#x}"
pub data_process_imm_law : (form : Form) (pc : ℕ) → Words form pc H.DataProcessImm tt
unfolding line_of fmt_thumb_data_process_imm op3_text op_format3 reg_at operands suits rows reg_named reg_names prefixed first same is_word
data_process_imm_law form pc = thumb_words form H.DataProcessImm tt (Law form pc H.DataProcessImm tt) (λ op rd imm f e.
    let xs = op ∷ rd ∷ imm ∷ [] in
    let r = thumb_read_lem form H.DataProcessImm tt xs f in
    let m = op3_text (op_format3 op) in
    let row = rows_are H.DataProcessImm 4 (λ op. op3_text (op_format3 op)) (λ op. 0x2000 + op * 2 ^ 11) refl op f.0 in
    let ps = piece m (text "\t") (piece (reg_string rd) (text ", #") (last (prefixed 1 imm))) in
    let g : good ps ≡ true = rw (row.one_word, reg_wordy rd (omega arith), prefixed_wordy 1 imm (omega arith)) in
    exact form pc H.DataProcessImm tt xs f ps (0x2000 + op * 2 ^ 11) row g
    (rw (word_nth 1 ps g, word_nth 2 ps g, reg_back rd (omega arith), prefixed_back 1 imm (omega arith)) (omega arith))
    (rw (r 0, r 1, r 2) (regroup m (text "\t" ∷ reg_string rd ∷ text ", #" ∷ prefixed 1 imm ∷ [])))
    (rw (word_nth 2 ps g)))

-- ---- "swi\t{value:#x}"
pub swi_law : (form : Form) (pc : ℕ) → Words form pc H.Swi tt
unfolding line_of fmt_thumb_swi operands suits rows first same is_word
swi_law form pc = thumb_words form H.Swi tt (Law form pc H.Swi tt) (λ imm f e.
    let xs = imm ∷ [] in
    let r = thumb_read_lem form H.Swi tt xs f in
    let row = row_is H.Swi (text "swi") 0xdf00 refl in
    let ps = piece (text "swi") (text "\t") (last (prefixed 1 imm)) in
    let g : good ps ≡ true = prefixed_wordy 1 imm (omega arith) in
    exact form pc H.Swi tt xs f ps 0xdf00 row g (rw (word_nth 1 ps g, prefixed_back 1 imm (omega arith)) (omega arith)) (rw (r 0)) refl)

-- ---- a register in word 1 and four times a number in word 3: name stands in word 2, q from word 3 on
module _ (form : Form) (pc : ℕ) (k : ThumbFormat) (d : T (ltb (thumb_number k) 19)) (xs : List ℕ) (f : Fits (parts form k) xs)
    (m : List ℕ) (b : ℕ) (row : Mnemonic k m b) (rd imm : ℕ) (hd : rd < 8) (hi : imm < 2 ^ 8) (g name h : List ℕ) (gg : gap g ≡ true) (wn : wordy name ≡ true) (gh : gap h ≡ true) where
  wide_found : (q : Pieces) → good q ≡ true → first_of q ≡ prefixed 1 (imm * 4) → (x : ℕ) →
      ((t : List ℕ) → word (from_word 2 t) ≡ name → operands k b form pc t ≡ x + wide_in t) → b + (x + (rd * 2 ^ 8 + imm)) ≡ made (parts form k) xs →
      line_of form k pc (made (parts form k) xs) ≡ m ++ (text "\t" ++ (reg_string rd ++ (g ++ (name ++ (h ++ spell q))))) →
      ((t : List ℕ) → word (from_word 2 t) ≡ name → suits k t ≡ true) → Law form pc k d (made (parts form k) xs)
  unfolding wide_in is_word
  wide_found q gq first x o s shown u =
      let ps = piece m (text "\t") (piece (reg_string rd) g (piece name h q)) in
      let e : good ps ≡ true = rw (row.one_word, reg_wordy rd (omega arith), gg, wn, gh, gq) in
      let back : wide_in (spell ps) ≡ rd * 2 ^ 8 + imm =
      rw (word_nth 1 ps e, word_nth 3 ps e, first, reg_back rd (omega arith), prefixed_back 1 (imm * 4) (omega arith)) (omega arith) in
      exact form pc k d xs f ps b row e (rw (o (spell ps) (word_nth 2 ps e), back) s) shown (u (spell ps) (word_nth 2 ps e))

-- "ldr\t{Rd}, [pc, #{Imm:#x}] ; = #{effective:#x}"
pub ldr_pc_law : (form : Form) (pc : ℕ) → Words form pc H.LdrPc tt
unfolding line_of fmt_thumb_ldr_pc word8 reg_at operands suits rows reg_named reg_names first same is_word
ldr_pc_law form pc = thumb_words form H.LdrPc tt (Law form pc H.LdrPc tt) (λ rd imm f e.
    let xs = rd ∷ imm ∷ [] in
    let r = thumb_read_lem form H.LdrPc tt xs f in
    let row = row_is H.LdrPc (text "ldr") 0x4800 refl in
    let a = pc_load_address pc (ldr_pc_word rd imm) in
    wide_found form pc H.LdrPc tt xs f (text "ldr") 0x4800 row rd imm (omega arith) (omega arith) (text ", [") (text "pc") (text ", #") refl refl refl
    (piece (prefixed 1 (imm * 4)) (text "] ; = #") (last (address form a))) (rw (prefixed_wordy 1 (imm * 4) (omega arith), address_wordy form a)) refl 0 (λ t e. omega arith) (omega arith)
    (rw (r 0, r 1) (regroup (text "ldr\t") (reg_string rd ∷ text ", [pc, #" ∷ prefixed 1 (imm * 4) ∷ text "] ; = #" ∷ address form a ∷ []))) (λ t e. rw e))

-- "{op}\t{Rd}, [sp, #{Imm:#x}]"
pub ldr_str_sp_law : (form : Form) (pc : ℕ) → Words form pc H.LdrStrSp tt
unfolding line_of fmt_thumb_ldr_str_sp word8 either reg_at operands suits rows reg_named reg_names first same is_word
ldr_str_sp_law form pc = thumb_words form H.LdrStrSp tt (Law form pc H.LdrStrSp tt) (λ l rd imm f e.
    let xs = l ∷ rd ∷ imm ∷ [] in
    let r = thumb_read_lem form H.LdrStrSp tt xs f in
    let m = pick l (text "ldr") (text "str") in
    let row = rows_are H.LdrStrSp 2 (λ l. pick l (text "ldr") (text "str")) (λ l. 0x9000 + l * 2 ^ 11) refl l f.0 in
    wide_found form pc H.LdrStrSp tt xs f m (0x9000 + l * 2 ^ 11) row rd imm (omega arith) (omega arith) (text ", [") (text "sp") (text ", #") refl refl refl
    (piece (prefixed 1 (imm * 4)) (text "]") none) (rw (prefixed_wordy 1 (imm * 4) (omega arith))) refl 0 (λ t e. omega arith) (omega arith)
    (rw (r 0, r 1, r 2) (regroup m (text "\t" ∷ reg_string rd ∷ text ", [sp, #" ∷ prefixed 1 (imm * 4) ∷ text "]" ∷ []))) (λ t e. rw e))

-- "add\t{Rd}, {r}, #{Imm:#x}"
sp_or_pc : ℕ → List ℕ
sp_or_pc sp = pick sp (text "sp") (text "pc")

sp_back : (sp : ℕ) → sp < 2 → (wordy (sp_or_pc sp) ≡ true) × (flag (eqb (reg_named (sp_or_pc sp)) 13) ≡ sp) × (ltb 12 (reg_named (sp_or_pc sp)) ≡ true)
unfolding sp_or_pc reg_named reg_names first same is_word
sp_back sp h = (at (λ sp. wordy (sp_or_pc sp)) 2 refl sp h, eqb-true _ _ (at (λ sp. eqb (flag (eqb (reg_named (sp_or_pc sp)) 13)) sp) 2 refl sp h), at (λ sp. ltb 12 (reg_named (sp_or_pc sp))) 2 refl sp h)

pub load_address_law : (form : Form) (pc : ℕ) → Words form pc H.LoadAddress tt
unfolding line_of fmt_thumb_load_address sp_or_pc word8 either reg_at operands suits rows first same is_word
load_address_law form pc = thumb_words form H.LoadAddress tt (Law form pc H.LoadAddress tt) (λ sp rd imm f e.
    let xs = sp ∷ rd ∷ imm ∷ [] in
    let r = thumb_read_lem form H.LoadAddress tt xs f in
    let row = row_is H.LoadAddress (text "add") 0xa000 refl in
    let b = sp_back sp f.0 in
    wide_found form pc H.LoadAddress tt xs f (text "add") 0xa000 row rd imm (omega arith) (omega arith) (text ", ") (sp_or_pc sp) (text ", #") refl b.0 refl
    (last (prefixed 1 (imm * 4))) (prefixed_wordy 1 (imm * 4) (omega arith)) refl (sp * 2 ^ 11) (λ t e. rw (e, b.1)) (omega arith)
    (rw (r 0, r 1, r 2) (regroup (text "add\t") (reg_string rd ∷ text ", " ∷ sp_or_pc sp ∷ text ", #" ∷ prefixed 1 (imm * 4) ∷ []))) (λ t e. rw e b.2))
