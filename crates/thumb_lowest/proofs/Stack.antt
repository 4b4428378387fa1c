-- AddSp, PushPop and LdmStm. Assumes nothing.
use Prim.Native.Nat.{◌%◌, ◌*◌, ◌+◌, ◌-◌, ◌/◌, ◌<◌, ◌^◌, ◌≤◌, ℕ}
use borrow.Author.Tests.{eqb-false, eqb-true, le-ltb, lt-ltb}
use lib.Dec.{eqb, ltb}
use lib.ListN.{length, length-append}
use mathlib.Core.Bool.{cond, false, true}
use mathlib.Core.List.{List, [], ◌++◌, ◌∷◌, map}
use mathlib.Core.Path.{◌∙◌, ◌≡◌, ap, refl}
use native.Mathlib.Omega.{arith}
use Rattle.arm7tdmi.proofs.Names.{reg_back, reg_wordy}
use Rattle.arm7tdmi.specs.Names.{reg_names, reg_string}
use Rattle.lines.specs.Pieces.{either, if_set, joined, reg_at, registers, set_bits}
use Rattle.arm7tdmi.specs.declared.Form.{Form}
use Rattle.arm7tdmi.specs.declared.Form.TheVariants.{Bench, Sheet}
use Rattle.common.proofs.Lists.{agreed}
use Rattle.common.proofs.Tests.{by_test}
use Rattle.common.specs.Lists.{first, same}
use Rattle.reading.proofs.Pieces.{Pieces, flag_back, from_nth, good, has_gaps, last, piece, regroup, spell, word_nth}
use Rattle.text.proofs.Digits.{hex_back, prefixed_back}
use Rattle.text.proofs.Word.{hex_wordy, prefixed_wordy}
use Rattle.text.specs.Digits.{hex, prefixed}
use Rattle.text.specs.Text.{text}
use Rattle.text.specs.Word.{from_word, has, is_word}
use Rattle.thumb_operand.specs.Operand.{base_text, link_name, push_pop_list, sheet_sp_offset, sp_bits, sp_offset, sp_size}
use Rattle.thumb_disass.specs.Line.{fmt_thumb_add_sp, fmt_thumb_ldm_stm, fmt_thumb_push_pop, line_of}
use Rattle.thumb_lowest.proofs.Found.{Law, Words, exact, found, pick, row_is, rows_are}
use Rattle.reading.proofs.RegisterList.{behind_word, below_append, below16, bits_below, bits_few, bits_sum, list_back, list_first, list_good, list_spelled, same_bits, sum_append, sum_of}
use Rattle.thumb_candidate.specs.Candidate.{block_in, operands, signed, sp_in, stack_in, suits}
use Rattle.thumb_mnemonic.specs.Rows.{rows}
use Rattle.reading.specs.Parts.{flag, list_in, reg_in}
use Rattle.thumb_words.proofs.Laws.{NoHigher, parts, thumb_lower, thumb_read_lem, thumb_words}
use Rattle.thumb_words.proofs.Parts.{Fits}
use Rattle.thumb_words.proofs.Words.{add_sp_word, bench_base, ldm_stm_least, ldm_stm_word, push_pop_word}
use Rattle.thumb.specs.declared.ThumbFormat.TheVariants as H

-- ---- add of sp
-- sheet: "add\tsp, #0x..", "add\tsp, #-0x.."
sheet_sp : (pc s imm : ℕ) → Fits (parts Sheet H.AddSp) (s ∷ imm ∷ []) → Law Sheet pc H.AddSp tt (add_sp_word s imm)
unfolding line_of fmt_thumb_add_sp sp_offset sheet_sp_offset sp_size if_set operands suits sp_in rows first same has is_word
sheet_sp pc s imm f =
    let xs = s ∷ imm ∷ [] in
    let r = thumb_read_lem Sheet H.AddSp tt xs f in
    let ps = piece (text "add") (text "\t") (piece (text "sp") (pick s (text ", #-") (text ", #")) (last (prefixed 1 (imm * 4)))) in
    let g : good ps ≡ true = rw (prefixed_wordy 1 (imm * 4) (omega arith)) (by_test (eqb s 1) (λ e. rw e) (λ e. rw e)) in
    let minus : has 45 (spell ps) ≡ eqb s 1 = rw (has_gaps 45 ps refl g) (by_test (eqb s 1) (λ e. rw e) (λ e. rw e)) in
    exact Sheet pc H.AddSp tt xs f ps 0xb000 (row_is H.AddSp (text "add") 0xb000 refl) g
    (rw (minus, flag_back s f.0, word_nth 2 ps g, prefixed_back 1 (imm * 4) (omega arith)) (omega arith))
    (rw (r 0, r 1) (by_test (eqb s 1) (λ e. rw e) (λ e. rw e))) refl

-- bench: "add\tsp, #{imm:x}", which shows no sign of zero
abbrev sp_shown : ℕ → ℕ → ℕ
sp_shown s imm = cond (eqb s 1) ((2 ^ 32 - imm * 4) % 2 ^ 32) (imm * 4)

abbrev sign_shown : ℕ → ℕ → ℕ
sign_shown s imm = cond (eqb imm 0) 0 s

module _ (s imm : ℕ) (hs : s < 2) (hi : imm < 2 ^ 7) where
  sign_least : sign_shown s imm ≤ s
  sign_least = by_test (eqb imm 0) (λ e. rw e (omega arith)) (λ e. rw e (omega arith))

  sign_same : sp_shown (sign_shown s imm) imm ≡ sp_shown s imm
  sign_same =
      by_test (eqb imm 0)
      (λ e. let z = eqb-true imm 0 e in rw (e, z) (by_test (eqb s 1) (λ d. rw d) (λ d. rw d)))
      (λ e. rw e)

  shown_small : sp_shown s imm < 2 ^ 32
  shown_small = by_test (eqb s 1) (λ e. rw e (omega arith)) (λ e. rw e (omega arith))

  shown_back : cond (ltb (sp_shown s imm) (2 ^ 31)) (signed false (sp_shown s imm)) (signed true (2 ^ 32 - sp_shown s imm)) ≡ sign_shown s imm * 2 ^ 7 + imm
  shown_back =
      by_test (eqb imm 0)
      (λ e. let z = eqb-true imm 0 e in rw (e, z) (by_test (eqb s 1) (λ d. rw d) (λ d. rw d)))
      (λ e. let z = eqb-false imm 0 e in
      by_test (eqb s 1)
      (λ d. let l : ltb ((2 ^ 32 - imm * 4) % 2 ^ 32) (2 ^ 31) ≡ false = le-ltb ((2 ^ 32 - imm * 4) % 2 ^ 32) (2 ^ 31) (omega arith) in rw (e, d, l, eqb-true s 1 d) (omega arith))
      (λ d. let y = eqb-false s 1 d in let o : s ≡ 0 = omega arith in let l : ltb (imm * 4) (2 ^ 31) ≡ true = lt-ltb (imm * 4) (2 ^ 31) (omega arith) in rw (e, d, l, o) (omega arith)))

bench_sp_line : (pc s imm : ℕ) → Fits (parts Bench H.AddSp) (s ∷ imm ∷ []) → line_of Bench H.AddSp pc (add_sp_word s imm) ≡ text "add\tsp, #" ++ hex 1 (sp_shown s imm)
unfolding line_of fmt_thumb_add_sp sp_offset sp_bits sp_size
bench_sp_line pc s imm f = let r = thumb_read_lem Bench H.AddSp tt (s ∷ imm ∷ []) f in rw (r 0, r 1)

bench_sp : (pc s imm : ℕ) → Fits (parts Bench H.AddSp) (s ∷ imm ∷ []) → Law Bench pc H.AddSp tt (add_sp_word s imm)
unfolding operands suits sp_in rows first same is_word
bench_sp pc s imm f =
    let v = sp_shown s imm in
    let l = sign_least s imm f.0 f.1.0 in
    let n = thumb_lower Bench H.AddSp tt (sign_shown s imm ∷ imm ∷ []) (s ∷ imm ∷ []) (omega arith) f in
    let ps = piece (text "add") (text "\t") (piece (text "sp") (text ", #") (last (hex 1 v))) in
    let g : good ps ≡ true = hex_wordy 1 v (omega arith) in
    found Bench pc H.AddSp tt (sign_shown s imm ∷ imm ∷ []) (s ∷ imm ∷ []) f n ps 0xb000 (row_is H.AddSp (text "add") 0xb000 refl) g
    (rw (word_nth 2 ps g, hex_back 1 v (shown_small s imm f.0 f.1.0), shown_back s imm f.0 f.1.0) (omega arith))
    (bench_sp_line pc s imm f) (bench_sp_line pc (sign_shown s imm) imm n.fits ∙ rw (sign_same s imm f.0 f.1.0)) refl

sp_found : (form : Form) (pc s imm : ℕ) → Fits (parts form H.AddSp) (s ∷ imm ∷ []) → Law form pc H.AddSp tt (add_sp_word s imm)
sp_found Bench = bench_sp
sp_found Sheet = sheet_sp

pub add_sp_law : (form : Form) (pc : ℕ) → Words form pc H.AddSp tt
add_sp_law form pc = thumb_words form H.AddSp tt (Law form pc H.AddSp tt) (λ s imm f e. sp_found form pc s imm f)

-- ---- push and pop: "{op}\t{", the registers, lr or pc, "}"
-- lr or pc as one more number
link_is : (l : ℕ) → l < 2 → pick l (text "pc") (text "lr") ≡ reg_string (14 + l)
unfolding reg_string reg_names same
link_is l h = agreed (λ l. pick l (text "pc") (text "lr")) (λ l. reg_string (14 + l)) 2 refl l h

module _ (l r list : ℕ) (hl : l < 2) (hr : r < 2) (hi : list < 2 ^ 8) where
  abbrev more : List ℕ
  more = cond (eqb r 1) ((14 + l) ∷ []) []

  more_below : (below16 more ≡ true) × (length more ≤ 1)
  more_below = by_test (eqb r 1) (λ e. rw (e, lt-ltb (14 + l) 16 (omega arith)) (refl, omega arith)) (λ e. rw e (refl, omega arith))

  more_back : (list + sum_of more) % 2 ^ 8 + flag (ltb (2 ^ 8) (list + sum_of more)) * 2 ^ 8 ≡ r * 2 ^ 8 + list
  more_back =
      by_test (eqb r 1)
      (λ e. by_test (eqb l 1)
      (λ d. let t : ltb (2 ^ 8) (list + (2 ^ 15 + 0)) ≡ true = lt-ltb (2 ^ 8) (list + (2 ^ 15 + 0)) (omega arith) in rw (e, eqb-true r 1 e, eqb-true l 1 d, t) (omega arith))
      (λ d. let z = eqb-false l 1 d in let o : l ≡ 0 = omega arith in
      let t : ltb (2 ^ 8) (list + (2 ^ 14 + 0)) ≡ true = lt-ltb (2 ^ 8) (list + (2 ^ 14 + 0)) (omega arith) in rw (e, eqb-true r 1 e, o, t) (omega arith)))
      (λ e. let z = eqb-false r 1 e in let o : r ≡ 0 = omega arith in
      let t : ltb (2 ^ 8) (list + 0) ≡ false = le-ltb (2 ^ 8) (list + 0) (omega arith) in rw (e, o, t) (omega arith))

map_more : (a b : List ℕ) → map reg_string (a ++ b) ≡ map reg_string a ++ map reg_string b
map_more [] b = refl
map_more (x ∷ xs) b = rw (map_more xs b)

pub push_pop_law : (form : Form) (pc : ℕ) → Words form pc H.PushPop tt
unfolding line_of fmt_thumb_push_pop push_pop_list link_name either operands suits stack_in rows first same is_word
push_pop_law form pc = thumb_words form H.PushPop tt (Law form pc H.PushPop tt) (λ l r list f e.
    let xs = l ∷ r ∷ list ∷ [] in
    let q = thumb_read_lem form H.PushPop tt xs f in
    let raw = push_pop_word l r list in
    let m = pick l (text "pop") (text "push") in
    let row = rows_are H.PushPop 2 (λ l. pick l (text "pop") (text "push")) (λ l. 0xb400 + l * 2 ^ 11) refl l f.0 in
    let u = more l r list f.0 f.1.0 f.1.1.0 in
    let c = more_below l r list f.0 f.1.0 f.1.1.0 in
    let ns = set_bits raw 8 ++ u in
    let b : below16 ns ≡ true = below_append (set_bits raw 8) u (bits_below raw 8 (omega arith)) c.0 in
    let few : length ns ≤ 9 = let d = bits_few raw 8 in simp length-append (omega arith) in
    let sum : sum_of ns ≡ list + sum_of u = rw (sum_append (set_bits raw 8) u, bits_sum raw 8) (omega arith) in
    let ps = behind_word m (text "\t{") ns (text "}") in
    let g : good ps ≡ true = list_good (text "}") refl m (text "\t{") ns row.one_word refl b in
    let back : list_in 9 (from_word 1 (spell ps)) ≡ list + sum_of u = rw (from_nth 1 ps g).0 (list_back (text "}") refl 9 m (text "\t{") ns few b ∙ sum) in
    exact form pc H.PushPop tt xs f ps (0xb400 + l * 2 ^ 11) (rw (list_first m (text "\t{") ns (text "}")) row) g
    (rw (back, more_back l r list f.0 f.1.0 f.1.1.0) (omega arith))
    (rw (q 0, q 1, link_is l f.0, list_spelled m (text "\t{") ns (text "}"), map_more (set_bits raw 8) u)
    (by_test (eqb r 1)
    (λ e. rw e (regroup m (text "\t{" ∷ joined (map reg_string (set_bits raw 8) ++ (reg_string (14 + l) ∷ [])) ∷ text "}" ∷ [])))
    (λ e. rw e (regroup m (text "\t{" ∷ joined (map reg_string (set_bits raw 8) ++ []) ∷ text "}" ∷ []))))) refl)

-- ---- ldm and stm: "{op}\t{Rb}!, {", the registers, "}"
-- the register that the line shows as base, and what the lowest word has in bits 10-8
abbrev base : Form → ℕ → ℕ → ℕ
base Bench rb list = list / 8 % 8
base Sheet rb list = rb

abbrev kept : Form → ℕ → ℕ
kept Bench rb = 0
kept Sheet rb = rb

abbrev Block : Form → ℕ → ℕ → ℕ → Type 0
Block form l rb list = Fits (parts form H.LdmStm) (l ∷ rb ∷ list ∷ [])

block_least : (form : Form) (l rb list : ℕ) → Block form l rb list → NoHigher form H.LdmStm (l ∷ kept form rb ∷ list ∷ []) (l ∷ rb ∷ list ∷ [])
block_least Bench l rb list f = ldm_stm_least Bench l rb list f
block_least Sheet l rb list f = thumb_lower Sheet H.LdmStm tt (l ∷ rb ∷ list ∷ []) (l ∷ rb ∷ list ∷ []) (omega arith) f

base_shown : (form : Form) (l rb list : ℕ) → Block form l rb list → base_text form (ldm_stm_word l rb list) ≡ reg_string (base form rb list)
unfolding base_text reg_at
base_shown Bench l rb list f = rw (bench_base Bench l rb list f)
base_shown Sheet l rb list f = rw (thumb_read_lem Sheet H.LdmStm tt (l ∷ rb ∷ list ∷ []) f 1)

base_small : (form : Form) (l rb list : ℕ) → Block form l rb list → base form rb list < 8
base_small Bench l rb list f = omega arith
base_small Sheet l rb list f = omega arith

base_kept : (form : Form) (rb list : ℕ) → base form (kept form rb) list ≡ base form rb list
base_kept Bench rb list = refl
base_kept Sheet rb list = refl

block_in_lem : (form : Form) (rb list : ℕ) (t : List ℕ) → reg_in 1 t ≡ base form rb list → list_in 8 (from_word 2 t) ≡ list → block_in form t ≡ kept form rb * 2 ^ 8 + list
unfolding block_in
block_in_lem Bench rb list t e i = rw i (omega arith)
block_in_lem Sheet rb list t e i = rw (e, i)

module _ (form : Form) (pc l list : ℕ) where
  abbrev block : ℕ → Pieces
  block r = piece (pick l (text "ldm") (text "stm")) (text "\t") (behind_word (reg_string r) (text "!, {") (set_bits list 8) (text "}"))

  block_shown : (rb : ℕ) → Block form l rb list → line_of form H.LdmStm pc (ldm_stm_word l rb list) ≡ spell (block (base form rb list))
  unfolding line_of fmt_thumb_ldm_stm either registers
  block_shown rb f =
      let r = thumb_read_lem form H.LdmStm tt (l ∷ rb ∷ list ∷ []) f in
      let m = pick l (text "ldm") (text "stm") in
      let b = reg_string (base form rb list) in
      let s = same_bits (ldm_stm_word l rb list) list 8 (omega arith) in
      rw (r 0, base_shown form l rb list f, s, list_spelled b (text "!, {") (set_bits list 8) (text "}"))
      (regroup m (text "\t" ∷ b ∷ text "!, {" ∷ joined (map reg_string (set_bits list 8)) ∷ text "}" ∷ []))

  block_found : (rb : ℕ) → Block form l rb list → Law form pc H.LdmStm tt (ldm_stm_word l rb list)
  unfolding operands suits rows first same is_word
  block_found rb f =
      let n = block_least form l rb list f in
      let r = base form rb list in
      let small = base_small form l rb list f in
      let row = rows_are H.LdmStm 2 (λ l. pick l (text "ldm") (text "stm")) (λ l. 0xc000 + l * 2 ^ 11) refl l f.0 in
      let b = bits_below list 8 (omega arith) in
      let tail : good (behind_word (reg_string r) (text "!, {") (set_bits list 8) (text "}")) ≡ true =
      list_good (text "}") refl (reg_string r) (text "!, {") (set_bits list 8) (reg_wordy r (omega arith)) refl b in
      let g : good (block r) ≡ true = rw row.one_word tail in
      let first_is : reg_in 1 (spell (block r)) ≡ r = rw (word_nth 1 (block r) g, list_first (reg_string r) (text "!, {") (set_bits list 8) (text "}")) (reg_back r (omega arith)) in
      let names : list_in 8 (from_word 2 (spell (block r))) ≡ list =
      rw (from_nth 2 (block r) g).0 (list_back (text "}") refl 8 (reg_string r) (text "!, {") (set_bits list 8) (bits_few list 8) b ∙ bits_sum list 8 ∙ omega arith) in
      found form pc H.LdmStm tt (l ∷ kept form rb ∷ list ∷ []) (l ∷ rb ∷ list ∷ []) f n (block r) (0xc000 + l * 2 ^ 11) row g
      (rw (block_in_lem form rb list (spell (block r)) first_is names) (omega arith))
      (block_shown rb f) (block_shown (kept form rb) n.fits ∙ ap (λ (x : ℕ). spell (block x)) (base_kept form rb list)) refl

pub ldm_stm_law : (form : Form) (pc : ℕ) → Words form pc H.LdmStm tt
ldm_stm_law form pc = thumb_words form H.LdmStm tt (Law form pc H.LdmStm tt) (λ l rb list f e. block_found form pc l list rb f)
