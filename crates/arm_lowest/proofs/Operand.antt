-- Operand 2: its words, and that they are read back. Assumes nothing.
use Prim.Native.Nat.{◌%◌, ◌*◌, ◌+◌, ◌/◌, ◌<◌, ◌^◌, ◌≤◌, suc, zero, ℕ}
use borrow.Author.Tests.{eq-eqb, eqb-false, eqb-true, ne_eqb}
use lib.Dec.{eqb}
use lib.ListN.{get_or, length}
use mathlib.Core.Bool.{Bool, cond, false, true}
use mathlib.Core.List.{List, [], ◌++◌, ◌∷◌, append-nil}
use mathlib.Core.Path.{◌∙◌, ◌≡◌, ap, refl, sym}
use Rattle.std.proofs.Common.{Option, None}
use native.Mathlib.Omega.{arith}
use Rattle.arm7tdmi.proofs.Names.{reg_back, reg_letter, reg_wordy}
use Rattle.arm7tdmi.specs.Alu.{amount_of, barrel_shift_op_code, decode_rotated_immediate}
use Rattle.arm.specs.Fields.{bs_op, operand2, shift_reg_by}
use Rattle.arm7tdmi.specs.Names.{reg_string}
use Rattle.arm7tdmi.specs.declared.Form.{Form}
use Rattle.arm7tdmi.specs.declared.alu.Amount.TheVariants.{Places, Rrx}
use Rattle.arm7tdmi.specs.declared.alu.Amount.{Amount}
use Rattle.arm_operand.specs.Operand.{amount_text, by_amount, by_register, decoded_text, fmt_operand2, immediate, is_lsl0, places_text, shift_by, shift_text, shifted_register}
use Rattle.arm_lowest.proofs.Rotation.{immediate_least, immediate_lt, immediate_at}
use Rattle.arm_candidate.specs.CandidateOperand.{immediate_of, is_number, operand_of, shift_named, shift_names, shift_of, shifted_of}
use Rattle.arm_words.proofs.Operand.{ShiftLeast, operand_read, shift_least_lem, shift_least}
use Rattle.common.proofs.Lists.{agreed}
use Rattle.common.proofs.Tests.{at, at_not, by_test}
use Rattle.common.specs.Bits.{bit, bit_range}
use Rattle.common.specs.Lists.{first, same}
use Rattle.reading.proofs.Amount.{States, amount_states}
use Rattle.reading.proofs.Pieces.{Pieces, first_word, first_of, gaps_have, good, last, piece, regroup, some, spell, word_nth}
use Rattle.text.proofs.Digits.{dec_back}
use Rattle.text.proofs.Word.{dec_first, dec_wordy, prefixed_wordy, wordy}
use Rattle.text.specs.Digits.{dec, prefixed}
use Rattle.text.specs.Text.{text}
use Rattle.text.specs.Word.{has, is_word, word}

-- ---- shifts
abbrev shift_name : ℕ → List ℕ
shift_name k = get_or shift_names k []

shift_name_lem : (k : ℕ) → k < 4 → shift_text (barrel_shift_op_code k) ≡ shift_name k
unfolding shift_text barrel_shift_op_code shift_names same
shift_name_lem = agreed (λ k. shift_text (barrel_shift_op_code k)) shift_name 4 refl

shift_wordy : (k : ℕ) → k < 4 → wordy (shift_name k) ≡ true
unfolding shift_names is_word
shift_wordy = at (λ k. wordy (shift_name k)) 4 refl

shift_back : (k : ℕ) → k < 4 → shift_named (shift_name k) ≡ k
unfolding shift_named shift_names first same
shift_back k h = eqb-true _ _ (at (λ k. eqb (shift_named (shift_name k)) k) 4 refl k h)

shift_some : (k : ℕ) → k < 4 → eqb (length (shift_name k)) 0 ≡ false
unfolding shift_names
shift_some = at_not (λ k. eqb (length (shift_name k)) 0) 4 refl

lsl0 : (k n : ℕ) → k < 4 → is_lsl0 (barrel_shift_op_code k) n ≡ eqb (k * 32 + n) 0
unfolding barrel_shift_op_code
lsl0 zero n h = let z : 0 * 32 + n ≡ n = omega arith in rw z
lsl0 (suc zero) n h = sym (ne_eqb (1 * 32 + n) 0 (λ z. let y : 1 * 32 + n ≡ 0 = z in omega arith))
lsl0 (suc (suc zero)) n h = sym (ne_eqb (2 * 32 + n) 0 (λ z. let y : 2 * 32 + n ≡ 0 = z in omega arith))
lsl0 (suc (suc (suc zero))) n h = sym (ne_eqb (3 * 32 + n) 0 (λ z. let y : 3 * 32 + n ≡ 0 = z in omega arith))
lsl0 (suc (suc (suc (suc k)))) n h = absurd (omega arith)

-- ---- the words of a shifted register
abbrev stated_pieces : ℕ → Amount → Pieces
stated_pieces k (Places m) = piece (shift_name k) (text " #") (last (dec m))
stated_pieces k Rrx = last (text "rrx")

abbrev amount_pieces : ℕ → ℕ → Amount → Pieces
amount_pieces r k a = piece (reg_string r) (text ", ") (stated_pieces k a)

abbrev reg_pieces : ℕ → ℕ → ℕ → Pieces
reg_pieces r k rs = piece (reg_string r) (text ", ") (piece (shift_name k) (text " ") (last (reg_string rs)))

-- the amount that the twelve bits n state, and whether it is LSL #0
abbrev stated : Form → ℕ → Amount
stated form n = amount_of form (barrel_shift_op_code (bit_range n 5 7)) (bit_range n 7 12)

abbrev alone : ℕ → Bool
alone n = eqb (bit_range n 5 7 * 32 + bit_range n 7 12) 0

-- of the twelve bits n
abbrev pub shift_pieces : Form → ℕ → Pieces
shift_pieces form n =
    cond (bit n 4) (reg_pieces (bit_range n 0 4) (bit_range n 5 7) (bit_range n 8 12))
    (cond (alone n) (last (reg_string (bit_range n 0 4))) (amount_pieces (bit_range n 0 4) (bit_range n 5 7) (stated form n)))

-- a fact about them, from that about a shift by a register, a register alone, and any amount
shift_cases : (P : Pieces → Type 0) (form : Form) (n : ℕ) →
    P (reg_pieces (bit_range n 0 4) (bit_range n 5 7) (bit_range n 8 12)) → P (last (reg_string (bit_range n 0 4))) →
    P (amount_pieces (bit_range n 0 4) (bit_range n 5 7) (stated form n)) → P (shift_pieces form n)
shift_cases P form n a b c = by_test (bit n 4) (λ e. rw e a) (λ e. by_test (alone n) (λ z. rw (e, z) b) (λ z. rw (e, z) c))

amount_spelled : (r k : ℕ) (a : Amount) → k < 4 → reg_string r ++ amount_text (barrel_shift_op_code k) a ≡ spell (amount_pieces r k a)
unfolding amount_text places_text
amount_spelled r k (Places m) h = rw (shift_name_lem k h) (ap (λ (l : List ℕ). reg_string r ++ l) (regroup (text ", ") (shift_name k ∷ text " #" ∷ dec m ∷ [])))
amount_spelled r k Rrx h = refl

-- of a word whose lowest twelve bits are n
pub shift_spelled : (form : Form) (w n : ℕ) (a : Option Bool) → bit_range w 0 12 ≡ n →
    shifted_register form (record { reg = bit_range w 0 4; shift_by = shift_reg_by w; bs_op = bs_op w; added = a }) ≡ spell (shift_pieces form n)
unfolding shifted_register shift_reg_by bs_op shift_by by_amount by_register
shift_spelled form w n a e =
    let r = operand_read w n e in
    let b : bit w 4 ≡ bit n 4 = ap (λ (x : ℕ). eqb x 1) r.1 in
    let s = shift_name_lem (bit_range n 5 7) (omega arith) in
    let l = lsl0 (bit_range n 5 7) (bit_range n 7 12) (omega arith) in
    by_test (bit n 4)
    (λ y. rw (b, y, r.0, r.2, r.4, s) (ap (λ (l : List ℕ). reg_string (bit_range n 0 4) ++ l) (regroup (text ", ") (shift_name (bit_range n 5 7) ∷ text " " ∷ reg_string (bit_range n 8 12) ∷ []))))
    (λ y. by_test (alone n)
    (λ z. rw (b, y, r.0, r.2, r.3, l, z) (append-nil (reg_string (bit_range n 0 4))))
    (λ z. rw (b, y, r.0, r.2, r.3, l, z) (amount_spelled (bit_range n 0 4) (bit_range n 5 7) (stated form n) (omega arith))))

amount_good : (r k : ℕ) (a : Amount) → r < 16 → k < 4 → good (amount_pieces r k a) ≡ true
unfolding is_word
amount_good r k (Places m) h b = rw (reg_wordy r h, shift_wordy k b, dec_wordy m)
amount_good r k Rrx h b = rw (reg_wordy r h)

reg_good : (r k rs : ℕ) → r < 16 → k < 4 → rs < 16 → good (reg_pieces r k rs) ≡ true
unfolding is_word
reg_good r k rs a b c = rw (reg_wordy r a, shift_wordy k b, reg_wordy rs c)

pub shift_good : (form : Form) (n : ℕ) → good (shift_pieces form n) ≡ true
shift_good form n =
    shift_cases (λ q. good q ≡ true) form n (reg_good (bit_range n 0 4) (bit_range n 5 7) (bit_range n 8 12) (omega arith) (omega arith) (omega arith))
    (reg_wordy (bit_range n 0 4) (omega arith))
    (amount_good (bit_range n 0 4) (bit_range n 5 7) (stated form n) (omega arith) (omega arith))

-- ---- they are read back: all but bit 7 where bit 4 is set
reg_shift : (r k rs : ℕ) → r < 16 → k < 4 → rs < 16 → shifted_of (spell (reg_pieces r k rs)) ≡ r + (k * 2 ^ 5 + (2 ^ 4 + rs * 2 ^ 8))
unfolding shifted_of shift_of
reg_shift r k rs a b c =
    let g = reg_good r k rs a b c in
    rw (word_nth 0 (reg_pieces r k rs) g, word_nth 1 (reg_pieces r k rs) g, word_nth 2 (reg_pieces r k rs) g, shift_some k b, shift_back k b, ne_eqb k 4 (omega arith), reg_back r a, reg_letter rs c, reg_back rs c)

amount_shift : (r k n : ℕ) (a : Amount) → r < 16 → k < 4 → States k n a → shifted_of (spell (amount_pieces r k a)) ≡ r + (k * 2 ^ 5 + n * 2 ^ 7)
unfolding shifted_of shift_of shift_named shift_names first same
amount_shift r k n (Places m) a b s =
    let g = amount_good r k (Places m) a b in
    rw (word_nth 0 (amount_pieces r k (Places m)) g, word_nth 1 (amount_pieces r k (Places m)) g, word_nth 2 (amount_pieces r k (Places m)) g, shift_some k b, shift_back k b, ne_eqb k 4 (omega arith), reg_back r a, dec_first m, dec_back m s.0, s.1)
amount_shift r k n Rrx a b s =
    let g = amount_good r k Rrx a b in
    rw (word_nth 0 (amount_pieces r k Rrx) g, word_nth 1 (amount_pieces r k Rrx) g, reg_back r a, s.0, s.1)

alone_shift : (r : ℕ) → r < 16 → shifted_of (spell (last (reg_string r))) ≡ r
unfolding shifted_of
alone_shift r a =
    let g : good (last (reg_string r)) ≡ true = reg_wordy r a in
    rw (word_nth 0 (last (reg_string r)) g, word_nth 1 (last (reg_string r)) g, reg_back r a) (omega arith)

seven : (n : ℕ) → bit_range n 4 5 ≡ 1 → bit_range n 0 4 + (bit_range n 5 7 * 2 ^ 5 + 2 ^ 4) ≡ n % 2 ^ 7
seven n e = omega arith

by_reg : (n : ℕ) → bit_range n 4 5 ≡ 1 → n < 2 ^ 12 → bit_range n 0 4 + (bit_range n 5 7 * 2 ^ 5 + (2 ^ 4 + bit_range n 8 12 * 2 ^ 8)) ≡ n / 2 ^ 8 * 2 ^ 8 + n % 2 ^ 7
by_reg n e h = let a : bit_range n 8 12 ≡ n / 2 ^ 8 = omega arith in let b = seven n e in rw (a, ← b) (omega arith)

by_amount_lem : (n : ℕ) → (bit_range n 4 5 ≡ 1 → ⊥) → n < 2 ^ 12 → bit_range n 0 4 + (bit_range n 5 7 * 2 ^ 5 + bit_range n 7 12 * 2 ^ 7) ≡ n
by_amount_lem n e h = let a : bit_range n 7 12 ≡ n / 2 ^ 7 = omega arith in rw a (omega arith)

-- THE LAW of shifted registers
pub shifted_back : (form : Form) (n : ℕ) → n < 2 ^ 12 → shifted_of (spell (shift_pieces form n)) ≡ shift_least n
shifted_back form n h =
    by_test (bit n 4)
    (λ e. rw e (reg_shift (bit_range n 0 4) (bit_range n 5 7) (bit_range n 8 12) (omega arith) (omega arith) (omega arith) ∙ by_reg n (eqb-true _ _ e) h))
    (λ e. let w = by_amount_lem n (eqb-false _ _ e) h in
    by_test (alone n)
    (λ z. let y = eqb-true (bit_range n 5 7 * 32 + bit_range n 7 12) 0 z in
    rw (e, z) (alone_shift (bit_range n 0 4) (omega arith) ∙ omega arith))
    (λ z. let s = amount_states form (bit_range n 5 7) (bit_range n 7 12) (omega arith) (omega arith) in
    rw (e, z) (amount_shift (bit_range n 0 4) (bit_range n 5 7) (bit_range n 7 12) (stated form n) (omega arith) (omega arith) s ∙ w)))

-- the least has the same words
pub shift_same : (form : Form) {n k : ℕ} → ShiftLeast n k → shift_pieces form k ≡ shift_pieces form n
shift_same form {n} {k} s =
    let b : bit k 4 ≡ bit n 4 = ap (λ (x : ℕ). eqb x 1) s.by in
    by_test (bit n 4)
    (λ e. rw (b, e, s.reg, s.shift, s.rs))
    (λ e. let z = eqb-false (bit_range n 4 5) 1 e in rw (b, e, s.reg, s.shift, s.amount (omega arith)))

-- their first is the register's, which begins with a letter
pub shift_first : (form : Form) (n : ℕ) → first_of (shift_pieces form n) ≡ reg_string (bit_range n 0 4)
shift_first form n = shift_cases (λ q. first_of q ≡ reg_string (bit_range n 0 4)) form n refl refl refl

pub shift_letter : (form : Form) (n : ℕ) → is_number (word (spell (shift_pieces form n))) ≡ false
shift_letter form n = rw (first_word (shift_pieces form n) (shift_good form n), shift_first form n) (reg_letter (bit_range n 0 4) (omega arith))

-- there is one, and it has none of the marks that stand about it
amount_there : (k : ℕ) (a : Amount) → some (stated_pieces k a) ≡ true
amount_there k (Places m) = refl
amount_there k Rrx = refl

pub shift_there : (form : Form) (n : ℕ) → some (shift_pieces form n) ≡ true
shift_there form n = shift_cases (λ q. some q ≡ true) form n refl refl (amount_there (bit_range n 5 7) (stated form n))

amount_plain : (y r k : ℕ) (a : Amount) → has y (text ", ") ≡ false → has y (text " #") ≡ false → gaps_have y (amount_pieces r k a) ≡ false
amount_plain y r k (Places m) p q = rw (p, q)
amount_plain y r k Rrx p q = rw p

pub shift_plain : (form : Form) (y n : ℕ) → has y (text ", ") ≡ false → has y (text " ") ≡ false → has y (text " #") ≡ false → gaps_have y (shift_pieces form n) ≡ false
shift_plain form y n a b c =
    shift_cases (λ q. gaps_have y q ≡ false) form n (rw (a, b)) refl (amount_plain y (bit_range n 0 4) (bit_range n 5 7) (stated form n) a c)

-- a register alone
pub shift_alone : (form : Form) (r : ℕ) → r < 16 → shift_pieces form r ≡ last (reg_string r)
shift_alone form r h =
    let a : bit_range r 0 4 ≡ r = omega arith in
    let b : bit r 4 ≡ false = ne_eqb (bit_range r 4 5) 1 (omega arith) in
    let d : alone r ≡ true = eq-eqb (bit_range r 5 7 * 32 + bit_range r 7 12) 0 (omega arith) in
    rw (b, d, a)

-- ---- operand 2: an immediate, or a shifted register
abbrev pub imm_pieces : ℕ → Pieces
imm_pieces v = piece (dec v) (text "\t; ") (last (prefixed 1 v))

abbrev pub op_pieces : Form → ℕ → ℕ → Pieces
op_pieces form i n = cond (eqb i 1) (imm_pieces (immediate_at n)) (shift_pieces form n)

-- what stands before it
abbrev pub lead : ℕ → List ℕ
lead i = cond (eqb i 1) (text "#") []

-- of a word with bit 25 i and the lowest twelve bits n
pub op_spelled : (form : Form) (w i n : ℕ) → bit_range w 25 26 ≡ i → bit_range w 0 12 ≡ n → fmt_operand2 form (operand2 w) ≡ lead i ++ spell (op_pieces form i n)
unfolding operand2 fmt_operand2 decoded_text decode_rotated_immediate immediate
op_spelled form w i n h e =
    let r = operand_read w n e in
    let b : bit w 25 ≡ eqb i 1 = ap (λ (x : ℕ). eqb x 1) h in
    by_test (eqb i 1)
    (λ y. rw (b, y, r.4, r.5) (regroup (text "#") (dec (immediate_at n) ∷ text "\t; " ∷ prefixed 1 (immediate_at n) ∷ [])))
    (λ y. rw (b, y) (shift_spelled form w n None e))

pub op_good : (form : Form) (i n : ℕ) → good (op_pieces form i n) ≡ true
unfolding is_word
op_good form i n = by_test (eqb i 1) (λ e. rw (e, dec_wordy (immediate_at n), prefixed_wordy 1 (immediate_at n) (omega arith))) (λ e. rw e (shift_good form n))

-- the lowest twelve bits with the same words
abbrev pub op_least : ℕ → ℕ → ℕ
op_least i n = cond (eqb i 1) (immediate_of (immediate_at n)) (shift_least n)

-- THE LAW of operand 2; of an immediate, whatever follows the number
pub number_back : (ps : Pieces) (n : ℕ) → good ps ≡ true → first_of ps ≡ dec (immediate_at n) → operand_of (spell ps) ≡ 2 ^ 25 + immediate_of (immediate_at n)
unfolding operand_of
number_back ps n g e = rw (first_word ps g, e, dec_first (immediate_at n), dec_back (immediate_at n) (immediate_lt n))

pub register_back : (form : Form) (n : ℕ) → n < 2 ^ 12 → operand_of (spell (shift_pieces form n)) ≡ shift_least n
unfolding operand_of
register_back form n h = rw (shift_letter form n) (shifted_back form n h)

pub op_back : (form : Form) (i n : ℕ) → i < 2 → n < 2 ^ 12 → operand_of (spell (op_pieces form i n)) ≡ i * 2 ^ 25 + op_least i n
op_back form i n hi h =
    by_test (eqb i 1)
    (λ e. let y = eqb-true i 1 e in
    rw (e, number_back (imm_pieces (immediate_at n)) n (rw e at (op_good form i n)) refl, y) (omega arith))
    (λ e. let z = eqb-false i 1 e in let y : i ≡ 0 = omega arith in
    rw (e, register_back form n h, y) (omega arith))

pub record OpLeast (form : Form) (i n k : ℕ) : Type 0 where
  pub low : k ≤ n
  pub words : op_pieces form i k ≡ op_pieces form i n
  pub reg : i ≡ 0 → ShiftLeast n k

pub op_least_lem : (form : Form) (i n : ℕ) → i < 2 → n < 2 ^ 12 → OpLeast form i n (op_least i n)
op_least_lem form i n hi h =
    by_test (eqb i 1)
    (λ e. let y = eqb-true i 1 e in
    let l = immediate_least n h in
    rw e (record { low = l.low; words = rw (e, l.value); reg = λ z. absurd (omega arith) }))
    (λ e. let l = shift_least_lem n in rw e (record { low = l.low; words = rw e (shift_same form l); reg = λ z. l }))
