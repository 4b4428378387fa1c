-- What a print shows, and the digits of a row. Assumes nothing.
use Prim.Native.Nat.{◌%◌, ◌*◌, ◌+◌, ◌-◌, ◌<◌, ◌^◌, ◌≤◌, suc, ℕ}
use borrow.Author.Tests.{eqb-true, le-ltb, lt-ltb, ltb-true}
use lib.Dec.{eqb, ltb}
use lib.ListN.{drop, drop_of_length-le, get_or, length, length-append, length-drop, length-take, take, take-append-drop}
use lib.Seq.{drop-cons, drop-drop, take_at}
use mathlib.Core.Bool.{Bool, ◌&&◌, cond, false, true}
use mathlib.Core.List.{List, [], ◌++◌, ◌∷◌, append_assoc, append-nil}
use mathlib.Core.Path.{◌≡◌, ap, refl, sym}
use native.Mathlib.Nat.{add-suc, mod-eq_of_lt, pow-le-pow_right, pow-suc, suc-add, zero-add}
use native.Mathlib.Numerals.{add-one}
use native.Mathlib.Omega.{arith}
use Rattle.lines.specs.Answer.{Answer, refused, line, given, printed}
use Rattle.lines.proofs.Whole.{Whole, apart}
use Rattle.arm7tdmi.specs.declared.Form.{Form}
use Rattle.arm7tdmi.specs.declared.Form.TheVariants.{Bench, Sheet}
use Rattle.arm_print.proofs.Whole.{arm_whole}
use Rattle.common.proofs.Tests.{and_left, and_right, by_test}
use Rattle.common.proofs.Lists.{part_rest}
use Rattle.arm_print.specs.Print.{arm_line}
use Rattle.thumb_print.specs.Print.{thumb_line}
use Rattle.row.specs.Row.{address_digits, answer_text, fields_of, hex_number, is_hex, is_row, row_answer, row_form, row_letters, word_digits, word_line}
use Rattle.row.specs.declared.Word.{Word}
use Rattle.row.specs.declared.Word.TheVariants.{Arm, Thumb}
use Rattle.text.specs.Digits.{dec, digit_value, value, value_from}
use Rattle.text.specs.Text.{text}
use Rattle.text.specs.Wrote.{Wrote}
use Rattle.text.specs.Puts.{puts, standing}
use Rattle.text.specs.declared.put.Writer.{Writer}
use Rattle.text.proofs.Within.{dec_within}
use Rattle.text.proofs.Wrote.{placed}
use Rattle.text.specs.Word.{all}
use Rattle.thumb_print.proofs.Lengths.{thumb_whole}
use Rattle.refusal.specs.Refusal.{number}
use Rattle.refusal.specs.declared.Refusal.{Refusal}
use Rattle.std.proofs.Common.{Option, Result, Ok, Err, Some, None}

pub answer_short : (a : Answer) → Whole a → length (answer_text a) ≤ 80
unfolding answer_text
answer_short (refused r) w = let d = (dec_within (number r)).most in simp length-append (omega arith)
answer_short (line bs) w = w

-- what a print with room for any line gives
module _ (l m : List ℕ) (room : 80 ≤ length l) where
  -- a line: its length, and the buffer
  pub shown_line : (a : Answer) (n : ℕ) → Whole a → printed a l ≡ (Ok n, m) → (length (answer_text a) ≡ n) × (answer_text a ++ drop n l ≡ m)
  unfolding printed answer_text
  shown_line (refused r) n w e = absurd (apart (ap (λ (x : Result ℕ Refusal × List ℕ). x.0) e))
  shown_line (line bs) n w e =
      let f : ltb (length l) (length bs) ≡ false = le-ltb (length l) (length bs) (omega arith) in
      let g : given bs l ≡ (Ok n, m) = rw f at e in
      let q : Ok (length bs) ≡ Ok n = ap (λ (x : Result ℕ Refusal × List ℕ). x.0) g in
      let k : length bs ≡ n = cc in
      (k, rw (← k) (ap (λ (z : Result ℕ Refusal × List ℕ). z.1) g))

  -- a refusal: its number, and the buffer
  pub shown_refusal : (a : Answer) (r : Refusal) → Whole a → printed a l ≡ (Err r, m) → (text "!" ++ dec (number r) ≡ answer_text a) × (l ≡ m)
  unfolding printed answer_text
  shown_refusal (refused n) r w e = let h : Err n ≡ Err r = ap (λ (x : Result ℕ Refusal × List ℕ). x.0) e in let q : n ≡ r = cc in (rw (← q), ap (λ (z : Result ℕ Refusal × List ℕ). z.1) e)
  shown_refusal (line bs) r w e =
      let f : ltb (length l) (length bs) ≡ false = le-ltb (length l) (length bs) (omega arith) in
      let g : given bs l ≡ (Err r, m) = rw f at e in
      absurd (apart (sym (ap (λ (x : Result ℕ Refusal × List ℕ). x.0) g)))

  -- the first bytes of the buffer
  pub shown_take : (a : Answer) (n : ℕ) → Whole a → printed a l ≡ (Ok n, m) → take n m ≡ answer_text a
  shown_take a n w e =
      let s = shown_line a n w e in
      rw (← s.1) (take_at (answer_text a) (drop n l) n s.0)

  -- and there are so many
  pub shown_bound : (a : Answer) (n : ℕ) → Whole a → printed a l ≡ (Ok n, m) → n ≤ length m
  shown_bound a n w e =
      let s = shown_line a n w e in
      rw (← s.1) (simp length-append (omega arith))

-- a writer that was written to
pub as_written : (w : Writer) (bs l : List ℕ) (r : ℕ) → Wrote w.bytes.now w.at bs l r → standing w (record { held = l; next = r }) ≡ puts w bs
unfolding puts
as_written w bs l r h = ap (standing w) h.after

-- a print into the part of a buffer from a place on
module _ (l m : List ℕ) (at : ℕ) (a : Answer) (room : at + 80 ≤ length l) (w : Whole a) where
  part_room : 80 ≤ length (drop at l)
  part_room = simp length-drop (omega arith)

  nothing_behind : drop (length l - at) (drop at l) ≡ []
  nothing_behind = drop_of_length-le (drop at l) {i = length l - at} (simp length-drop (omega arith))

  module _ (n : ℕ) (e : printed a (take (length l - at) (drop at l)) ≡ (Ok n, m)) where
    in_part : printed a (drop at l) ≡ (Ok n, m)
    in_part = rw part_rest at e

    pub part_length : n ≤ 80
    part_length =
        let s = shown_line (drop at l) m part_room a n w in_part in
        let short = answer_short a w in
        omega arith

    pub straight : Wrote l at (answer_text a) (take at l ++ (m ++ drop (length l - at) (drop at l))) (at + n)
    straight =
        let t = answer_text a in
        let s = shown_line (drop at l) m part_room a n w in_part in
        let short = answer_short a w in
        let b : drop n (drop at l) ≡ drop (at + n) l = drop-drop n at l in
        rw (nothing_behind, append-nil, ← s.1, b, ← s.0, ← append_assoc) (placed l at t (omega arith))

  module _ (r : Refusal) (e : printed a (take (length l - at) (drop at l)) ≡ (Err r, m)) where
    part_refused : printed a (drop at l) ≡ (Err r, m)
    part_refused = rw part_rest at e

    pub part_kept : take at l ++ (m ++ drop (length l - at) (drop at l)) ≡ l
    part_kept =
        let s = shown_refusal (drop at l) m part_room a r w part_refused in
        rw (nothing_behind, append-nil, ← s.1) (take-append-drop at l)

    pub part_refusal : text "!" ++ dec (number r) ≡ answer_text a
    part_refusal = (shown_refusal (drop at l) m part_room a r w part_refused).0

-- ---- digits of a row
-- the number that digits write behind a number v
abbrev pub number_from : ℕ → List ℕ → Option ℕ
number_from v s = cond (is_hex s) (Some (value_from 16 v s)) None

-- the steps of a loop over the digits
module _ (v : ℕ) (s : List ℕ) (i : ℕ) where
  pub number_step : i < length s → digit_value (get_or s i 0) < 16 → number_from v (drop i s) ≡ number_from ((v * 16 + digit_value (get_or s i 0)) % 2 ^ 32) (drop (i + 1) s)
  unfolding is_hex value_from
  number_step h d = rw (drop-cons s i 0 h, lt-ltb (digit_value (get_or s i 0)) 16 d, add-one)

  pub number_break : i < length s → 16 ≤ digit_value (get_or s i 0) → number_from v (drop i s) ≡ None
  unfolding is_hex
  number_break h d = rw (drop-cons s i 0 h, le-ltb (digit_value (get_or s i 0)) 16 d)

  pub number_out : length s ≤ i → number_from v (drop i s) ≡ Some v
  unfolding is_hex value_from
  number_out h = rw (drop_of_length-le s h)

-- there is one just where they are digits
pub number_hex : (l : List ℕ) (n : ℕ) → Some n ≡ hex_number l → (is_hex l ≡ true) × (value 16 l ≡ n)
unfolding hex_number
number_hex l n h = by_test (is_hex l) (λ e. let q : Some n ≡ Some (value 16 l) = rw e at h in (e, cc)) (λ e. let q : Some n ≡ None = rw e at h in cc)

pub number_none : (l : List ℕ) → None ≡ hex_number l → is_hex l ≡ false
unfolding hex_number
number_none l h = by_test (is_hex l) (λ e. let q : None ≡ Some (value 16 l) = rw e at h in cc) (λ e. e)

abbrev hex_digit : ℕ → Bool
hex_digit x = ltb (digit_value x) 16

first_hex : (x : ℕ) (l : List ℕ) → is_hex (x ∷ l) ≡ true → digit_value x < 16
unfolding is_hex
first_hex x l e = ltb-true (digit_value x) 16 (and_left (hex_digit x) (all hex_digit l) e)

rest_hex : (x : ℕ) (l : List ℕ) → is_hex (x ∷ l) ≡ true → is_hex l ≡ true
unfolding is_hex
rest_hex x l e = and_right (hex_digit x) (all hex_digit l) e

-- four digits are a number of 16 bits
value_small : (k v : ℕ) (l : List ℕ) → v < 16 ^ k → length l + k ≤ 8 → is_hex l ≡ true → value_from 16 v l < 16 ^ (length l + k)
unfolding value_from
value_small k v [] h m e = rw zero-add h
value_small k v (x ∷ l) h m e =
    let d = first_hex x l e in
    let p : 16 ^ suc k ≡ 16 ^ k * 16 = pow-suc 16 k in
    let q = pow-le-pow_right {n = 16} (omega arith) {i = suc k} {j = 8} (omega arith) in
    let lt : v * 16 + digit_value x < 16 ^ suc k = rw p (omega (d, arith)) in
    let s : (v * 16 + digit_value x) % 2 ^ 32 ≡ v * 16 + digit_value x = mod-eq_of_lt (omega (lt, q, arith)) in
    let ih = value_small (suc k) (v * 16 + digit_value x) l lt (omega arith) (rest_hex x l e) in
    rw (s, suc-add, ← add-suc) ih

pub four_small : (l : List ℕ) → length l ≤ 4 → is_hex l ≡ true → value 16 l < 2 ^ 16
four_small l h e =
    let s = value_small 0 0 l (omega arith) (omega arith) e in
    let p = pow-le-pow_right {n = 16} (omega arith) {i = length l + 0} {j = 4} (omega arith) in
    omega (s, p, arith)

-- how long a row is
pub row_length : (letter n : ℕ) (l : List ℕ) → is_row letter n l ≡ true → length l ≡ 11 + n
unfolding is_row
row_length letter n l e = eqb-true (length l) (11 + n) (and_left _ _ e)

-- the digits of a row's word are digits
pub word_hex : (letter n : ℕ) (l : List ℕ) → is_row letter n l ≡ true → is_hex (word_digits n l) ≡ true
unfolding is_row
word_hex letter n l e =
    let b = is_hex (address_digits l) in
    let w = is_hex (word_digits n l) in
    let t = eqb (get_or l 10 0) 32 in
    let u = eqb (get_or l 1 0) 32 in
    let v = eqb (get_or l 0 0) letter in
    let e1 = and_right (eqb (length l) (11 + n)) (v && (u && (t && (b && w)))) e in
    let e2 = and_right v (u && (t && (b && w))) e1 in
    let e3 = and_right u (t && (b && w)) e2 in
    and_right b w (and_right t (b && w) e3)

pub word_small : (letter : ℕ) (l : List ℕ) → is_row letter 4 l ≡ true → value 16 (word_digits 4 l) % 65536 ≡ value 16 (word_digits 4 l)
word_small letter l e = mod-eq_of_lt (four_small (word_digits 4 l) (simp length-take (omega arith)) (word_hex letter 4 l e))

pub word_whole : (form : Form) (address : ℕ) (word : Word) → Whole (word_line form address word)
unfolding word_line
word_whole form address (Arm w) = arm_whole form address w
word_whole form address (Thumb w) = thumb_whole form address w

-- what the fields of a row say of it
module _ (letter n : ℕ) (l : List ℕ) where
  pub fields_both : (a w : ℕ) → Some (a, w) ≡ fields_of letter n l → (is_row letter n l ≡ true) × (value 16 (address_digits l) ≡ a) × (value 16 (word_digits n l) ≡ w)
  unfolding fields_of
  fields_both a w e =
      let x = value 16 (address_digits l) in
      let y = value 16 (word_digits n l) in
      by_test (is_row letter n l)
      (λ t. let q : Some (a, w) ≡ Some (x, y) = rw t at e in let p : ◌≡◌ {A = ℕ × ℕ} (a, w) (x, y) = cc in (t, sym (ap (λ (z : ℕ × ℕ). z.0) p), sym (ap (λ (z : ℕ × ℕ). z.1) p)))
      (λ t. let q : Some (a, w) ≡ None = rw t at e in cc)

  pub fields_none : None ≡ fields_of letter n l → is_row letter n l ≡ false
  unfolding fields_of
  fields_none e =
      by_test (is_row letter n l)
      (λ t. let q : None ≡ Some (value 16 (address_digits l), value 16 (word_digits n l)) = rw t at e in cc)
      (λ t. t)

-- ---- a row of a form is answered in that form
row_letter : (letter n : ℕ) (l : List ℕ) → is_row letter n l ≡ true → get_or l 0 0 ≡ letter
unfolding is_row
row_letter letter n l e =
    let v = eqb (get_or l 0 0) letter in
    let rest = eqb (get_or l 1 0) 32 && (eqb (get_or l 10 0) 32 && (is_hex (address_digits l) && is_hex (word_digits n l))) in
    eqb-true (get_or l 0 0) letter (and_left v rest (and_right (eqb (length l) (11 + n)) (v && rest) e))

-- for letters that are small just for the sheet
letter_form : (letter : Form → ℕ) → ltb (letter Bench) 97 ≡ true → ltb (letter Sheet) 97 ≡ false → (form : Form) (l : List ℕ) → get_or l 0 0 ≡ letter form → row_form l ≡ form
unfolding row_form
letter_form letter b s Bench l e = rw (e, b)
letter_form letter b s Sheet l e = rw (e, s)

other_length : (letter other : ℕ) (l : List ℕ) → is_row letter 4 l ≡ true → is_row other 8 l ≡ false
unfolding is_row
other_length letter other l e = rw (row_length letter 4 l e)

pub arm_row : (form : Form) (l : List ℕ) → is_row (row_letters form).0 8 l ≡ true → row_answer l ≡ answer_text (arm_line form (value 16 (address_digits l)) (value 16 (word_digits 8 l)))
unfolding row_answer row_letters
arm_row form l e = rw (letter_form (λ f. (row_letters f).0) refl refl form l (row_letter (row_letters form).0 8 l e), e)

pub thumb_row : (form : Form) (l : List ℕ) → is_row (row_letters form).1 4 l ≡ true → row_answer l ≡ answer_text (thumb_line form (value 16 (address_digits l)) (value 16 (word_digits 4 l)))
unfolding row_answer row_letters
thumb_row form l e = rw (letter_form (λ f. (row_letters f).1) refl refl form l (row_letter (row_letters form).1 4 l e), other_length (row_letters form).1 (row_letters form).0 l e, e)
