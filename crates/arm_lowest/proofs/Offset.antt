-- Offsets of ldr, str and halfword transfers: the line as pieces, and what its words and marks say. Assumes nothing.
use Prim.Native.Nat.{◌%◌, ◌*◌, ◌+◌, ◌-◌, ◌<◌, ◌^◌, ℕ}
use borrow.Author.Tests.{eqb-false, eqb-true, le-ltb, lt-ltb, ne_eqb}
use lib.Dec.{eqb}
use mathlib.Core.Bool.{Bool, ◌&&◌, ◌||◌, cond, false, not, or-false, true}
use mathlib.Core.List.{List, [], ◌++◌, append_assoc, append-nil}
use mathlib.Core.Path.{◌∙◌, ◌≡◌, ap, refl, sym}
use native.Mathlib.Omega.{arith}
use Rattle.arm7tdmi.proofs.Names.{reg_back, reg_letter, reg_wordy}
use Rattle.arm.specs.Fields.{added_of, pc_relative, signed_offset}
use Rattle.arm7tdmi.specs.Names.{reg_string}
use Rattle.lines.proofs.Address.{address_wordy}
use Rattle.lines.specs.Pieces.{if_set, reg_at}
use Rattle.arm7tdmi.specs.declared.Form.TheVariants.{Bench, Sheet}
use Rattle.arm7tdmi.specs.declared.Form.{Form}
use Rattle.arm7tdmi.specs.declared.alu.BarrelShifterValue.{BarrelShifterValue}
use Rattle.arm7tdmi.specs.declared.alu.ShiftedRegister.{ShiftedRegister}
use Rattle.arm_operand.specs.Operand.{bench_offset, comment, commented, fmt_rn_offset, immediate_offset, indexed, magnitude, offset_text, sheet_offset, shifted_register, sign_text, signed_register, value_comment}
use Rattle.arm_lowest.proofs.Heads.{pick}
use Rattle.arm_lowest.proofs.Operand.{shift_first, shift_good, shift_plain, shift_there, shift_pieces, shifted_back}
use Rattle.arm_candidate.specs.CandidateOperand.{is_number, shifted_of}
use Rattle.reading.specs.Parts.{flag, reg_in}
use Rattle.arm_candidate.specs.CandidateTransfer.{added_in, base_in, indexed_in, is_added, register_added, size_in, size_of}
use Rattle.arm_words.proofs.Operand.{shift_least}
use Rattle.arm_words.proofs.Scheme.{bench}
use Rattle.arm_words.proofs.Transfer.{unsigned}
use Rattle.common.proofs.Tests.{by_test}
use Rattle.common.specs.Bits.{bit_range}
use Rattle.reading.proofs.Pieces.{Pieces, ended, ended_first, ended_gaps, ended_good, ended_spelled, first_word, first_of, from_nth, gaps_have, good, has_append, has_gaps, last, piece, rest_nth, spell, word_nth}
use Rattle.text.proofs.Digits.{dec_back}
use Rattle.text.proofs.Word.{dec_first, dec_wordy, gap, prefixed_wordy, wordy}
use Rattle.text.specs.Digits.{dec, value}
use Rattle.text.specs.Text.{text}
use Rattle.text.specs.Word.{all, from_word, has, is_gap, is_word, word}
use Rattle.arm7tdmi.specs.declared.alu.BarrelShifterValue.TheVariants as Value

-- ---- the texts of an offset
-- between Rn and the offset, and behind it
abbrev pub sep : ℕ → List ℕ
sep p = pick p (text ", ") (text "], ")

abbrev closing : ℕ → List ℕ
closing w = text "]" ++ pick w (text "!") []

abbrev pub close : ℕ → ℕ → List ℕ
close p w = pick p (closing w) []

-- a number n, added or subtracted, as a number of 32 bits; and the sign and the number that are shown of it (S4)
abbrev pub signed : ℕ → ℕ → ℕ
signed u n = cond (eqb u 1) n ((2 ^ 32 - n) % 2 ^ 32)

abbrev minus : Form → ℕ → Bool
minus form u = not (bench form || eqb u 1)

abbrev size : Form → ℕ → ℕ → ℕ
size form u n = cond (bench form) (signed u n) n

-- what the comment shows of it is one word
commented_wordy : (form : Form) (pc rn v : ℕ) → wordy (commented form pc rn v) ≡ true
commented_wordy form pc rn v = by_test (eqb rn 15) (λ e. rw (e, address_wordy form (pc_relative pc v))) (λ e. rw (e, prefixed_wordy 1 v (omega arith)))

-- an offset by a number (true) or by a register (false): whether it has `-`, what stands before its first word, and its pieces to the line's end
abbrev pub negative : Form → Bool → ℕ → Bool
negative form true u = minus form u
negative form false u = not (eqb u 1)

abbrev pub offset_lead : Form → Bool → ℕ → List ℕ
offset_lead form true u = text "#" ++ cond (minus form u) (text "-") []
offset_lead form false u = cond (not (eqb u 1)) (text "-") []

abbrev pub offset : Form → ℕ → Bool → ℕ → ℕ → ℕ → ℕ → ℕ → Pieces
offset form pc true p u w rn n = piece (dec (size form u n)) (close p w ++ text "\t; ") (last (commented form pc rn (signed u n)))
offset form pc false p u w rn n = cond (eqb p 1) (ended (shift_pieces form n) (close p w)) (shift_pieces form n)

-- the line of a transfer: the mnemonic, Rd, Rn, the offset's lead and its pieces
abbrev pub transfer_pieces : List ℕ → ℕ → ℕ → ℕ → List ℕ → Pieces → Pieces
transfer_pieces h p rn rd g o = piece h (text "\t") (piece (reg_string rd) (text ", [") (piece (reg_string rn) (sep p ++ g) o))

-- ---- what the word's fields print
module _ (form : Form) (pc raw : ℕ) {p u w rn : ℕ} (ep : bit_range raw 24 25 ≡ p) (eu : bit_range raw 23 24 ≡ u) (ew : bit_range raw 21 22 ≡ w) (en : bit_range raw 16 20 ≡ rn) where
  abbrev Spelled : Bool → ℕ → BarrelShifterValue → Type 0
  Spelled by n o = fmt_rn_offset form pc raw o ≡ text "[" ++ (reg_string rn ++ ((sep p ++ offset_lead form by u) ++ spell (offset form pc by p u w rn n)))

  number_text : (form : Form) (n : ℕ) → n < 2 ^ 12 → immediate_offset form raw (signed u n) ≡ offset_lead form true u ++ dec (size form u n)
  unfolding immediate_offset sheet_offset bench_offset magnitude
  number_text Bench n h = refl
  number_text Sheet n h =
      by_test (eqb u 1) (λ e. rw (eu, e))
      (λ e. let m : (2 ^ 32 - (2 ^ 32 - n) % 2 ^ 32) % 2 ^ 32 ≡ n = omega arith in rw (eu, e, m))

  signed_is : (n : ℕ) → signed_offset raw n ≡ signed u n
  unfolding signed_offset
  signed_is n = rw eu

  indexed_is : (o : BarrelShifterValue) → indexed form raw o ≡ sep p ++ (offset_text form raw o ++ close p w)
  unfolding indexed if_set
  indexed_is o =
      by_test (eqb p 1) (λ e. rw (ep, ew, e) (ap (λ (l : List ℕ). text ", " ++ l) (append_assoc (offset_text form raw o) (text "]") (pick w (text "!") [])))) (λ e. rw (ep, e, append-nil))

  pub number_spelled : (n : ℕ) → n < 2 ^ 12 → Spelled true n (Value.ImmediateValue (signed_offset raw n))
  unfolding fmt_rn_offset offset_text comment value_comment reg_at
  number_spelled n h =
      let o = Value.ImmediateValue (signed_offset raw n) in
      append_assoc (text "[" ++ reg_at raw 16 20) (indexed form raw o) (comment form pc raw o)
      ∙ rw (indexed_is (Value.ImmediateValue (signed_offset raw n)), signed_is n, en, number_text form n h) (simp append_assoc)

  sign_is : sign_text (added_of raw) ≡ offset_lead form false u
  unfolding sign_text added_of
  sign_is = by_test (eqb u 1) (λ e. rw (eu, e)) (λ e. rw (eu, e))

  closed : (n : ℕ) → spell (offset form pc false p u w rn n) ≡ spell (shift_pieces form n) ++ close p w
  closed n = by_test (eqb p 1) (λ e. rw e (ended_spelled (shift_pieces form n) (closing w) (shift_there form n))) (λ e. rw (e, append-nil))

  pub register_spelled : (n : ℕ) (s : ShiftedRegister) → s.added ≡ added_of raw → shifted_register form s ≡ spell (shift_pieces form n) → Spelled false n (Value.ShiftedRegister s)
  unfolding fmt_rn_offset offset_text comment signed_register reg_at
  register_spelled n s a q =
      let o = Value.ShiftedRegister s in
      append_assoc (text "[" ++ reg_at raw 16 20) (indexed form raw o) (comment form pc raw o)
      ∙ rw (indexed_is (Value.ShiftedRegister s), en, q, a, sign_is, closed n) (simp (append_assoc, append-nil))

-- ---- what the marks of a line say, whatever its offset
pub record Seen (minus bang : Bool) (g : List ℕ) (o : Pieces) : Type 0 where
  pub before : all is_gap g ≡ true
  pub whole : good o ≡ true
  pub bang_in : gaps_have 33 o ≡ bang
  pub bang_out : has 33 g ≡ false
  pub minus_in : gaps_have 45 o ≡ false
  pub minus_out : has 45 g ≡ minus

module _ (h : List ℕ) (p rn rd : ℕ) {minus bang : Bool} {g : List ℕ} {o : Pieces} (s : Seen minus bang g o) (hh : wordy h ≡ true) (hn : rn < 16) (hd : rd < 16) where
  abbrev ps : Pieces
  ps = transfer_pieces h p rn rd g o

  sep_gap : gap (sep p ++ g) ≡ true
  unfolding is_word
  sep_gap = by_test (eqb p 1) (λ e. rw (e, s.before)) (λ e. rw (e, s.before))

  pub transfer_good : good (transfer_pieces h p rn rd g o) ≡ true
  unfolding is_word
  transfer_good = rw (hh, reg_wordy rd hd, reg_wordy rn hn, sep_gap, s.whole)

  pub transfer_offset : from_word 3 (spell (transfer_pieces h p rn rd g o)) ≡ spell o
  transfer_offset = (from_nth 3 ps transfer_good).0

  indexed_back : indexed_in (spell ps) ≡ eqb p 1
  indexed_back = by_test (eqb p 1) (λ e. rw (rest_nth 2 ps transfer_good, e)) (λ e. rw (rest_nth 2 ps transfer_good, e))

  sep_has : (y : ℕ) → has y (text ", ") ≡ false → has y (text "], ") ≡ false → has y (sep p ++ g) ≡ has y g
  sep_has y a b = has_append y (sep p) g ∙ by_test (eqb p 1) (λ e. rw (e, a)) (λ e. rw (e, b))

  pub transfer_bang : has 33 (spell (transfer_pieces h p rn rd g o)) ≡ bang
  unfolding is_word has
  transfer_bang = has_gaps 33 ps refl transfer_good ∙ rw (sep_has 33 refl refl, s.bang_out, s.bang_in)

  pub transfer_minus : has 45 (spell (transfer_pieces h p rn rd g o)) ≡ minus
  unfolding is_word has
  transfer_minus = has_gaps 45 ps refl transfer_good ∙ rw (sep_has 45 refl refl, s.minus_out, s.minus_in) (or-false minus)

  pub transfer_base : (b : ℕ) → base_in b (spell (transfer_pieces h p rn rd g o)) ≡ b + flag (eqb p 1) * 2 ^ 24 + flag bang * 2 ^ 21 + rn * 2 ^ 16 + rd * 2 ^ 12
  unfolding base_in
  transfer_base b = rw (indexed_back, transfer_bang, word_nth 1 ps transfer_good, word_nth 2 ps transfer_good, reg_back rn hn, reg_back rd hd)

-- ---- the offsets
number_seen : (form : Form) (pc p u w rn n : ℕ) → Seen (negative form true u) (eqb p 1 && eqb w 1) (offset_lead form true u) (offset form pc true p u w rn n)
unfolding is_word has
number_seen form pc p u w rn n =
    let a = dec_wordy (size form u n) in
    let b = commented_wordy form pc rn (signed u n) in
    record {
      before = by_test (minus form u) (λ e. rw e) (λ e. rw e);
      whole = by_test (eqb p 1) (λ e. by_test (eqb w 1) (λ f. rw (a, b, e, f)) (λ f. rw (a, b, e, f))) (λ e. rw (a, b, e));
      bang_in = by_test (eqb p 1) (λ e. by_test (eqb w 1) (λ f. rw (e, f)) (λ f. rw (e, f))) (λ e. rw e);
      bang_out = by_test (minus form u) (λ e. rw e) (λ e. rw e);
      minus_in = by_test (eqb p 1) (λ e. by_test (eqb w 1) (λ f. rw (e, f)) (λ f. rw (e, f))) (λ e. rw e);
      minus_out = by_test (minus form u) (λ e. rw e) (λ e. rw e);
    }

register_seen : (form : Form) (pc p u w rn n : ℕ) → Seen (negative form false u) (eqb p 1 && eqb w 1) (offset_lead form false u) (offset form pc false p u w rn n)
unfolding is_word has
register_seen form pc p u w rn n =
    let t = shift_there form n in
    let a = shift_good form n in
    let b = shift_plain form 33 n refl refl refl in
    let c = shift_plain form 45 n refl refl refl in
    record {
      before = by_test (eqb u 1) (λ e. rw e) (λ e. rw e);
      whole = by_test (eqb p 1) (λ e. rw e (ended_good (shift_pieces form n) (closing w) a (by_test (eqb w 1) (λ f. rw f) (λ f. rw f)))) (λ e. rw (e, a));
      bang_in = by_test (eqb p 1) (λ e. rw (e, ended_gaps 33 (shift_pieces form n) (closing w) t, b) (by_test (eqb w 1) (λ f. rw f) (λ f. rw f))) (λ e. rw (e, b));
      bang_out = by_test (eqb u 1) (λ e. rw e) (λ e. rw e);
      minus_in = by_test (eqb p 1) (λ e. rw (e, ended_gaps 45 (shift_pieces form n) (closing w) t, c) (by_test (eqb w 1) (λ f. rw f) (λ f. rw f))) (λ e. rw (e, c));
      minus_out = by_test (eqb u 1) (λ e. rw e) (λ e. rw e);
    }

pub offset_seen : (form : Form) (pc : ℕ) (by : Bool) (p u w rn n : ℕ) → Seen (negative form by u) (eqb p 1 && eqb w 1) (offset_lead form by u) (offset form pc by p u w rn n)
offset_seen form pc true p u w rn n = number_seen form pc p u w rn n
offset_seen form pc false p u w rn n = register_seen form pc p u w rn n

-- ---- a number is read back; on the bench, U of zero is what z says
abbrev pub shown_u : Form → Bool → ℕ → ℕ → ℕ
shown_u form z u n = cond (unsigned form n) (flag z) u

size_small : (form : Form) (u n : ℕ) → n < 2 ^ 12 → size form u n < 2 ^ 32
size_small Bench u n h = by_test (eqb u 1) (λ e. rw e (omega arith)) (λ e. rw e (omega arith))
size_small Sheet u n h = omega arith

record Sized (form : Form) (z : Bool) (u n : ℕ) (up : Bool) : Type 0 where
  pub added : flag up ≡ shown_u form z u n
  pub sized : size_of form up (size form u n) ≡ n

sized : (form : Form) (z : Bool) (u n : ℕ) → u < 2 → n < 2 ^ 12 → Sized form z u n (is_added form z (minus form u) (size form u n))
unfolding is_added size_of magnitude
sized Bench z u n hu h =
    by_test (eqb n 0)
    (λ e. let y : n ≡ 0 = eqb-true n 0 e in
    let v : size Bench u 0 ≡ 0 = by_test (eqb u 1) (λ f. rw f) (λ f. rw f) in
    rw (y, v) (record { added = refl; sized = rw v (by_test z (λ g. rw g) (λ g. rw g)) }))
    (λ e. let y = eqb-false n 0 e in
    by_test (eqb u 1)
    (λ f. let v : u ≡ 1 = eqb-true u 1 f in rw (f, e, lt-ltb n (2 ^ 12) h) (record { added = rw e (sym v); sized = rw f }))
    (λ f. let v = eqb-false u 1 f in
    let q : (2 ^ 32 - n) % 2 ^ 32 ≡ 2 ^ 32 - n = omega arith in
    rw (f, q, ne_eqb (2 ^ 32 - n) 0 (omega arith), le-ltb (2 ^ 32 - n) (2 ^ 12) (omega arith)) (record { added = rw e (omega arith); sized = rw (f, q) (omega arith) })))
sized Sheet z u n hu h = record { added = by_test (eqb u 1) (λ f. rw f (sym (eqb-true u 1 f))) (λ f. let v = eqb-false u 1 f in rw f (omega arith)); sized = refl }

-- ---- what a line says of its offset
shifted_ended : (q : Pieces) (z : List ℕ) → good q ≡ true → gap z ≡ true → shifted_of (spell (ended q z)) ≡ shifted_of (spell q)
unfolding shifted_of
shifted_ended q z e h =
    let g = ended_good q z e h in
    rw (word_nth 0 (ended q z) g, word_nth 1 (ended q z) g, word_nth 2 (ended q z) g, ended_first 0 q z, ended_first 1 q z, ended_first 2 q z, word_nth 0 q e, word_nth 1 q e, word_nth 2 q e)

module _ (form : Form) (pc : ℕ) (h : List ℕ) (p u w rn rd n : ℕ) (hh : wordy h ≡ true) (hu : u < 2) (hn : rn < 16) (hd : rd < 16) (hx : n < 2 ^ 12) where
  abbrev said : Bool → List ℕ
  said by = spell (transfer_pieces h p rn rd (offset_lead form by u) (offset form pc by p u w rn n))

  at_offset : (by : Bool) → from_word 3 (said by) ≡ spell (offset form pc by p u w rn n)
  at_offset by = transfer_offset h p rn rd (offset_seen form pc by p u w rn n) hh hn hd

  minus_said : (by : Bool) → has 45 (said by) ≡ negative form by u
  minus_said by = transfer_minus h p rn rd (offset_seen form pc by p u w rn n) hh hn hd

  number_word : word (from_word 3 (said true)) ≡ dec (size form u n)
  number_word = rw (at_offset true) (first_word (offset form pc true p u w rn n) (offset_seen form pc true p u w rn n).whole)

  number_value : value 10 (word (from_word 3 (said true))) ≡ size form u n
  number_value = rw number_word (dec_back (size form u n) (size_small form u n hx))

  pub number_says : is_number (word (from_word 3 (said true))) ≡ true
  number_says = rw number_word (dec_first (size form u n))

  pub number_added : (z : Bool) → flag (added_in form z (said true)) ≡ shown_u form z u n
  number_added z = rw (number_value, minus_said true) (sized form z u n hu hx).added

  pub number_size : (z : Bool) → size_in form z (said true) ≡ n
  number_size z = rw (number_value, minus_said true) (sized form z u n hu hx).sized

  register_first : first_of (offset form pc false p u w rn n) ≡ reg_string (bit_range n 0 4)
  register_first = by_test (eqb p 1) (λ e. rw e (ended_first 0 (shift_pieces form n) (closing w) ∙ shift_first form n)) (λ e. rw e (shift_first form n))

  register_word : word (from_word 3 (said false)) ≡ reg_string (bit_range n 0 4)
  register_word = rw (at_offset false) (first_word (offset form pc false p u w rn n) (offset_seen form pc false p u w rn n).whole ∙ register_first)

  pub register_says : is_number (word (from_word 3 (said false))) ≡ false
  register_says = rw register_word (reg_letter (bit_range n 0 4) (omega arith))

  pub register_added_lem : register_added (said false) ≡ u * 2 ^ 23
  register_added_lem =
      rw (minus_said false)
      (by_test (eqb u 1) (λ e. let y = eqb-true u 1 e in rw e (omega arith)) (λ e. let y = eqb-false u 1 e in rw e (omega arith)))

  pub register_named : reg_in 3 (said false) ≡ bit_range n 0 4
  register_named = rw register_word (reg_back (bit_range n 0 4) (omega arith))

  pub register_shifted : shifted_of (from_word 3 (said false)) ≡ shift_least n
  unfolding is_word
  register_shifted =
      rw (at_offset false)
      (by_test (eqb p 1)
      (λ e. rw e (shifted_ended (shift_pieces form n) (closing w) (shift_good form n) (by_test (eqb w 1) (λ f. rw f) (λ f. rw f)) ∙ shifted_back form n hx))
      (λ e. rw e (shifted_back form n hx)))

-- ---- what a line does not show
pub number_same : (form : Form) (z : Bool) (pc p u w rn n : ℕ) → let v = shown_u form z u n in
    (offset_lead form true v ≡ offset_lead form true u) × (offset form pc true p v w rn n ≡ offset form pc true p u w rn n)
number_same Bench z pc p u w rn n =
    by_test (eqb n 0)
    (λ e. let y : n ≡ 0 = eqb-true n 0 e in
    let a : signed u 0 ≡ 0 = by_test (eqb u 1) (λ f. rw f) (λ f. rw f) in
    let b : signed (flag z) 0 ≡ 0 = by_test z (λ f. rw f) (λ f. rw f) in
    rw (y, a, b) (refl, refl))
    (λ e. rw e (refl, refl))
number_same Sheet z pc p u w rn n = (refl, refl)
