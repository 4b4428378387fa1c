-- What a candidate has to be of a word, and the candidate that is a word of a kind. Assumes nothing.
use Rattle.thumb_words.proofs.Parts.{word as made, Fits}
use Prim.Native.Nat.{◌+◌, ◌<◌, ◌^◌, ◌≤◌, suc, zero, ℕ}
use borrow.Author.Tests.{eqb-true, ltb-true}
use lib.Dec.{T, eqb, ltb}
use lib.ListN.{get_or, length, set}
use mathlib.Core.Bool.{Bool, ◌&&◌, cond, true}
use mathlib.Core.List.{List, [], ◌∷◌}
use mathlib.Core.Logic.{inl, inr}
use mathlib.Core.Path.{◌∙◌, ◌≡◌, ap, refl, sym}
use native.Mathlib.Nat.{le_of_suc-le-suc, le_refl, mod-eq_of_lt, not-suc-le-zero}
use Rattle.lines.specs.Answer.{line}
use Rattle.thumb.specs.Kinds.{thumb_format, thumb_number}
use Rattle.arm7tdmi.specs.declared.Form.{Form}
use Rattle.thumb.specs.declared.ThumbFormat.{ThumbFormat}
use Rattle.common.proofs.Lists.{same_eq, same_refl}
use Rattle.common.proofs.Tests.{and_left, and_right, at, by_test, every}
use Rattle.common.specs.Lists.{first, same}
use Rattle.reading.proofs.Demand.{line_is}
use Rattle.reading.proofs.Pieces.{Pieces, first_word, first_of, good, spell}
use Rattle.reading.proofs.Several.{Covers}
use Rattle.reading.specs.Read.{is_line}
use Rattle.text.proofs.Word.{wordy}
use Rattle.text.specs.Word.{word}
use Rattle.thumb_disass.specs.Line.{line_of}
use Rattle.thumb_print.specs.Print.{thumb_line}
use Rattle.thumb_mnemonic.specs.Rows.{Row, no_row, row_at, rows}
use Rattle.thumb_candidate.specs.Candidate.{candidate, candidates, candidates_from, operands, suits}
use Rattle.thumb_words.proofs.Laws.{NoHigher, parts, same_kind, thumb_kind, thumb_small}

-- a text where a bit is set, and another where it is clear
abbrev pub pick : ℕ → List ℕ → List ℕ → List ℕ
pick n set clear = cond (eqb n 1) set clear

-- ---- the rows
pub rows_many : length rows ≡ 70
unfolding rows
rows_many = refl

-- a row has the mnemonic m with the word b, which is of kind k
pub record Mnemonic (k : ThumbFormat) (m : List ℕ) (b : ℕ) : Type 0 where
  pub one_word : wordy m ≡ true
  pub index : ℕ
  pub there : index < 70
  pub name : (row_at index).name ≡ m
  pub bits : (row_at index).bits ≡ b
  pub kind : (row_at index).kind ≡ k

-- as a test: where b stands
abbrev place_of : ℕ → ℕ
place_of b = first (λ (r : Row). eqb r.bits b) rows

module _ (k : ThumbFormat) where
  abbrev is_kind : ℕ → Bool
  is_kind i = eqb (thumb_number (row_at i).kind) (thumb_number k)

  abbrev pub is_row : List ℕ → ℕ → Bool
  is_row m b = (wordy m && ltb (place_of b) 70) && (same (row_at (place_of b)).name m && (eqb (row_at (place_of b)).bits b && is_kind (place_of b)))

  pub row_is : (m : List ℕ) (b : ℕ) → is_row m b ≡ true → Mnemonic k m b
  row_is m b e =
      let i = place_of b in
      let p = and_left (wordy m && ltb i 70) (same (row_at i).name m && (eqb (row_at i).bits b && is_kind i)) e in
      let q = and_right (wordy m && ltb i 70) (same (row_at i).name m && (eqb (row_at i).bits b && is_kind i)) e in
      let r = and_right (same (row_at i).name m) (eqb (row_at i).bits b && is_kind i) q in
      record {
        one_word = and_left (wordy m) (ltb i 70) p;
        index = i;
        there = ltb-true i 70 (and_right (wordy m) (ltb i 70) p);
        name = same_eq (row_at i).name m (and_left (same (row_at i).name m) (eqb (row_at i).bits b && is_kind i) q);
        bits = eqb-true (row_at i).bits b (and_left (eqb (row_at i).bits b) (is_kind i) r);
        kind = same_kind (row_at i).kind k (eqb-true _ _ (and_right (eqb (row_at i).bits b) (is_kind i) r));
      }

  -- the rows of a kind, by one field that its mnemonics show, or by two
  pub rows_are : (n : ℕ) (m : ℕ → List ℕ) (b : ℕ → ℕ) → every (λ x. is_row (m x) (b x)) n ≡ true → (x : ℕ) → x < n → Mnemonic k (m x) (b x)
  rows_are n m b e x h = row_is (m x) (b x) (at (λ x. is_row (m x) (b x)) n e x h)

  pub rows_are₂ : (l n : ℕ) (m : ℕ → ℕ → List ℕ) (b : ℕ → ℕ → ℕ) → every (λ x. every (λ y. is_row (m x y) (b x y)) n) l ≡ true →
      (x y : ℕ) → x < l → y < n → Mnemonic k (m x y) (b x y)
  rows_are₂ l n m b e x y h g = rows_are n (m x) (b x) (at (λ x. every (λ y. is_row (m x y) (b x y)) n) l e x h) y g

-- ---- what each word is to have: a row whose mnemonic begins the word's line t, and whose candidate for t is no higher and has the same line
pub record Found (form : Form) (pc w : ℕ) (t : List ℕ) : Type 0 where
  pub index : ℕ
  pub there : index < 70
  pub begins : (row_at index).name ≡ word t
  pub suited : suits (row_at index).kind t ≡ true
  pub low : candidate form pc t (row_at index).kind (row_at index).bits ≤ w
  pub same_line : thumb_line form pc (candidate form pc t (row_at index).kind (row_at index).bits) ≡ thumb_line form pc w

-- it is covered then
covers_at : (p : ℕ → Bool) (form : Form) (pc w : ℕ) (l : List ℕ) (d : Row) (rs : List Row) (i : ℕ) → i < length rs → (get_or rs i d).name ≡ word l → suits (get_or rs i d).kind l ≡ true →
    candidate form pc l (get_or rs i d).kind (get_or rs i d).bits ≤ w → p (candidate form pc l (get_or rs i d).kind (get_or rs i d).bits) ≡ true →
    Covers p (2 ^ 16) w (candidates_from form pc l rs)
covers_at p form pc w l d [] i h e u c t = absurd (not-suc-le-zero h)
covers_at p form pc w l d (r ∷ rs) zero h e u c t = let s : same r.name (word l) ≡ true = rw e (same_refl (word l)) in rw (s, u) (inl (c, t))
covers_at p form pc w l d (r ∷ rs) (suc i) h e u c t =
    let ih = covers_at p form pc w l d rs i (le_of_suc-le-suc h) e u c t in
    by_test (same r.name (word l) && suits r.kind l) (λ s. rw s (inr ih)) (λ s. rw s ih)

pub found_covers : (form : Form) (pc w : ℕ) (l : List ℕ) → thumb_line form pc w ≡ line l → Found form pc w l → Covers (λ c. is_line (thumb_line form pc c) l) (2 ^ 16) w (candidates form pc l)
unfolding candidates
found_covers form pc w l e f =
    covers_at (λ c. is_line (thumb_line form pc c) l) form pc w l no_row rows f.index (rw rows_many f.there) f.begins f.suited f.low
    (line_is (thumb_line form pc (candidate form pc l (row_at f.index).kind (row_at f.index).bits)) l (f.same_line ∙ e))

-- ---- a candidate that is the word of a kind's fields xs, for the line of the word of fields ys
module _ (form : Form) (pc : ℕ) (k : ThumbFormat) (d : T (ltb (thumb_number k) 19)) where
  abbrev pub Law : ℕ → Type 0
  Law w = Found form pc w (line_of form k pc w)

  of_kind : (w : ℕ) → thumb_format form w ≡ k → thumb_line form pc w ≡ line (line_of form k pc w)
  unfolding thumb_line
  of_kind w e = rw e

  module _ (xs ys : List ℕ) (f : Fits (parts form k) ys) (n : NoHigher form k xs ys) (t : List ℕ) (b : ℕ)
      (back : b + operands k b form pc t ≡ made (parts form k) xs)
      (shown : line_of form k pc (made (parts form k) ys) ≡ t) (alike : line_of form k pc (made (parts form k) xs) ≡ t) where
    is_made : candidate form pc t k b ≡ made (parts form k) xs
    unfolding candidate
    is_made = rw back (mod-eq_of_lt (thumb_small form k d xs n.fits))

    pub found_at : (i : ℕ) → i < 70 → (row_at i).name ≡ word t → (row_at i).bits ≡ b → (row_at i).kind ≡ k → suits k t ≡ true → Law (made (parts form k) ys)
    found_at i h m r e u =
        let c : candidate form pc t (row_at i).kind (row_at i).bits ≡ made (parts form k) xs = rw (r, e) is_made in
        rw shown (record {
          index = i;
          there = h;
          begins = m;
          suited = rw e u;
          low = rw c n.at_most;
          same_line = rw c (of_kind (made (parts form k) xs) n.kind ∙ ap line (alike ∙ sym shown) ∙ sym (of_kind (made (parts form k) ys) (thumb_kind form k d ys f)));
        })

  -- the same where the line is given by its pieces
  pub found : (xs ys : List ℕ) → Fits (parts form k) ys → NoHigher form k xs ys → (ps : Pieces) (b : ℕ) → Mnemonic k (first_of ps) b → good ps ≡ true →
      b + operands k b form pc (spell ps) ≡ made (parts form k) xs → line_of form k pc (made (parts form k) ys) ≡ spell ps → line_of form k pc (made (parts form k) xs) ≡ spell ps →
      suits k (spell ps) ≡ true → Law (made (parts form k) ys)
  found xs ys f n ps b m g back shown alike u = found_at xs ys f n (spell ps) b back shown alike m.index m.there (m.name ∙ sym (first_word ps g)) m.bits m.kind u

  -- and where the line shows all fields
  itself : (xs : List ℕ) → Fits (parts form k) xs → NoHigher form k xs xs
  itself xs f = record { fits = f; at_most = le_refl (made (parts form k) xs); kind = thumb_kind form k d xs f }

  pub exact : (xs : List ℕ) → Fits (parts form k) xs → (ps : Pieces) (b : ℕ) → Mnemonic k (first_of ps) b → good ps ≡ true →
      b + operands k b form pc (spell ps) ≡ made (parts form k) xs → line_of form k pc (made (parts form k) xs) ≡ spell ps → suits k (spell ps) ≡ true → Law (made (parts form k) xs)
  exact xs f ps b m g back shown =
      found xs xs f (itself xs f) ps b m g back shown shown

  -- a line that begins with no word, and shows all fields
  pub whole_found : (xs : List ℕ) → Fits (parts form k) xs → (t : List ℕ) (b : ℕ) → b + operands k b form pc t ≡ made (parts form k) xs → line_of form k pc (made (parts form k) xs) ≡ t →
      (i : ℕ) → i < 70 → (row_at i).name ≡ word t → (row_at i).bits ≡ b → (row_at i).kind ≡ k → suits k t ≡ true → Law (made (parts form k) xs)
  whole_found xs f t b back shown = found_at xs xs f (itself xs f) t b back shown shown

  -- what is to be shown of each kind
  abbrev pub Words : Type 0
  Words = (w : ℕ) → w < 2 ^ 16 → thumb_format form w ≡ k → Law w
