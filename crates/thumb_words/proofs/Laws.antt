-- The kinds of Thumb words and the parts that their words are put together from: one table, one test of all top bytes, and laws for all kinds. Assumes nothing.
use Prim.Native.Nat.{◌%◌, ◌*◌, ◌+◌, ◌/◌, ◌<◌, ◌^◌, ◌≤◌, ℕ}
use borrow.Author.Tests.{eq-eqb, eqb-true}
use lib.Bits.{and_mod, and_shr, and_zero_r, bit_and}
use lib.Dec.{T, eqb, ltb, ltb→lt}
use lib.ListN.{get_or}
use lib.Pow.{shl-shr, split}
use mathlib.Core.Bool.{Bool, ◌&&◌, cond, false, not, true}
use mathlib.Core.List.{List, [], ◌∷◌}
use mathlib.Core.Path.{◌∙◌, ◌≡◌, ap, ap₂, refl, subst, sym}
use native.Mathlib.Nat.{mod-eq_of_lt}
use native.Mathlib.Omega.{arith}
use Rattle.arm7tdmi.specs.Kinds.{first_match}
use Rattle.thumb.specs.Kinds.{thumb_format, thumb_number, thumb_rows}
use Rattle.arm7tdmi.specs.declared.Form.{Form}
use Rattle.arm7tdmi.specs.declared.Form.TheVariants.{Bench, Sheet}
use Rattle.arm7tdmi.specs.declared.kinds.Row.{Row}
use Rattle.thumb.specs.declared.ThumbFormat.{ThumbFormat}
use Rattle.thumb.specs.declared.ThumbFormat.TheVariants as H
use Rattle.common.proofs.Tests.{and_left, and_right, at, every}
use Rattle.thumb_words.proofs.Parts.{Below, Each, Fits, Part, Shaped, bits, cut, each, field, fits_cut, fixed, free, lower, reads, shaped_tops, sound, tops, tops_shaped, word, word_cut, word_lt}

-- ---- a kind goes by the top byte
-- a mask with no bit below s sees the bits from s on alone
seen : (s w m : ℕ) → m % 2 ^ s ≡ 0 → bit_and w m ≡ bit_and (w / 2 ^ s) (m / 2 ^ s) * 2 ^ s + 0
seen s w m e =
    sym (split (bit_and w m) s)
    ∙ ap₂ (λ (a b : ℕ). a * 2 ^ s + b) (and_shr w m s) (and_mod w m s ∙ ap (bit_and (w % 2 ^ s)) e ∙ and_zero_r (w % 2 ^ s))

high_alone : (s w m : ℕ) → m % 2 ^ s ≡ 0 → bit_and w m ≡ bit_and (w / 2 ^ s * 2 ^ s) m
high_alone s w m e =
    seen s w m e ∙ ap (λ (a : ℕ). bit_and a (m / 2 ^ s) * 2 ^ s + 0) (sym (shl-shr (w / 2 ^ s) s)) ∙ sym (seen s (w / 2 ^ s * 2 ^ s) m e)

module _ {R K : Type 0} (mask value : R → ℕ) (kind : R → K) (other : K) (s : ℕ) where
  -- no mask has a bit below s
  abbrev pub High : List R → Type 0
  High [] = Unit {0}
  High (r ∷ rs) = (mask r % 2 ^ s ≡ 0) × High rs

  pub first_high : (rs : List R) (w : ℕ) → High rs → first_match mask value kind other rs w ≡ first_match mask value kind other rs (w / 2 ^ s * 2 ^ s)
  first_high [] w h = refl
  first_high (r ∷ rs) w (h, hs) =
      ap₂ (λ (x : ℕ) (k : K). cond (eqb x (value r)) (kind r) k) (high_alone s w (mask r) h) (first_high rs w hs)

pub thumb_top : (form : Form) (w : ℕ) → thumb_format form w ≡ thumb_format form (w / 2 ^ 8 * 2 ^ 8)
unfolding thumb_rows
thumb_top form w = first_high (λ (r : Row ThumbFormat). r.mask) (λ (r : Row ThumbFormat). r.value) (λ (r : Row ThumbFormat). r.kind) H.Undefined 8 (thumb_rows form) w (omega arith)

-- what is tested of all top bytes holds of each word's
pub at_top : (f : ℕ → Bool) → every f 256 ≡ true → (w : ℕ) → w < 2 ^ 16 → f (w / 2 ^ 8) ≡ true
at_top f e w h = at f 256 e (w / 2 ^ 8) (omega arith)

-- ---- the table
-- the conditions of a branch: not 15, which is Swi; on the sheet not 14 (S7)
abbrev pub conditions : Form → ℕ
conditions Bench = 15
conditions Sheet = 14

-- each kind with its words' parts from the highest bits down, in the order of the kinds' numbers; module Words names the fields
abbrev pub thumb_parts : Form → List (ThumbFormat × List Part)
thumb_parts form =
    (H.MoveShiftedReg, fixed 3 0b000 ∷ field 2 3 ∷ free 5 ∷ free 3 ∷ free 3 ∷ []) ∷
    (H.AddSub, fixed 5 0b00011 ∷ free 1 ∷ free 1 ∷ free 3 ∷ free 3 ∷ free 3 ∷ []) ∷
    (H.DataProcessImm, fixed 3 0b001 ∷ free 2 ∷ free 3 ∷ free 8 ∷ []) ∷
    (H.AluOps, fixed 6 0b010000 ∷ free 4 ∷ free 3 ∷ free 3 ∷ []) ∷
    (H.HiRegOpOrBranchExchange, fixed 6 0b010001 ∷ free 2 ∷ free 1 ∷ free 1 ∷ free 3 ∷ free 3 ∷ []) ∷
    (H.LdrPc, fixed 5 0b01001 ∷ free 3 ∷ free 8 ∷ []) ∷
    (H.LdrStrRegOffset, fixed 4 0b0101 ∷ free 1 ∷ free 1 ∷ fixed 1 0 ∷ free 3 ∷ free 3 ∷ free 3 ∷ []) ∷
    (H.LdrStrSHB, fixed 4 0b0101 ∷ free 1 ∷ free 1 ∷ fixed 1 1 ∷ free 3 ∷ free 3 ∷ free 3 ∷ []) ∷
    (H.LdrStrImmOffset, fixed 3 0b011 ∷ free 1 ∷ free 1 ∷ free 5 ∷ free 3 ∷ free 3 ∷ []) ∷
    (H.LdrStrHalfWord, fixed 4 0b1000 ∷ free 1 ∷ free 5 ∷ free 3 ∷ free 3 ∷ []) ∷
    (H.LdrStrSp, fixed 4 0b1001 ∷ free 1 ∷ free 3 ∷ free 8 ∷ []) ∷
    (H.LoadAddress, fixed 4 0b1010 ∷ free 1 ∷ free 3 ∷ free 8 ∷ []) ∷
    (H.AddSp, fixed 8 0b10110000 ∷ free 1 ∷ free 7 ∷ []) ∷
    (H.PushPop, fixed 4 0b1011 ∷ free 1 ∷ fixed 2 0b10 ∷ free 1 ∷ free 8 ∷ []) ∷
    (H.LdmStm, fixed 4 0b1100 ∷ free 1 ∷ free 3 ∷ free 8 ∷ []) ∷
    (H.BranchConditional, fixed 4 0b1101 ∷ field 4 (conditions form) ∷ free 8 ∷ []) ∷
    (H.Swi, fixed 8 0b11011111 ∷ free 8 ∷ []) ∷
    (H.Branch, fixed 5 0b11100 ∷ free 11 ∷ []) ∷
    (H.BranchLongWithLink, fixed 4 0b1111 ∷ free 1 ∷ free 11 ∷ []) ∷
    []

abbrev entry : Form → ℕ → ThumbFormat × List Part
entry form n = get_or (thumb_parts form) n (H.Undefined, [])

abbrev pub parts : Form → ThumbFormat → List Part
parts form k = (entry form (thumb_number k)).1

-- a kind is that of its number
numbered : (form : Form) (k : ThumbFormat) → (entry form (thumb_number k)).0 ≡ k
numbered form H.MoveShiftedReg = refl
numbered form H.AddSub = refl
numbered form H.DataProcessImm = refl
numbered form H.AluOps = refl
numbered form H.HiRegOpOrBranchExchange = refl
numbered form H.LdrPc = refl
numbered form H.LdrStrRegOffset = refl
numbered form H.LdrStrSHB = refl
numbered form H.LdrStrImmOffset = refl
numbered form H.LdrStrHalfWord = refl
numbered form H.LdrStrSp = refl
numbered form H.LoadAddress = refl
numbered form H.AddSp = refl
numbered form H.PushPop = refl
numbered form H.LdmStm = refl
numbered form H.BranchConditional = refl
numbered form H.Swi = refl
numbered form H.Branch = refl
numbered form H.BranchLongWithLink = refl
numbered form H.Undefined = refl

pub same_kind : (j k : ThumbFormat) → thumb_number j ≡ thumb_number k → j ≡ k
same_kind j k e = sym (numbered Bench j) ∙ ap (λ (n : ℕ). (entry Bench n).0) e ∙ numbered Bench k

-- each row has 16 bits and speaks of the top byte alone
sound_row : Form → ℕ → Bool
sound_row form n = eqb (bits (entry form n).1) 16 && sound 8 (entry form n).1

sound_rows : (form : Form) → every (sound_row form) 19 ≡ true
unfolding sound_row
sound_rows Bench = refl
sound_rows Sheet = refl

-- a top byte has the shape of the parts of its kind, and of no other
abbrev pub equal : Bool → Bool → Bool
equal a b = cond a b (not b)

pub equal_is : (a b : Bool) → equal a b ≡ true → a ≡ b
equal_is true true e = refl
equal_is true false e = sym e
equal_is false true e = e
equal_is false false e = refl

right_number : Form → ℕ → ℕ → ℕ → Bool
right_number form t c n = equal (eqb c n) (tops 8 (entry form n).1 t)

right : Form → ℕ → ℕ → Bool
right form t c = every (right_number form t c) 19

right_top : Form → ℕ → Bool
right_top form t = right form t (thumb_number (thumb_format form (t * 2 ^ 8)))

right_tops : (form : Form) → every (right_top form) 256 ≡ true
unfolding right_top right right_number thumb_rows
right_tops Bench = refl
right_tops Sheet = refl

-- xs are fields of a kind whose word is no higher than that of ys
pub record NoHigher (form : Form) (k : ThumbFormat) (xs ys : List ℕ) : Type 0 where
  pub fits : Fits (parts form k) xs
  pub at_most : word (parts form k) xs ≤ word (parts form k) ys
  pub kind : thumb_format form (word (parts form k) xs) ≡ k

-- ---- the laws, for each kind but Undefined
module _ (form : Form) (k : ThumbFormat) (d : T (ltb (thumb_number k) 19)) where
  abbrev ps : List Part
  ps = parts form k

  row : sound_row form (thumb_number k) ≡ true
  row = at (sound_row form) 19 (sound_rows form) (thumb_number k) (ltb→lt (thumb_number k) 19 d)

  sixteen : bits ps ≡ 16
  unfolding sound_row
  sixteen = eqb-true (bits ps) 16 (and_left (eqb (bits ps) 16) (sound 8 ps) row)

  is_sound : sound 8 ps ≡ true
  unfolding sound_row
  is_sound = and_right (eqb (bits ps) 16) (sound 8 ps) row

  by_top : (w : ℕ) → w < 2 ^ 16 → eqb (thumb_number (thumb_format form w)) (thumb_number k) ≡ tops 8 ps (w / 2 ^ 8)
  unfolding right_top right right_number
  by_top w h =
      let c : ℕ = thumb_number (thumb_format form (w / 2 ^ 8 * 2 ^ 8)) in
      let all : right_top form (w / 2 ^ 8) ≡ true = at_top (right_top form) (right_tops form) w h in
      let one : right_number form (w / 2 ^ 8) c (thumb_number k) ≡ true = at (right_number form (w / 2 ^ 8) c) 19 all (thumb_number k) (ltb→lt (thumb_number k) 19 d) in
      ap (λ (j : ThumbFormat). eqb (thumb_number j) (thumb_number k)) (thumb_top form w) ∙ equal_is (eqb c (thumb_number k)) (tops 8 ps (w / 2 ^ 8)) one

  module _ (xs : List ℕ) (f : Fits (parts form k) xs) where
    -- a word of fields is a word
    pub thumb_small : word (parts form k) xs < 2 ^ 16
    thumb_small = subst (λ (n : ℕ). word ps xs < 2 ^ n) sixteen (word_lt 8 ps xs is_sound f)

    back : (cut ps (word ps xs) ≡ xs) × Shaped ps (word ps xs)
    back = reads 8 ps xs (word ps xs) is_sound f (mod-eq_of_lt (word_lt 8 ps xs is_sound f))

    -- its fields read back: field n
    pub thumb_read_lem : (n : ℕ) → get_or (cut (parts form k) (word (parts form k) xs)) n 0 ≡ get_or xs n 0
    thumb_read_lem n = ap (λ (l : List ℕ). get_or l n 0) back.0

    -- it has the kind
    pub thumb_kind : thumb_format form (word (parts form k) xs) ≡ k
    thumb_kind =
        let e : eqb (thumb_number (thumb_format form (word ps xs))) (thumb_number k) ≡ true = by_top (word ps xs) thumb_small ∙ shaped_tops 8 ps (word ps xs) back.1 in
        same_kind (thumb_format form (word ps xs)) k (eqb-true (thumb_number (thumb_format form (word ps xs))) (thumb_number k) e)

  -- each word of the kind is the word of its fields
  pub thumb_cut : (w : ℕ) → w < 2 ^ 16 → thumb_format form w ≡ k → Fits (parts form k) (cut (parts form k) w) × (word (parts form k) (cut (parts form k) w) ≡ w)
  thumb_cut w h e =
      let shaped : Shaped ps w = tops_shaped 8 ps w is_sound (sym (by_top w h) ∙ eq-eqb (thumb_number (thumb_format form w)) (thumb_number k) (ap thumb_number e)) in
      (fits_cut ps w shaped, word_cut ps w shaped ∙ ap (λ (n : ℕ). w % 2 ^ n) sixteen ∙ mod-eq_of_lt h)

  -- so what holds of all words of fields, whose kind this is, holds of all words of the kind; for AddSub f is `λ i op rn rs rd fits kind. ..`
  pub thumb_words : (P : ℕ → Type 0) → Each (parts form k) (λ xs. Fits (parts form k) xs → thumb_format form (word (parts form k) xs) ≡ k → P (word (parts form k) xs)) →
      (w : ℕ) → w < 2 ^ 16 → thumb_format form w ≡ k → P w
  thumb_words P f w h e =
      let c = thumb_cut w h e in
      subst P c.1 (each ps (λ xs. Fits ps xs → thumb_format form (word ps xs) ≡ k → P (word ps xs)) f w c.0 (thumb_kind (cut ps w) c.0))

  -- with fields that are no higher, as where bits that no line shows are cleared, the word is no higher, and of the kind
  pub thumb_lower : (xs ys : List ℕ) → Below xs ys → Fits (parts form k) ys → NoHigher form k xs ys
  thumb_lower xs ys b f = let l = lower ps xs ys b f in record { fits = l.1; at_most = l.0; kind = thumb_kind xs l.1 }
