-- The scheme of all kinds: which digits make a word of a kind, what a kind says of a word's digits, and what a line does not show. Assumes nothing.
use Prim.Native.Nat.{◌%◌, ◌*◌, ◌+◌, ◌/◌, ◌<◌, ◌^◌, ◌≤◌, ℕ}
use borrow.Author.Tests.{eq-eqb, eqb-true}
use lib.Dec.{T, eqb}
use mathlib.Core.Bool.{Bool, cond, false, not, true}
use mathlib.Core.List.{List, [], ◌∷◌}
use mathlib.Core.Logic.{◌⊎◌, ⊎_elim}
use mathlib.Core.Path.{◌∙◌, ◌≡◌, ap, refl, subst, sym}
use native.Mathlib.Nat.{div-div-eq-div-mul}
use native.Mathlib.Omega.{arith}
use Rattle.arm.specs.Kinds.{arm_format, arm_number, arm_row_at, arm_rows}
use Rattle.arm7tdmi.specs.declared.Form.{Form}
use Rattle.arm7tdmi.specs.declared.Form.TheVariants.{Bench, Sheet}
use Rattle.arm.specs.declared.ArmFormat.{ArmFormat}
use Rattle.arm7tdmi.specs.declared.kinds.Row.{Row}
use Rattle.common.proofs.Tests.{at, by_test}
use Rattle.words.proofs.Digits.{Digits, at_row, digits, num_digits, says, says_met}
use Rattle.words.proofs.Match.{Met, Misses, Says, SaysOr, num, within}
use Rattle.arm.specs.declared.ArmFormat.TheVariants as A

-- ---- words by their digits
-- eight digits, highest first, as a word is written
abbrev pub hex : ℕ → ℕ → ℕ → ℕ → ℕ → ℕ → ℕ → ℕ → List ℕ
hex d7 d6 d5 d4 d3 d2 d1 d0 = d0 ∷ d1 ∷ d2 ∷ d3 ∷ d4 ∷ d5 ∷ d6 ∷ d7 ∷ []

-- what holds of each word that is given by its digits holds of each word
pub by_digits : (P : ℕ → Type 0) → ((d7 d6 d5 d4 d3 d2 d1 d0 : ℕ) → Digits (hex d7 d6 d5 d4 d3 d2 d1 d0) → P (num (hex d7 d6 d5 d4 d3 d2 d1 d0))) → (w : ℕ) → w < 2 ^ 32 → P w
by_digits P f w h =
    let e : hex (w / 2 ^ 28 % 16) (w / 2 ^ 24 % 16) (w / 2 ^ 20 % 16) (w / 2 ^ 16 % 16) (w / 2 ^ 12 % 16) (w / 2 ^ 8 % 16) (w / 2 ^ 4 % 16) (w % 16) ≡ digits 8 w =
    simp div-div-eq-div-mul in
    subst P (ap num e ∙ num_digits 8 w h) (f _ _ _ _ _ _ _ _ (omega arith))

-- a digit is its four bits
four_bits : (d : ℕ) → d < 16 → d / 8 * 8 + d / 4 % 2 * 4 + d / 2 % 2 * 2 + d % 2 ≡ d
four_bits d h = eqb-true _ _ (at (λ d. eqb (d / 8 * 8 + d / 4 % 2 * 4 + d / 2 % 2 * 2 + d % 2) d) 16 refl d h)

-- and what omega does not find of its parts
pub record Nibble (x y z t : ℕ) : Type 0 where
  pub bound : (x < 2) × (y < 2) × (z < 2) × (t < 2)
  pub low : (x * 8 + y * 4 + z * 2 + t) % 4 ≡ z * 2 + t
  pub mid : (x * 8 + y * 4 + z * 2 + t) / 4 % 2 ≡ y

pub nibble : (x y z t : ℕ) → (x < 2) × (y < 2) × (z < 2) × (t < 2) → Nibble x y z t
nibble x y z t h =
    let m : (x * 8 + y * 4 + z * 2 + t) / 4 ≡ x * 2 + y = omega arith in
    record { bound = h; low = omega arith; mid = rw m (omega arith) }

-- ---- the rows of a form
abbrev mask : Row ArmFormat → ℕ
mask r = r.mask

abbrev value : Row ArmFormat → ℕ
value r = r.value

abbrev kind : Row ArmFormat → ArmFormat
kind r = r.kind

-- what row n says of digits
abbrev pub At : ℕ → List ℕ → Form → Type 0
At n ds form = Met ds (arm_row_at form n).mask (arm_row_at form n).value

-- the value of row n is within its mask
abbrev pub Within : ℕ → List ℕ → Form → Type 0
Within n ds form = T (within ds (arm_row_at form n).mask (arm_row_at form n).value)

-- digits meet row n, and no row before it
pub record Meets (n : ℕ) (ds : List ℕ) (form : Form) : Type 0 where
  pub before : Misses mask value n (arm_rows form) ds
  pub row : At n ds form
  pub fits : Within n ds form

-- a word with such digits has the row's kind
pub kind_in : (form : Form) (n w : ℕ) (ds : List ℕ) → (n < 15) × (num ds ≡ w) × Digits ds → Meets n ds form → arm_format form w ≡ (arm_row_at form n).kind
unfolding arm_rows
kind_in form n w ds (l, q, h) m =
    ap (arm_format form) (sym q)
    ∙ at_row mask value kind A.Undefined (record { mask = 0; value = 0; kind = A.Undefined }) n (arm_rows form) ds h l m.before m.fits m.row

-- and in both forms
pub kind_of : (form : Form) (n w : ℕ) (ds : List ℕ) → (n < 15) × (num ds ≡ w) × Digits ds → Meets n ds Bench → Meets n ds Sheet → arm_format form w ≡ (arm_row_at form n).kind
kind_of Bench n w ds h b s = kind_in Bench n w ds h b
kind_of Sheet n w ds h b s = kind_in Sheet n w ds h s

-- ---- what a kind says of a word
abbrev Kind : Form → ArmFormat → List ℕ → Type 0
Kind form k ds = Says mask value kind A.Undefined arm_number (arm_number k) (arm_rows form) ds

kind_says : (form : Form) (k : ArmFormat) (ds : List ℕ) → Digits ds → arm_format form (num ds) ≡ k → Kind form k ds
kind_says form k ds h e = subst (λ (j : ArmFormat). Kind form j ds) e (says mask value kind A.Undefined arm_number (arm_rows form) ds h)

-- one that meets row n, and so some row, is of the kind of a row
abbrev KindMet : Form → ArmFormat → List ℕ → Type 0
KindMet form k ds = SaysOr mask value kind A.Undefined arm_number (λ i. ⊥) (arm_number k) (arm_rows form) ds

pub met_says : (form : Form) (k : ArmFormat) (n : ℕ) (ds : List ℕ) → n < 15 → Digits ds → Within n ds form → At n ds form → arm_format form (num ds) ≡ k → KindMet form k ds
unfolding arm_rows
met_says form k n ds l h w a e =
    subst (λ (j : ArmFormat). KindMet form j ds) e
    (says_met mask value kind A.Undefined arm_number (record { mask = 0; value = 0; kind = A.Undefined }) n (arm_rows form) ds h l w a)

-- where one row alone has the kind
pub only : {A : Type 0} → A ⊎ ⊥ → A
only = ⊎_elim (λ a. a) (λ n. absurd n)

-- P, if the word is of the kind
abbrev pub Of : Form → ArmFormat → (ℕ → Type 0) → ℕ → Type 0
Of form k P w = arm_format form w ≡ k → P w

-- P of all words of the kind
abbrev pub Words : Form → ArmFormat → (ℕ → Type 0) → Type 0
Words form k P = (w : ℕ) → w < 2 ^ 32 → Of form k P w

-- P holds of all words of row n's kind, if it does of those whose digits meet the row; bits 23-20 are given one by one
module _ (form : Form) (n : ℕ) (P : ℕ → Type 0) where
  pub words : ((ds : List ℕ) → Kind form (arm_row_at form n).kind ds → At n ds form) →
      ((d7 d6 x y z t d4 d3 d2 d1 d0 : ℕ) → Nibble x y z t → Digits (hex d7 d6 (x * 8 + y * 4 + z * 2 + t) d4 d3 d2 d1 d0) → At n (hex d7 d6 (x * 8 + y * 4 + z * 2 + t) d4 d3 d2 d1 d0) form →
      Of form (arm_row_at form n).kind P (num (hex d7 d6 (x * 8 + y * 4 + z * 2 + t) d4 d3 d2 d1 d0))) →
      Words form (arm_row_at form n).kind P
  words o f =
      by_digits (Of form (arm_row_at form n).kind P) (λ d7 d6 d5 d4 d3 d2 d1 d0 h.
      subst (λ (d : ℕ). Digits (hex d7 d6 d d4 d3 d2 d1 d0) → Of form (arm_row_at form n).kind P (num (hex d7 d6 d d4 d3 d2 d1 d0))) (four_bits d5 (omega arith))
      (λ h e.
      let ds : List ℕ = hex d7 d6 (d5 / 8 * 8 + d5 / 4 % 2 * 4 + d5 / 2 % 2 * 2 + d5 % 2) d4 d3 d2 d1 d0 in
      f d7 d6 (d5 / 8) (d5 / 4 % 2) (d5 / 2 % 2) (d5 % 2) d4 d3 d2 d1 d0 (nibble _ _ _ _ (omega arith)) h (o ds (kind_says form (arm_row_at form n).kind ds h e)) e) h)

  -- P of a word is P of the same word made from fields
  pub made : {v w : ℕ} → Of form (arm_row_at form n).kind P v → v ≡ w → Of form (arm_row_at form n).kind P w
  made f q = subst (Of form (arm_row_at form n).kind P) q f

-- two kinds are not one
pub differ : (j k : ArmFormat) → j ≡ k → T (not (eqb (arm_number j) (arm_number k))) → ⊥
differ j k e t = subst (λ (b : Bool). T (not b)) (eq-eqb _ _ (ap arm_number e)) t

-- ---- what a line does not show
-- a word v in the place of w: its fields, that it is not higher, and its kind
pub record Least (F : Type 0) (form : Form) (k : ArmFormat) (v w : ℕ) : Type 0 where
  pub fields : F
  pub low : v ≤ w
  pub kind : arm_format form v ≡ k

-- a field as far as it is shown
abbrev pub shown : Bool → ℕ → ℕ
shown b n = cond b n 0

pub shown_low : (b : Bool) (n : ℕ) → shown b n ≤ n
shown_low b n = by_test b (λ e. rw e (omega arith)) (λ e. rw e (omega arith))

-- the form is the bench's
abbrev pub bench : Form → Bool
bench Bench = true
bench Sheet = false
