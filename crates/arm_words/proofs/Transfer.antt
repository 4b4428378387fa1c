-- Block and single transfers: words from fields. Assumes nothing.
use Prim.Native.Nat.{◌%◌, ◌*◌, ◌+◌, ◌/◌, ◌<◌, ◌^◌, ◌≤◌, ℕ}
use borrow.Author.Tests.{eqb-false, eqb-true}
use lib.Dec.{eqb}
use mathlib.Core.Bool.{Bool, ◌&&◌, not}
use mathlib.Core.List.{List}
use mathlib.Core.Path.{◌∙◌, ◌≡◌, sym}
use native.Mathlib.Omega.{arith}
use Rattle.arm.specs.Kinds.{arm_format, arm_rows}
use Rattle.arm7tdmi.specs.declared.Form.{Form}
use Rattle.arm7tdmi.specs.declared.Form.TheVariants.{Bench, Sheet}
use Rattle.arm_words.proofs.Scheme.{Least, Of, Words, bench, by_digits, differ, hex, kind_in, kind_of, made, only, shown, shown_low, words}
use Rattle.common.proofs.Tests.{by_test}
use Rattle.common.specs.Bits.{bit_range}
use Rattle.words.proofs.Match.{num}
use Rattle.arm.specs.declared.ArmFormat.TheVariants as A

-- ---- ldm and stm: all is shown
abbrev pub ldm_word : ℕ → ℕ → ℕ → ℕ → ℕ → ℕ → ℕ → ℕ → ℕ
ldm_word c p u s w l rn n = c * 2 ^ 28 + 2 ^ 27 + p * 2 ^ 24 + u * 2 ^ 23 + s * 2 ^ 22 + w * 2 ^ 21 + l * 2 ^ 20 + rn * 2 ^ 16 + n

pub record LdmFields (c p u s w l rn n : ℕ) : Type 0 where
  pub hc : c < 16
  pub hp : p < 2
  pub hu : u < 2
  pub hs : s < 2
  pub hw : w < 2
  pub hl : l < 2
  pub hrn : rn < 16
  pub hn : n < 2 ^ 16

module _ {c p u s w l rn n : ℕ} (f : LdmFields c p u s w l rn n) where
  pub ldm_read : let v = ldm_word c p u s w l rn n in
      (bit_range v 28 32 ≡ c) × (bit_range v 24 25 ≡ p) × (bit_range v 23 24 ≡ u) × (bit_range v 22 23 ≡ s) × (bit_range v 21 22 ≡ w) × (bit_range v 20 21 ≡ l) × (bit_range v 16 20 ≡ rn) × (bit_range v 0 16 ≡ n)
  ldm_read = omega arith

  pub ldm_kind : (form : Form) → arm_format form (ldm_word c p u s w l rn n) ≡ A.BlockDataTransfer
  unfolding arm_rows
  ldm_kind form =
      by_digits (λ (n : ℕ). n < 2 ^ 16 → arm_format form (ldm_word c p u s w l rn n) ≡ A.BlockDataTransfer) (λ d7 d6 d5 d4 d3 d2 d1 d0 h b.
      kind_of form 12 (ldm_word c p u s w l rn (num (hex d7 d6 d5 d4 d3 d2 d1 d0))) (hex c (8 + p) (u * 8 + s * 4 + w * 2 + l) rn d3 d2 d1 d0) (omega arith) (omega arith) (omega arith)) n (omega arith) f.hn

pub ldm_words : (form : Form) (P : ℕ → Type 0) → ((c p u s w l rn n : ℕ) → LdmFields c p u s w l rn n → Of form A.BlockDataTransfer P (ldm_word c p u s w l rn n)) → Words form A.BlockDataTransfer P
unfolding arm_rows
ldm_words form P f = words form 12 P (λ ds. only) (λ c d6 u s w l rn d3 d2 d1 d0 b h m. made form 12 P (f c (d6 % 2) u s w l rn (num (hex 0 0 0 0 d3 d2 d1 d0)) (omega arith)) (omega arith))

-- ---- ldr and str
abbrev pub ldr_word : ℕ → ℕ → ℕ → ℕ → ℕ → ℕ → ℕ → ℕ → ℕ → ℕ → ℕ
ldr_word c i p u b w l rn rd n = c * 2 ^ 28 + 2 ^ 26 + i * 2 ^ 25 + p * 2 ^ 24 + u * 2 ^ 23 + b * 2 ^ 22 + w * 2 ^ 21 + l * 2 ^ 20 + rn * 2 ^ 16 + rd * 2 ^ 12 + n

pub record LdrFields (c i p u b w l rn rd n : ℕ) : Type 0 where
  pub hc : c < 16
  pub hi : i < 2
  pub hp : p < 2
  pub hu : u < 2
  pub hb : b < 2
  pub hw : w < 2
  pub hl : l < 2
  pub hrn : rn < 16
  pub hrd : rd < 16
  pub hn : n < 2 ^ 12

-- bit 4 of a transfer by a register: set on the bench, clear on the sheet (S2)
abbrev pub four : Form → ℕ
four Bench = 1
four Sheet = 0

module _ {c i p u b w l rn rd n : ℕ} (f : LdrFields c i p u b w l rn rd n) where
  pub ldr_read : let v = ldr_word c i p u b w l rn rd n in
      (bit_range v 28 32 ≡ c) × (bit_range v 25 26 ≡ i) × (bit_range v 24 25 ≡ p) × (bit_range v 23 24 ≡ u) × (bit_range v 22 23 ≡ b) × (bit_range v 21 22 ≡ w) × (bit_range v 20 21 ≡ l) × (bit_range v 16 20 ≡ rn) × (bit_range v 12 16 ≡ rd) × (bit_range v 0 12 ≡ n)
  ldr_read = omega arith

  abbrev W : ℕ
  W = ldr_word c i p u b w l rn rd n

  abbrev ds : List ℕ
  ds = hex c (4 + i * 2 + p) (u * 8 + b * 4 + w * 2 + l) rn rd (n / 2 ^ 8) (n / 2 ^ 4 % 16) (n % 16)

  bit4 : n / 2 ^ 4 % 16 % 2 ≡ bit_range n 4 5
  bit4 = omega arith

  reg_kind : (form : Form) → i ≡ 1 → n / 2 ^ 4 % 16 % 2 ≡ four form → arm_format form W ≡ A.SingleDataTransfer
  unfolding arm_rows
  reg_kind Bench z e = kind_in Bench 9 W ds (omega arith) (omega arith)
  reg_kind Sheet z e = kind_in Sheet 9 W ds (omega arith) (omega arith)

  -- by a register with the form's bit 4, or by a number
  pub ldr_kind : (form : Form) → (i ≡ 1 → bit_range n 4 5 ≡ four form) → arm_format form (ldr_word c i p u b w l rn rd n) ≡ A.SingleDataTransfer
  unfolding arm_rows
  ldr_kind form h =
      by_test (eqb i 1) (λ e. let z = eqb-true i 1 e in reg_kind form z (bit4 ∙ h z))
      (λ e. let z = eqb-false i 1 e in kind_of form 9 W ds (omega arith) (omega arith) (omega arith))

  undefined : (form : Form) → i ≡ 1 → (n / 2 ^ 4 % 16 % 2 ≡ four form → ⊥) → arm_format form W ≡ A.Undefined
  unfolding arm_rows
  undefined Bench z e = kind_in Bench 2 W ds (omega arith) (omega arith)
  undefined Sheet z e = kind_in Sheet 2 W ds (omega arith) (omega arith)

  -- with the other bit 4 it is none
  pub ldr_undefined : (form : Form) → i ≡ 1 → (bit_range n 4 5 ≡ four form → ⊥) → arm_format form (ldr_word c i p u b w l rn rd n) ≡ A.Undefined
  ldr_undefined form z e = undefined form z (λ q. e (sym bit4 ∙ q))

  pub ldr_four : (form : Form) → arm_format form (ldr_word c i p u b w l rn rd n) ≡ A.SingleDataTransfer → i ≡ 1 → bit_range n 4 5 ≡ four form
  ldr_four form k z =
      by_test (eqb (bit_range n 4 5) (four form)) (λ e. eqb-true _ _ e)
      (λ e. absurd (differ A.Undefined A.SingleDataTransfer (sym (ldr_undefined form z (eqb-false _ _ e)) ∙ k) tt))

pub ldr_words : (form : Form) (P : ℕ → Type 0) → ((c i p u b w l rn rd n : ℕ) → LdrFields c i p u b w l rn rd n → Of form A.SingleDataTransfer P (ldr_word c i p u b w l rn rd n)) → Words form A.SingleDataTransfer P
unfolding arm_rows
ldr_words form P f = words form 9 P (λ ds. only) (λ c d6 u b w l rn rd d2 d1 d0 q h m. made form 9 P (f c (d6 / 2 % 2) (d6 % 2) u b w l rn rd (d2 * 256 + d1 * 16 + d0) (omega arith)) (omega arith))

-- the bench shows no sign of a number that is zero (the sheet does, S4)
abbrev pub unsigned : Form → ℕ → Bool
unsigned form n = bench form && eqb n 0

abbrev pub ldr_u : Form → ℕ → ℕ → ℕ → ℕ
ldr_u form i u n = shown (not (eqb i 0 && unsigned form n)) u

-- with any offset that is not higher, and of a register's bit 4 as it is
pub ldr_least : {c i p u b w l rn rd n : ℕ} → LdrFields c i p u b w l rn rd n → (form : Form) → arm_format form (ldr_word c i p u b w l rn rd n) ≡ A.SingleDataTransfer →
    (k : ℕ) → k ≤ n → (i ≡ 1 → bit_range k 4 5 ≡ bit_range n 4 5) →
    let v = ldr_u form i u k in Least (LdrFields c i p v b w l rn rd k) form A.SingleDataTransfer (ldr_word c i p v b w l rn rd k) (ldr_word c i p u b w l rn rd n)
ldr_least {c} {i} {p} {u} {b} {w} {l} {rn} {rd} {n} f form e k h s =
    let a = shown_low (not (eqb i 0 && unsigned form k)) u in
    let g : LdrFields c i p (ldr_u form i u k) b w l rn rd k = omega arith in
    record { fields = g; low = omega arith; kind = ldr_kind g form (λ z. s z ∙ ldr_four f form e z) }
