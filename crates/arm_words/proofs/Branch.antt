-- Branches and software interrupts: words from fields. Assumes nothing.
use Prim.Native.Nat.{◌%◌, ◌*◌, ◌+◌, ◌<◌, ◌^◌, ℕ}
use mathlib.Core.Bool.{not}
use mathlib.Core.Path.{◌≡◌}
use native.Mathlib.Omega.{arith}
use Rattle.arm.specs.Kinds.{arm_format, arm_rows}
use Rattle.arm7tdmi.specs.declared.Form.{Form}
use Rattle.arm_words.proofs.Scheme.{Least, Of, Words, bench, by_digits, hex, kind_of, made, only, shown, shown_low, words}
use Rattle.common.specs.Bits.{bit_range}
use Rattle.words.proofs.Match.{num}
use Rattle.arm.specs.declared.ArmFormat.TheVariants as A

-- ---- bx
abbrev pub bx_word : ℕ → ℕ → ℕ
bx_word c rn = c * 2 ^ 28 + 0x012fff1 * 2 ^ 4 + rn

pub record BxFields (c rn : ℕ) : Type 0 where
  pub hc : c < 16
  pub hrn : rn < 16

module _ {c rn : ℕ} (f : BxFields c rn) where
  pub bx_read : let w = bx_word c rn in (bit_range w 28 32 ≡ c) × (bit_range w 0 4 ≡ rn)
  bx_read = omega arith

  pub bx_kind : (form : Form) → arm_format form (bx_word c rn) ≡ A.BranchExchange
  unfolding arm_rows
  bx_kind form = kind_of form 0 (bx_word c rn) (hex c 1 2 15 15 15 1 rn) (omega arith) (omega arith) (omega arith)

pub bx_words : (form : Form) (P : ℕ → Type 0) → ((c rn : ℕ) → BxFields c rn → Of form A.BranchExchange P (bx_word c rn)) → Words form A.BranchExchange P
unfolding arm_rows
bx_words form P f = words form 0 P (λ ds. only) (λ c d6 x y z t d4 d3 d2 d1 rn b h m. made form 0 P (f c rn (omega arith)) (omega arith))

-- the bench shows no condition
pub bx_least : {c rn : ℕ} → BxFields c rn → (form : Form) → let d = shown (not (bench form)) c in Least (BxFields d rn) form A.BranchExchange (bx_word d rn) (bx_word c rn)
bx_least {c} {rn} f form =
    let l = shown_low (not (bench form)) c in
    let g : BxFields (shown (not (bench form)) c) rn = omega arith in
    record { fields = g; low = omega arith; kind = bx_kind g form }

-- ---- b and bl: all is shown
abbrev pub branch_word : ℕ → ℕ → ℕ → ℕ
branch_word c l n = c * 2 ^ 28 + 5 * 2 ^ 25 + l * 2 ^ 24 + n

pub record BranchFields (c l n : ℕ) : Type 0 where
  pub hc : c < 16
  pub hl : l < 2
  pub hn : n < 2 ^ 24

module _ {c l n : ℕ} (f : BranchFields c l n) where
  pub branch_read : let w = branch_word c l n in (bit_range w 28 32 ≡ c) × (bit_range w 24 25 ≡ l) × (bit_range w 0 24 ≡ n)
  branch_read = omega arith

  pub branch_kind : (form : Form) → arm_format form (branch_word c l n) ≡ A.BranchLink
  unfolding arm_rows
  branch_kind form =
      by_digits (λ (n : ℕ). n < 2 ^ 24 → arm_format form (branch_word c l n) ≡ A.BranchLink) (λ d7 d6 d5 d4 d3 d2 d1 d0 h b.
      kind_of form 1 (branch_word c l (num (hex d7 d6 d5 d4 d3 d2 d1 d0))) (hex c (10 + l) d5 d4 d3 d2 d1 d0) (omega arith) (omega arith) (omega arith)) n (omega arith) f.hn

pub branch_words : (form : Form) (P : ℕ → Type 0) → ((c l n : ℕ) → BranchFields c l n → Of form A.BranchLink P (branch_word c l n)) → Words form A.BranchLink P
unfolding arm_rows
branch_words form P f = words form 1 P (λ ds. only) (λ c d6 x y z t d4 d3 d2 d1 d0 b h m. made form 1 P (f c (d6 % 2) (num (hex 0 0 (x * 8 + y * 4 + z * 2 + t) d4 d3 d2 d1 d0)) (omega arith)) (omega arith))

-- ---- swi: all is shown
abbrev pub swi_word : ℕ → ℕ → ℕ
swi_word c n = c * 2 ^ 28 + 15 * 2 ^ 24 + n

pub record SwiFields (c n : ℕ) : Type 0 where
  pub hc : c < 16
  pub hn : n < 2 ^ 24

module _ {c n : ℕ} (f : SwiFields c n) where
  pub swi_read : let w = swi_word c n in (bit_range w 28 32 ≡ c) × (bit_range w 0 24 ≡ n)
  swi_read = omega arith

  pub swi_kind : (form : Form) → arm_format form (swi_word c n) ≡ A.SoftwareInterrupt
  unfolding arm_rows
  swi_kind form =
      by_digits (λ (n : ℕ). n < 2 ^ 24 → arm_format form (swi_word c n) ≡ A.SoftwareInterrupt) (λ d7 d6 d5 d4 d3 d2 d1 d0 h b.
      kind_of form 13 (swi_word c (num (hex d7 d6 d5 d4 d3 d2 d1 d0))) (hex c 15 d5 d4 d3 d2 d1 d0) (omega arith) (omega arith) (omega arith)) n (omega arith) f.hn

pub swi_words : (form : Form) (P : ℕ → Type 0) → ((c n : ℕ) → SwiFields c n → Of form A.SoftwareInterrupt P (swi_word c n)) → Words form A.SoftwareInterrupt P
unfolding arm_rows
swi_words form P f = words form 13 P (λ ds. only) (λ c d6 x y z t d4 d3 d2 d1 d0 b h m. made form 13 P (f c (num (hex 0 0 (x * 8 + y * 4 + z * 2 + t) d4 d3 d2 d1 d0)) (omega arith)) (omega arith))
