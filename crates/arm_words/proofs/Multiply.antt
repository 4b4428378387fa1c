-- Multiply, long multiply and swap: words from fields. Assumes nothing.
use Prim.Native.Nat.{◌*◌, ◌+◌, ◌<◌, ◌^◌, ℕ}
use lib.Dec.{eqb}
use mathlib.Core.Path.{◌≡◌}
use native.Mathlib.Omega.{arith}
use Rattle.arm.specs.Kinds.{arm_format, arm_rows}
use Rattle.arm7tdmi.specs.declared.Form.{Form}
use Rattle.arm_words.proofs.Scheme.{Least, Of, Words, hex, kind_of, made, only, shown, shown_low, words}
use Rattle.common.specs.Bits.{bit_range}
use Rattle.arm.specs.declared.ArmFormat.TheVariants as A

-- ---- mul and mla
abbrev pub mul_word : ℕ → ℕ → ℕ → ℕ → ℕ → ℕ → ℕ → ℕ
mul_word c a s rd rn rs rm = c * 2 ^ 28 + a * 2 ^ 21 + s * 2 ^ 20 + rd * 2 ^ 16 + rn * 2 ^ 12 + rs * 2 ^ 8 + 9 * 2 ^ 4 + rm

pub record MulFields (c a s rd rn rs rm : ℕ) : Type 0 where
  pub hc : c < 16
  pub ha : a < 2
  pub hs : s < 2
  pub hrd : rd < 16
  pub hrn : rn < 16
  pub hrs : rs < 16
  pub hrm : rm < 16

module _ {c a s rd rn rs rm : ℕ} (f : MulFields c a s rd rn rs rm) where
  pub mul_read : let w = mul_word c a s rd rn rs rm in
      (bit_range w 28 32 ≡ c) × (bit_range w 21 22 ≡ a) × (bit_range w 20 21 ≡ s) × (bit_range w 16 20 ≡ rd) × (bit_range w 12 16 ≡ rn) × (bit_range w 8 12 ≡ rs) × (bit_range w 0 4 ≡ rm)
  mul_read = omega arith

  pub mul_kind : (form : Form) → arm_format form (mul_word c a s rd rn rs rm) ≡ A.Multiply
  unfolding arm_rows
  mul_kind form = kind_of form 4 (mul_word c a s rd rn rs rm) (hex c 0 (a * 2 + s) rd rn rs 9 rm) (omega arith) (omega arith) (omega arith)

pub mul_words : (form : Form) (P : ℕ → Type 0) → ((c a s rd rn rs rm : ℕ) → MulFields c a s rd rn rs rm → Of form A.Multiply P (mul_word c a s rd rn rs rm)) → Words form A.Multiply P
unfolding arm_rows
mul_words form P f = words form 4 P (λ ds. only) (λ c d6 x y a s rd rn rs d1 rm b h m. made form 4 P (f c a s rd rn rs rm (omega arith)) (omega arith))

-- Rn is shown of mla alone
pub mul_least : {c a s rd rn rs rm : ℕ} → MulFields c a s rd rn rs rm → (form : Form) →
    let n = shown (eqb a 1) rn in Least (MulFields c a s rd n rs rm) form A.Multiply (mul_word c a s rd n rs rm) (mul_word c a s rd rn rs rm)
mul_least {c} {a} {s} {rd} {rn} {rs} {rm} f form =
    let l = shown_low (eqb a 1) rn in
    let g : MulFields c a s rd (shown (eqb a 1) rn) rs rm = omega arith in
    record { fields = g; low = omega arith; kind = mul_kind g form }

-- ---- mull and mlal: all is shown
abbrev pub mull_word : ℕ → ℕ → ℕ → ℕ → ℕ → ℕ → ℕ → ℕ → ℕ
mull_word c u a s hi lo rs rm = c * 2 ^ 28 + 2 ^ 23 + u * 2 ^ 22 + a * 2 ^ 21 + s * 2 ^ 20 + hi * 2 ^ 16 + lo * 2 ^ 12 + rs * 2 ^ 8 + 9 * 2 ^ 4 + rm

pub record MullFields (c u a s hi lo rs rm : ℕ) : Type 0 where
  pub hc : c < 16
  pub hu : u < 2
  pub ha : a < 2
  pub hs : s < 2
  pub hhi : hi < 16
  pub hlo : lo < 16
  pub hrs : rs < 16
  pub hrm : rm < 16

module _ {c u a s hi lo rs rm : ℕ} (f : MullFields c u a s hi lo rs rm) where
  pub mull_read : let w = mull_word c u a s hi lo rs rm in
      (bit_range w 28 32 ≡ c) × (bit_range w 22 23 ≡ u) × (bit_range w 21 22 ≡ a) × (bit_range w 20 21 ≡ s) × (bit_range w 16 20 ≡ hi) × (bit_range w 12 16 ≡ lo) × (bit_range w 8 12 ≡ rs) × (bit_range w 0 4 ≡ rm)
  mull_read = omega arith

  pub mull_kind : (form : Form) → arm_format form (mull_word c u a s hi lo rs rm) ≡ A.MultiplyLong
  unfolding arm_rows
  mull_kind form = kind_of form 5 (mull_word c u a s hi lo rs rm) (hex c 0 (8 + u * 4 + a * 2 + s) hi lo rs 9 rm) (omega arith) (omega arith) (omega arith)

pub mull_words : (form : Form) (P : ℕ → Type 0) → ((c u a s hi lo rs rm : ℕ) → MullFields c u a s hi lo rs rm → Of form A.MultiplyLong P (mull_word c u a s hi lo rs rm)) → Words form A.MultiplyLong P
unfolding arm_rows
mull_words form P f = words form 5 P (λ ds. only) (λ c d6 x u a s hi lo rs d1 rm b h m. made form 5 P (f c u a s hi lo rs rm (omega arith)) (omega arith))

-- ---- swp: all is shown
abbrev pub swp_word : ℕ → ℕ → ℕ → ℕ → ℕ → ℕ
swp_word c b rn rd rm = c * 2 ^ 28 + 2 ^ 24 + b * 2 ^ 22 + rn * 2 ^ 16 + rd * 2 ^ 12 + 9 * 2 ^ 4 + rm

pub record SwpFields (c b rn rd rm : ℕ) : Type 0 where
  pub hc : c < 16
  pub hb : b < 2
  pub hrn : rn < 16
  pub hrd : rd < 16
  pub hrm : rm < 16

module _ {c b rn rd rm : ℕ} (f : SwpFields c b rn rd rm) where
  pub swp_read : let w = swp_word c b rn rd rm in (bit_range w 28 32 ≡ c) × (bit_range w 22 23 ≡ b) × (bit_range w 16 20 ≡ rn) × (bit_range w 12 16 ≡ rd) × (bit_range w 0 4 ≡ rm)
  swp_read = omega arith

  pub swp_kind : (form : Form) → arm_format form (swp_word c b rn rd rm) ≡ A.SingleDataSwap
  unfolding arm_rows
  swp_kind form = kind_of form 3 (swp_word c b rn rd rm) (hex c 1 (b * 4) rn rd 0 9 rm) (omega arith) (omega arith) (omega arith)

pub swp_words : (form : Form) (P : ℕ → Type 0) → ((c b rn rd rm : ℕ) → SwpFields c b rn rd rm → Of form A.SingleDataSwap P (swp_word c b rn rd rm)) → Words form A.SingleDataSwap P
unfolding arm_rows
swp_words form P f = words form 3 P (λ ds. only) (λ c d6 x b z t rn rd d2 d1 rm i h m. made form 3 P (f c b rn rd rm (omega arith)) (omega arith))
