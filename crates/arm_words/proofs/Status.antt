-- Moves from and to the status: words from fields. Assumes nothing.
use Prim.Native.Nat.{◌%◌, ◌*◌, ◌+◌, ◌/◌, ◌<◌, ◌^◌, ◌≤◌, ℕ}
use mathlib.Core.Path.{◌≡◌}
use native.Mathlib.Omega.{arith}
use Rattle.arm.specs.Kinds.{arm_format, arm_rows}
use Rattle.arm7tdmi.specs.declared.Form.{Form}
use Rattle.arm_words.proofs.Scheme.{Least, Of, Words, hex, kind_of, made, only, words}
use Rattle.common.specs.Bits.{bit_range}
use Rattle.arm.specs.declared.ArmFormat.TheVariants as A

-- ---- mrs: all is shown
abbrev pub mrs_word : ℕ → ℕ → ℕ → ℕ
mrs_word c p rd = c * 2 ^ 28 + 2 ^ 24 + p * 2 ^ 22 + 15 * 2 ^ 16 + rd * 2 ^ 12

pub record MrsFields (c p rd : ℕ) : Type 0 where
  pub hc : c < 16
  pub hp : p < 2
  pub hrd : rd < 16

module _ {c p rd : ℕ} (f : MrsFields c p rd) where
  pub mrs_read : let w = mrs_word c p rd in (bit_range w 28 32 ≡ c) × (bit_range w 22 23 ≡ p) × (bit_range w 12 16 ≡ rd)
  mrs_read = omega arith

  pub mrs_kind : (form : Form) → arm_format form (mrs_word c p rd) ≡ A.MoveFromStatus
  unfolding arm_rows
  mrs_kind form = kind_of form 6 (mrs_word c p rd) (hex c 1 (p * 4) 15 rd 0 0 0) (omega arith) (omega arith) (omega arith)

pub mrs_words : (form : Form) (P : ℕ → Type 0) → ((c p rd : ℕ) → MrsFields c p rd → Of form A.MoveFromStatus P (mrs_word c p rd)) → Words form A.MoveFromStatus P
unfolding arm_rows
mrs_words form P f = words form 6 P (λ ds. only) (λ c d6 x p z t d4 rd d2 d1 d0 b h m. made form 6 P (f c p rd (omega arith)) (omega arith))

-- ---- msr, a register to the whole: all is shown, operand 2 as the register
abbrev pub msr_word : ℕ → ℕ → ℕ → ℕ
msr_word c p rm = c * 2 ^ 28 + 0x129f * 2 ^ 12 + p * 2 ^ 22 + rm

pub record MsrFields (c p rm : ℕ) : Type 0 where
  pub hc : c < 16
  pub hp : p < 2
  pub hrm : rm < 16

module _ {c p rm : ℕ} (f : MsrFields c p rm) where
  pub msr_read : let w = msr_word c p rm in (bit_range w 28 32 ≡ c) × (bit_range w 22 23 ≡ p) × (bit_range w 0 12 ≡ rm) × (bit_range w 25 26 ≡ 0)
  msr_read = omega arith

  pub msr_kind : (form : Form) → arm_format form (msr_word c p rm) ≡ A.MoveToStatus
  unfolding arm_rows
  msr_kind form = kind_of form 7 (msr_word c p rm) (hex c 1 (p * 4 + 2) 9 15 0 0 rm) (omega arith) (omega arith) (omega arith)

pub msr_words : (form : Form) (P : ℕ → Type 0) → ((c p rm : ℕ) → MsrFields c p rm → Of form A.MoveToStatus P (msr_word c p rm)) → Words form A.MoveToStatus P
unfolding arm_rows
msr_words form P f = words form 7 P (λ ds. only) (λ c d6 x p z t d4 d3 d2 d1 rm b h m. made form 7 P (f c p rm (omega arith)) (omega arith))

-- ---- msr, any operand 2 to the flags
abbrev pub flags_word : ℕ → ℕ → ℕ → ℕ → ℕ
flags_word c p i n = c * 2 ^ 28 + i * 2 ^ 25 + 0x128f * 2 ^ 12 + p * 2 ^ 22 + n

pub record FlagsFields (c p i n : ℕ) : Type 0 where
  pub hc : c < 16
  pub hp : p < 2
  pub hi : i < 2
  pub hn : n < 2 ^ 12

module _ {c p i n : ℕ} (f : FlagsFields c p i n) where
  pub flags_read : let w = flags_word c p i n in (bit_range w 28 32 ≡ c) × (bit_range w 22 23 ≡ p) × (bit_range w 25 26 ≡ i) × (bit_range w 0 12 ≡ n)
  flags_read = omega arith

  pub flags_kind : (form : Form) → arm_format form (flags_word c p i n) ≡ A.MoveToFlags
  unfolding arm_rows
  flags_kind form = kind_of form 8 (flags_word c p i n) (hex c (i * 2 + 1) (p * 4 + 2) 8 15 (n / 256) (n / 16 % 16) (n % 16)) (omega arith) (omega arith) (omega arith)

pub flags_words : (form : Form) (P : ℕ → Type 0) → ((c p i n : ℕ) → FlagsFields c p i n → Of form A.MoveToFlags P (flags_word c p i n)) → Words form A.MoveToFlags P
unfolding arm_rows
flags_words form P f = words form 8 P (λ ds. only) (λ c d6 x p z t d4 d3 d2 d1 d0 b h m. made form 8 P (f c p (d6 / 2) (d2 * 256 + d1 * 16 + d0) (omega arith)) (omega arith))

-- with any operand that is not higher
pub flags_least : {c p i n : ℕ} → FlagsFields c p i n → (form : Form) (k : ℕ) → k ≤ n → Least (FlagsFields c p i k) form A.MoveToFlags (flags_word c p i k) (flags_word c p i n)
flags_least {c} {p} {i} {n} f form k l =
    let g : FlagsFields c p i k = omega arith in
    record { fields = g; low = omega arith; kind = flags_kind g form }
