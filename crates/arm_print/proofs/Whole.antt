-- What an ARM word shows: a line of at most 80 bytes, or refusal 1, 2 or, on the sheet, 9. Assumes nothing.
use mathlib.Core.Logic.{◌⊎◌, inl, inr}
use mathlib.Core.Bool.{false, true, true≢false}
use mathlib.Core.List.{List}
use mathlib.Core.Path.{◌≡◌, refl, sym}
use Prim.Native.Nat.{ℕ}
use native.Mathlib.Omega.{arith}
use Rattle.std.proofs.Common.{Option, Some, None}
use Rattle.common.proofs.Tests.{and_right, by_test}
use Rattle.refusal.specs.declared.Refusal.{Refusal}
use Rattle.refusal.specs.declared.Refusal.TheVariants.{NoCondition, NoTransfer, NoFlags}
use Rattle.lines.specs.Answer.{refused, line}
use Rattle.lines.proofs.Whole.{Whole}
use Rattle.arm7tdmi.specs.declared.Form.{Form}
use Rattle.arm7tdmi.specs.declared.Form.TheVariants.{Bench, Sheet}
use Rattle.arm.specs.declared.ArmFormat.{ArmFormat}
use Rattle.arm.specs.Kinds.{arm_format}
use Rattle.arm_disass.specs.Line.{line_of}
use Rattle.arm_disass.proofs.Lengths.{line_within}
use Rattle.arm_print.specs.Print.{answer_of, arm_line, is_data_processing, lacks_cond, lacks_flags, lacks_type, line_unless, refusal_of}

-- the refusals of a form, each by itself
abbrev pub WordRefusal : Form → Refusal → Type 0
WordRefusal form r = (r ≡ NoCondition) ⊎ ((r ≡ NoTransfer) ⊎ ((form ≡ Sheet) × (r ≡ NoFlags)))

-- ---- the refusal of a word
-- the bench has none for tests
sheet_alone : (form : Form) (fmt : ArmFormat) (raw : ℕ) → lacks_flags form fmt raw ≡ true → form ≡ Sheet
sheet_alone Bench fmt raw e = absurd (true≢false (sym (and_right (is_data_processing fmt) false e)))
sheet_alone Sheet fmt raw e = refl

-- what holds of each refusal that a form has, and of none, holds of a word's
pub by_refusal : (P : Option Refusal → Type 0) (form : Form) (fmt : ArmFormat) (raw : ℕ)
    → P (Some NoCondition) → P (Some NoTransfer) → (form ≡ Sheet → P (Some NoFlags)) → P None → P (refusal_of form fmt raw)
unfolding refusal_of
by_refusal P form fmt raw one two nine none =
    by_test (lacks_cond form fmt raw)
    (λ a. rw a one)
    (λ a. by_test (lacks_type fmt raw)
    (λ b. rw (a, b) two)
    (λ b. by_test (lacks_flags form fmt raw)
    (λ c. rw (a, b, c) (nine (sheet_alone form fmt raw c)))
    (λ c. rw (a, b, c) none)))

-- ---- refusals and lines
pub no_line : {r : Refusal} {t : List ℕ} → refused r ≡ line t → ⊥
no_line e = let z : ◌≡◌ {A = ℕ} 0 1 = cc in absurd (omega arith)

same_refusal : {r s : Refusal} → refused r ≡ refused s → r ≡ s
same_refusal e = cc

-- ---- what a word shows
module _ (form : Form) (pc raw : ℕ) where
  abbrev fmt : ArmFormat
  fmt = arm_format form raw

  abbrev text : List ℕ
  text = line_of form fmt pc raw

  pub arm_whole : Whole (arm_line form pc raw)
  unfolding arm_line answer_of
  arm_whole =
      by_refusal (λ a. Whole (line_unless a text)) form fmt raw
      (omega arith, λ z. omega arith) (omega arith, λ z. omega arith) (λ s. (omega arith, λ z. omega arith)) (line_within form fmt pc raw).most

  pub arm_refusals : (r : Refusal) → arm_line form pc raw ≡ refused r → WordRefusal form r
  unfolding arm_line answer_of
  arm_refusals r =
      by_refusal (λ a. line_unless a text ≡ refused r → WordRefusal form r) form fmt raw
      (λ q. inl (sym (same_refusal q))) (λ q. inr (inl (sym (same_refusal q)))) (λ s q. inr (inr (s, sym (same_refusal q)))) (λ q. absurd (no_line (sym q)))
