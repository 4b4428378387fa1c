-- Undefined words: the lowest of each form. Assumes nothing.
use Prim.Native.Nat.{◌≤◌, ℕ}
use borrow.Author.Tests.{ltb-false, ltb-true}
use lib.Dec.{ltb}
use mathlib.Core.List.{List}
use mathlib.Core.Path.{◌≡◌, refl}
use native.Mathlib.Omega.{arith}
use Rattle.arm.specs.Kinds.{arm_format, arm_rows, undefined_bits}
use Rattle.arm7tdmi.specs.declared.Form.{Form}
use Rattle.arm7tdmi.specs.declared.Form.TheVariants.{Bench, Sheet}
use Rattle.arm_words.proofs.Scheme.{At, Of, Words, by_digits, hex, met_says, only}
use Rattle.common.proofs.Tests.{by_test}
use Rattle.words.proofs.Digits.{Digits}
use Rattle.words.proofs.Match.{num}
use Rattle.arm.specs.declared.ArmFormat.TheVariants as A

pub undefined_kind : (form : Form) → arm_format form (undefined_bits form) ≡ A.Undefined
unfolding arm_rows
undefined_kind Bench = refl
undefined_kind Sheet = refl

module _ (d7 d6 d5 d4 d3 d2 d1 d0 : ℕ) (h : Digits (hex d7 d6 d5 d4 d3 d2 d1 d0)) where
  abbrev ds : List ℕ
  ds = hex d7 d6 d5 d4 d3 d2 d1 d0

  met : (form : Form) → At 2 ds form → undefined_bits form ≤ num ds
  unfolding arm_rows
  met Bench a = omega arith
  met Sheet a = omega arith

  high : (form : Form) → 8 ≤ d6 → undefined_bits form ≤ num ds
  high Bench l = omega arith
  high Sheet l = omega arith

  -- a word below meets the row of data processing or that of single transfers, and so is of a row's kind
  from : (form : Form) → arm_format form (num ds) ≡ A.Undefined → undefined_bits form ≤ num ds
  unfolding arm_rows
  from form e =
      by_test (ltb d6 4) (λ a. let l = ltb-true d6 4 a in met form (only (met_says form A.Undefined 14 ds (omega arith) h tt (omega arith) e)))
      (λ a. let k = ltb-false d6 4 a in
      by_test (ltb d6 8) (λ b. let l = ltb-true d6 8 b in met form (only (met_says form A.Undefined 9 ds (omega arith) h tt (omega arith) e)))
      (λ b. high form (ltb-false d6 8 b)))

pub undefined_least : (form : Form) → Words form A.Undefined (λ w. undefined_bits form ≤ w)
undefined_least form = by_digits (Of form A.Undefined (λ w. undefined_bits form ≤ w)) (λ d7 d6 d5 d4 d3 d2 d1 d0 h. from d7 d6 d5 d4 d3 d2 d1 d0 h form)
