-- The words that meet no row, the lowest of them, and that the bench's rows are the Rust's. Assumes nothing.
use Prim.Native.Nat.{◌*◌, ◌/◌, ◌<◌, ◌^◌, ◌≤◌, ℕ}
use borrow.Author.Tests.{eq-eqb, eqb-true, ltb-false, ltb-true}
use lib.Dec.{eqb, leb, ltb}
use lib.ListN.{drop, take}
use mathlib.Core.Bool.{Bool, ◌&&◌, cond, false, true, true≢false}
use mathlib.Core.List.{List, [], ◌++◌, ◌∷◌}
use mathlib.Core.Path.{◌∙◌, ◌≡◌, ap, refl, sym}
use native.Mathlib.Omega.{arith}
use Rattle.thumb.specs.Kinds.{thumb_first, thumb_format, thumb_number, thumb_rows}
use Rattle.arm7tdmi.specs.declared.Form.{Form}
use Rattle.arm7tdmi.specs.declared.Form.TheVariants.{Bench, Sheet}
use Rattle.arm7tdmi.specs.declared.kinds.Row.{Row}
use Rattle.thumb.specs.declared.ThumbFormat.{ThumbFormat}
use Rattle.thumb.specs.declared.ThumbFormat.TheVariants as H
use Rattle.common.proofs.Tests.{at_not, by_test, every}
use Rattle.thumb_words.proofs.Laws.{at_top, equal, equal_is, first_high, same_kind, thumb_top}

-- ---- Undefined
-- past the trap: DExx is Undefined on the sheet alone (S7)
abbrev pub past_trap : Form → ℕ
past_trap Bench = 0xde
past_trap Sheet = 0xdf

-- a number is in a range, from the first up to but without the second
abbrev pub among : List (ℕ × ℕ) → ℕ → Bool
among [] t = false
among (r ∷ rs) t = cond (leb r.0 t && ltb t r.1) true (among rs t)

-- the top bytes of words that are Undefined
unfoldable pub undefined_top : Form → ℕ → Bool
undefined_top form t = among ((0xb1, 0xb4) ∷ (0xb6, 0xbc) ∷ (0xbe, 0xc0) ∷ (0xde, past_trap form) ∷ (0xe8, 0xf0) ∷ []) t

right_undefined : Form → ℕ → Bool
right_undefined form t = equal (eqb (thumb_number (thumb_format form (t * 2 ^ 8))) 19) (undefined_top form t)

undefined_tested : (form : Form) → every (right_undefined form) 256 ≡ true
unfolding right_undefined undefined_top thumb_rows
undefined_tested Bench = refl
undefined_tested Sheet = refl

module _ (form : Form) (w : ℕ) (h : w < 2 ^ 16) where
  tested : eqb (thumb_number (thumb_format form w)) 19 ≡ undefined_top form (w / 2 ^ 8)
  unfolding right_undefined
  tested =
      ap (λ k. eqb (thumb_number k) 19) (thumb_top form w)
      ∙ equal_is (eqb (thumb_number (thumb_format form (w / 2 ^ 8 * 2 ^ 8))) 19) (undefined_top form (w / 2 ^ 8)) (at_top (right_undefined form) (undefined_tested form) w h)

  -- a word is Undefined by its top byte, and by nothing else
  pub undefined_kind : undefined_top form (w / 2 ^ 8) ≡ true → thumb_format form w ≡ H.Undefined
  undefined_kind e = same_kind (thumb_format form w) H.Undefined (eqb-true (thumb_number (thumb_format form w)) 19 (tested ∙ e))

  pub undefined_top_lem : thumb_format form w ≡ H.Undefined → undefined_top form (w / 2 ^ 8) ≡ true
  undefined_top_lem e = sym tested ∙ eq-eqb (thumb_number (thumb_format form w)) 19 (ap thumb_number e)

  -- no word below b100 is
  pub undefined_least : thumb_format form w ≡ H.Undefined → 0xb100 ≤ w
  unfolding undefined_top
  undefined_least e =
      by_test (ltb (w / 2 ^ 8) 0xb1)
      (λ d. let z : ◌≡◌ {A = Bool} true false = sym (undefined_top_lem e) ∙ at_not (undefined_top form) 0xb1 refl (w / 2 ^ 8) (ltb-true (w / 2 ^ 8) 0xb1 d) in absurd (true≢false z))
      (λ d. let l = ltb-false (w / 2 ^ 8) 0xb1 d in omega arith)

-- and b100 is
pub undefined_lowest : (form : Form) → thumb_format form 0xb100 ≡ H.Undefined
unfolding thumb_rows
undefined_lowest form = refl

-- ---- the bench's rows without that for DExx, which the Rust does not have
unfoldable pub rust_rows : List (Row ThumbFormat)
rust_rows = take 16 (thumb_rows Bench) ++ drop 17 (thumb_rows Bench)

same_top : ℕ → Bool
same_top t = eqb (thumb_number (thumb_first rust_rows (t * 2 ^ 8))) (thumb_number (thumb_format Bench (t * 2 ^ 8)))

same_tops : every same_top 256 ≡ true
unfolding same_top rust_rows thumb_rows
same_tops = refl

rust_top : (w : ℕ) → thumb_first rust_rows w ≡ thumb_first rust_rows (w / 2 ^ 8 * 2 ^ 8)
unfolding rust_rows thumb_rows
rust_top w = first_high (λ (r : Row ThumbFormat). r.mask) (λ (r : Row ThumbFormat). r.value) (λ (r : Row ThumbFormat). r.kind) H.Undefined 8 rust_rows w (omega arith)

-- a bench word's kind is that by the Rust's rows
pub bench_rust : (w : ℕ) → w < 2 ^ 16 → thumb_first rust_rows w ≡ thumb_format Bench w
unfolding same_top
bench_rust w h =
    rust_top w
    ∙ same_kind (thumb_first rust_rows (w / 2 ^ 8 * 2 ^ 8)) (thumb_format Bench (w / 2 ^ 8 * 2 ^ 8)) (eqb-true (thumb_number (thumb_first rust_rows (w / 2 ^ 8 * 2 ^ 8))) (thumb_number (thumb_format Bench (w / 2 ^ 8 * 2 ^ 8))) (at_top same_top same_tops w h))
    ∙ sym (thumb_top Bench w)
