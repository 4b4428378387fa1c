-- The line of a call pair is no halfword's. Assumes nothing.
use mathlib.Core.Path.{◌≡◌, ap, refl, ◌∙◌}
use mathlib.Core.Bool.{Bool, ◌&&◌, cond, false, true}
use mathlib.Core.List.{List, [], ◌∷◌}
use Prim.Native.Nat.{ℕ, ◌+◌, ◌*◌, ◌/◌, ◌%◌, ◌^◌, ◌<◌}
use native.Mathlib.Omega.{arith}
use borrow.Author.Tests.{eq-eqb}
use Rattle.common.specs.Bits.{bit_range}
use Rattle.common.specs.Lists.{same}
use Rattle.text.specs.Digits.{prefixed}
use Rattle.text.specs.Text.{text}
use Rattle.text.specs.Word.{is_word, word}
use Rattle.text.proofs.Word.{word_of}
use Rattle.arm7tdmi.specs.declared.Form.TheVariants.{Sheet}
use Rattle.lines.specs.Address.{address}
use Rattle.lines.specs.Answer.{line}
use Rattle.thumb.specs.Kinds.{thumb_format}
use Rattle.thumb.specs.Pair.{is_first_half, is_pair, is_second_half}
use Rattle.thumb.specs.declared.ThumbFormat.TheVariants.{BranchLongWithLink}
use Rattle.thumb_words.proofs.Halves.{pair_kinds}
use Rattle.thumb_disass.specs.Line.{fmt_thumb_branch_long_with_link, line_of}
use Rattle.thumb_print.specs.Print.{thumb_line}
use Rattle.thumb_mnemonic.specs.Rows.{Row, rows}
use Rattle.thumb_candidate.specs.Candidate.{candidate, candidates, call_unit, candidates_from, operands, suits}
use Rattle.thumb_lowest.specs.Read.{read_thumb}
use Rattle.thumb_lowest.proofs.Read.{read_thumb_lem}
use Rattle.reading.proofs.Demand.{none_prints}
use Rattle.reading.proofs.Several.{best}
use Rattle.reading.specs.Parts.{hex_in}
use Rattle.reading.specs.Read.{is_line}
use Rattle.pairs.specs.Print.{pair_text}

-- the halves that a line says, with h as their bit 11
abbrev half : ℕ → ℕ → ℕ
half h x = (0xf000 + h * 2 ^ 11 + x % 2 ^ 11) % 2 ^ 16

halves : (x y : ℕ) → is_pair (half 0 x) (half 1 y) ≡ true
unfolding is_pair is_first_half is_second_half
halves x y = rw (eq-eqb (bit_range (half 0 x) 11 16) 30 (omega arith), eq-eqb (bit_range (half 1 y) 11 16) 31 (omega arith))

module _ (p q first second : ℕ) where
  abbrev l : List ℕ
  l = pair_text q first second

  -- a lone half's line has `#` where a pair's has `0`
  not_alone : (c : ℕ) → thumb_format Sheet c ≡ BranchLongWithLink → is_line (thumb_line Sheet p c) l ≡ false
  unfolding thumb_line line_of fmt_thumb_branch_long_with_link pair_text address prefixed same
  not_alone c e = rw e

  begins : word l ≡ text "bl"
  unfolding pair_text is_word
  begins = word_of (text "bl") (9 ∷ address Sheet _) refl refl

  -- its candidates by the mnemonic: those of the two rows `bl`
  abbrev before : Bool → ℕ → List ℕ → List ℕ
  before true c cs = c ∷ cs
  before false c cs = cs

  abbrev named : List ℕ → List Row → List ℕ
  named m [] = []
  named m (r ∷ rs) = before (same r.name m && suits r.kind l) (candidate Sheet p l r.kind r.bits) (named m rs)

  before_as : (b : Bool) (c : ℕ) (cs : List ℕ) → cond b (c ∷ cs) cs ≡ before b c cs
  before_as true c cs = refl
  before_as false c cs = refl

  by_name : (rs : List Row) → candidates_from Sheet p l rs ≡ named (word l) rs
  by_name [] = refl
  by_name (r ∷ rs) = rw (by_name rs) (before_as (same r.name (word l) && suits r.kind l) (candidate Sheet p l r.kind r.bits) (named (word l) rs))

  abbrev both : List ℕ
  both = candidate Sheet p l BranchLongWithLink 0xf000 ∷ candidate Sheet p l BranchLongWithLink 0xf800 ∷ []

  two_rows : named (text "bl") rows ≡ both
  unfolding rows suits same
  two_rows = refl

  two : candidates Sheet p l ≡ both
  unfolding candidates
  two = by_name rows ∙ ap (λ (m : List ℕ). named m rows) begins ∙ two_rows

  -- neither prints it, so no halfword does
  none : read_thumb Sheet p l ≡ 2 ^ 16
  unfolding best candidate operands
  none =
      let x = hex_in 1 l / call_unit 0xf000 in
      let y = hex_in 1 l / call_unit 0xf800 in
      let k = pair_kinds Sheet (half 0 x) (half 1 y) p (omega arith) (omega arith) (halves x y) in
      read_thumb_lem Sheet p l ∙ rw (two, not_alone (half 0 x) k.0, not_alone (half 1 y) k.1)

  pub no_half : (w : ℕ) → w < 2 ^ 16 → thumb_line Sheet p w ≡ line l → ⊥
  unfolding read_thumb
  no_half w h e = none_prints (thumb_line Sheet p) (2 ^ 16) l none w h e
