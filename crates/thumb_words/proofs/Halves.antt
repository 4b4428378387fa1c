-- The halves of a call: "a pair has the kind of its halves". Assumes nothing.
use Prim.Native.Nat.{◌*◌, ◌+◌, ◌<◌, ◌^◌, ℕ}
use borrow.Author.Tests.{eqb-true}
use mathlib.Core.Bool.{false, true}
use mathlib.Core.List.{[], ◌∷◌}
use mathlib.Core.Path.{◌≡◌}
use native.Mathlib.Omega.{arith}
use Rattle.arm7tdmi.specs.declared.Form.{Form}
use Rattle.common.proofs.Tests.{and_left, and_right}
use Rattle.common.specs.Bits.{bit_range}
use Rattle.thumb.specs.Kinds.{thumb_format}
use Rattle.thumb.specs.Pair.{is_first_half, is_pair, is_second_half}
use Rattle.thumb.specs.Record.{decoded, halfwords_of}
use Rattle.thumb.specs.declared.Halfwords.TheVariants.{One, Two}
use Rattle.thumb.specs.declared.ThumbFormat.TheVariants.{BranchLongWithLink}
use Rattle.thumb_words.proofs.Laws.{parts, thumb_kind}
use Rattle.thumb_words.proofs.Parts.{word}

module _ (form : Form) (h : ℕ) (l : h < 2 ^ 16) where
  half_kind_lem : (b : ℕ) → b < 2 → 0xf000 + b * 2 ^ 11 + bit_range h 0 11 ≡ h → thumb_format form h ≡ BranchLongWithLink
  half_kind_lem b g e =
      let xs = b ∷ bit_range h 0 11 ∷ [] in
      let w : word (parts form BranchLongWithLink) xs ≡ h = omega (arith, e) in
      rw w at (thumb_kind form BranchLongWithLink tt xs (omega arith))

  first_kind : is_first_half h ≡ true → thumb_format form h ≡ BranchLongWithLink
  unfolding is_first_half
  first_kind e = let f = eqb-true (bit_range h 11 16) 30 e in half_kind_lem 0 (omega arith) (omega (arith, f))

  second_kind : is_second_half h ≡ true → thumb_format form h ≡ BranchLongWithLink
  unfolding is_second_half
  second_kind e = let f = eqb-true (bit_range h 11 16) 31 e in half_kind_lem 1 (omega arith) (omega (arith, f))

module _ (form : Form) (first second address : ℕ) (hf : first < 2 ^ 16) (hs : second < 2 ^ 16) where
  pub pair_kinds : is_pair first second ≡ true → (thumb_format form first ≡ BranchLongWithLink) × (thumb_format form second ≡ BranchLongWithLink)
  unfolding is_pair
  pair_kinds e = (first_kind form first hf (and_left (is_first_half first) (is_second_half second) e), second_kind form second hs (and_right (is_first_half first) (is_second_half second) e))

  -- the record of a pair
  pub pair_record : is_pair first second ≡ true
      → decoded form (halfwords_of first second) address ≡ record { fmt = BranchLongWithLink; raw = Two first second; pc = address; byte_length = 4 }
  unfolding decoded halfwords_of
  pair_record e = rw (e, (pair_kinds e).0)

-- two halfwords that are no pair: the record of the first alone
pub single_record : (form : Form) (first second address : ℕ) → is_pair first second ≡ false → decoded form (halfwords_of first second) address ≡ decoded form (One first) address
unfolding halfwords_of
single_record form first second address e = rw e
