-- Where a Thumb word or a call pair stands elsewhere, its line is the same but for the address. Assumes nothing.
use Rattle.std.proofs.Common.{◌≡◌, ◌↔◌, ℕ, ◌%◌, List, ◌++◌, Some, None, IfSome, refl, ap, ◌∙◌, arith}
use Rattle.common.proofs.Tests.{by_test}
use Rattle.common.specs.Bits.{bit_range}
use Rattle.text.specs.Text.{text}
use Rattle.text.specs.Digits.{prefixed}
use Rattle.arm7tdmi.specs.Signed.{extended, moved}
use Rattle.arm7tdmi.specs.declared.Form.TheVariants.{Sheet}
use Rattle.thumb.specs.Fields.{bcond_target, branch_target, pc_load_address, word8}
use Rattle.thumb.specs.Kinds.{thumb_format}
use Rattle.thumb.specs.Pair.{is_pair, pair_target}
use Rattle.thumb.specs.declared.ThumbFormat.{ThumbFormat}
use Rattle.thumb.specs.declared.ThumbFormat.TheVariants as H
use Rattle.refusal.specs.declared.Refusal.TheVariants.{NoPair}
use Rattle.lines.specs.Answer.{line, printed, refused}
use Rattle.lines.specs.Pieces.{cond_at, reg_at}
use Rattle.thumb_disass.specs.Line.{fmt_thumb_branch, fmt_thumb_branch_with_cond, fmt_thumb_ldr_pc, line_of}
use Rattle.thumb_print.specs.Print.{thumb_line}
use Rattle.pairs.specs.Print.{pair_line, pair_text}
use Rattle.line_address.specs.Elsewhere.{raised, showing}
use Rattle.line_address.specs.Shown.{EndsIn, pair_address, thumb_address, thumb_kind_address}
use Rattle.line_address.proofs.Placed.{Placed, elsewhere, ends, ends_in, same_answer, stays, unmoved}
use Rattle.line_address.proofs.Raised.{load_raised, pair_raised, raised_behind}

module _ (raw : ℕ) where
  load : Placed (λ p. line (fmt_thumb_ldr_pc Sheet p raw)) (λ p. Some (pc_load_address p raw))
  unfolding fmt_thumb_ldr_pc pc_load_address
  load = ends (text "ldr\t" ++ reg_at raw 8 11 ++ text ", [pc, #" ++ prefixed 1 (word8 raw) ++ text "] ; = #") (λ p. pc_load_address p raw) (λ p. omega arith)

  branch_with_cond : Placed (λ p. line (fmt_thumb_branch_with_cond Sheet p raw)) (λ p. Some (bcond_target p raw))
  unfolding fmt_thumb_branch_with_cond bcond_target
  branch_with_cond = ends (text "b" ++ cond_at raw 8 12 ++ text "\t") (λ p. bcond_target p raw) (λ p. omega arith)

  branch : Placed (λ p. line (fmt_thumb_branch Sheet p raw)) (λ p. Some (branch_target p raw))
  unfolding fmt_thumb_branch branch_target
  branch = ends (text "b\t") (λ p. branch_target p raw) (λ p. omega arith)

  kind_placed : (fmt : ThumbFormat) → Placed (λ p. line (line_of Sheet fmt p raw)) (λ p. thumb_kind_address fmt p raw)
  unfolding line_of
  kind_placed H.LdrPc = load
  kind_placed H.BranchConditional = branch_with_cond
  kind_placed H.Branch = branch
  kind_placed other = stays (line (line_of Sheet other 0 raw))

  pub thumb_placed : Placed (λ p. thumb_line Sheet p raw) (λ p. thumb_address p raw)
  unfolding thumb_line thumb_address
  thumb_placed = kind_placed (thumb_format Sheet raw)

  kind_raised : (p d : ℕ) (fmt : ThumbFormat) → (fmt ≡ H.LdrPc → d % 4 ≡ 0) → thumb_kind_address fmt (moved p d) raw ≡ raised d (thumb_kind_address fmt p raw)
  unfolding bcond_target branch_target
  kind_raised p d H.LdrPc h = ap Some (load_raised p d raw (h refl))
  kind_raised p d H.BranchConditional h = ap Some (raised_behind p d 4 (extended 8 2 (bit_range raw 0 8)))
  kind_raised p d H.Branch h = ap Some (raised_behind p d 4 (extended 11 2 (bit_range raw 0 11)))
  kind_raised p d other h = refl

  thumb_raised : (p d : ℕ) → (thumb_format Sheet raw ≡ H.LdrPc → d % 4 ≡ 0) → thumb_address (moved p d) raw ≡ raised d (thumb_address p raw)
  unfolding thumb_address
  thumb_raised p d h = kind_raised p d (thumb_format Sheet raw) h

  -- what is promised of it
  pub thumb_ends : (p : ℕ) → IfSome (thumb_address p raw) (EndsIn (thumb_line Sheet p raw))
  thumb_ends p = ends_in thumb_placed p

  pub thumb_moved : (p d : ℕ) → (thumb_format Sheet raw ≡ H.LdrPc → d % 4 ≡ 0) → thumb_line Sheet (moved p d) raw ≡ showing (raised d (thumb_address p raw)) (thumb_line Sheet p raw)
  thumb_moved p d h = elsewhere thumb_placed p (moved p d) ∙ rw (thumb_raised p d h)

  pub thumb_unmoved : (p : ℕ) → (thumb_address p raw ≡ None) ↔ ((d : ℕ) → thumb_line Sheet (moved p d) raw ≡ thumb_line Sheet p raw)
  thumb_unmoved p = unmoved thumb_placed p (thumb_raised p 4 (λ e. refl))

  pub thumb_same : (p d : ℕ) (ys : List ℕ) → (printed (thumb_line Sheet (moved p d) raw) ys).0 ≡ (printed (thumb_line Sheet p raw) ys).0
  thumb_same p d ys = same_answer thumb_placed p (moved p d) ys

-- two halfwords, as a call pair or as none
module _ (first second : ℕ) where
  pair_placed : Placed (λ p. pair_line p first second) (λ p. pair_address p first second)
  unfolding pair_line pair_text pair_address pair_target
  pair_placed =
      by_test (is_pair first second)
      (λ t. rw t (ends (text "bl\t") (λ p. pair_target p first second) (λ p. omega arith)))
      (λ t. rw t (stays (refused NoPair)))

  pair_address_raised : (p d : ℕ) → pair_address (moved p d) first second ≡ raised d (pair_address p first second)
  unfolding pair_address
  pair_address_raised p d = by_test (is_pair first second) (λ t. rw (t, pair_raised p d first second)) (λ t. rw t)

  -- what is promised of them
  pub pair_ends : (p : ℕ) → IfSome (pair_address p first second) (EndsIn (pair_line p first second))
  pair_ends p = ends_in pair_placed p

  pub pair_moved : (p d : ℕ) → pair_line (moved p d) first second ≡ showing (raised d (pair_address p first second)) (pair_line p first second)
  pair_moved p d = elsewhere pair_placed p (moved p d) ∙ rw (pair_address_raised p d)

  pub pair_unmoved : (p : ℕ) → (pair_address p first second ≡ None) ↔ ((d : ℕ) → pair_line (moved p d) first second ≡ pair_line p first second)
  pair_unmoved p = unmoved pair_placed p (pair_address_raised p 4)

  pub pair_same : (p d : ℕ) (ys : List ℕ) → (printed (pair_line (moved p d) first second) ys).0 ≡ (printed (pair_line p first second) ys).0
  pair_same p d ys = same_answer pair_placed p (moved p d) ys
