-- The steps of a moved image are its steps, each with its address raised. Assumes nothing.
use Rattle.std.proofs.Common.{◌≡◌, ℕ, zero, suc, ◌+◌, ◌-◌, ◌%◌, List, length, refl, arith}
use Rattle.common.proofs.Tests.{by_test}
use Rattle.arm7tdmi.specs.Signed.{moved}
use Rattle.image.specs.Bytes.{half, word}
use Rattle.image.specs.Stretches.{pairs}
use Rattle.image.specs.declared.Image.{Image}
use Rattle.image.specs.declared.Stretch.{Stretch}
use Rattle.steps.specs.Steps.{has_step, span_at, span_bytes, span_line, steps, steps_for}
use Rattle.steps.specs.declared.Span.{Span}
use Rattle.steps.specs.declared.Span.TheVariants.{Word, Half, Pair}
use Rattle.line_address.specs.Elsewhere.{raised, showing}
use Rattle.line_address.proofs.Arm.{arm_moved}
use Rattle.line_address.proofs.Thumb.{pair_moved, thumb_moved}
use Rattle.moved_image.specs.Moved.{raised_steps, span_address, step_address, steps_from}

module _ (d : ℕ) (fours : d % 4 ≡ 0) where
  span_moved : (xs : List ℕ) (x : Span) (p at : ℕ) → span_line xs x (moved p d) at ≡ showing (raised d (span_address xs x p at)) (span_line xs x p at)
  unfolding span_line span_address
  span_moved xs Word p at = arm_moved (word xs at) p d
  span_moved xs Half p at = thumb_moved (half xs at) p d (λ k. fours)
  span_moved xs Pair p at = pair_moved (half xs at) (half xs (at + 2)) p d

  module _ (image : Image) where
    abbrev bytes : List ℕ
    bytes = image.bytes.now

    abbrev ss : List Stretch
    ss = pairs image.stretches.now

    -- what is shown at an offset
    pub shown_moved : (at : ℕ)
        → span_line bytes (span_at bytes ss at) (moved (moved image.base d) at) at
        ≡ showing (raised d (step_address image at)) (span_line bytes (span_at bytes ss at) (moved image.base at) at)
    shown_moved at =
        let p : moved (moved image.base d) at ≡ moved (moved image.base at) d = omega arith in
        rw p (span_moved bytes (span_at bytes ss at) (moved image.base at) at)

    steps_moved_for : (fuel at : ℕ) → steps_for bytes ss (moved image.base d) at fuel ≡ raised_steps image d (steps_for bytes ss image.base at fuel)
    unfolding steps_for
    steps_moved_for zero at = refl
    steps_moved_for (suc fuel) at =
        let ih = steps_moved_for fuel (at + span_bytes (span_at bytes ss at)) in
        by_test (has_step bytes ss at)
        (λ t. rw (t, shown_moved at, ih))
        (λ t. rw t)

    pub steps_moved : (from : ℕ) → steps bytes image.stretches.now (moved image.base d) from ≡ raised_steps image d (steps_from image from)
    unfolding steps
    steps_moved from = steps_moved_for (length bytes - from) from
