-- What stands at a place tells whether its step shows no instruction, at whatever address. Assumes nothing.
use Rattle.std.proofs.Common.{◌≡◌, ℕ, ◌+◌, false, List, sym, ◌∙◌}
use Rattle.common.specs.Lists.{same}
use Rattle.common.proofs.Tests.{by_test}
use Rattle.lines.specs.Answer.{is_invalid}
use Rattle.arm7tdmi.specs.declared.Form.TheVariants.{Sheet}
use Rattle.arm_print.proofs.Shown as Arm
use Rattle.thumb.specs.Pair.{is_pair}
use Rattle.thumb_print.proofs.Shown as Thumb
use Rattle.pairs.specs.Print.{pair_line, pair_text}
use Rattle.image.specs.Bytes.{half, word}
use Rattle.steps.specs.Steps.{span_line}
use Rattle.steps.specs.declared.Span.{Span}
use Rattle.steps.specs.declared.Span.TheVariants.{Word, Half, Pair}

-- a call pair is refused with 5 at most, and that does not count; its line is another
pub pair_valid : (pc first second : ℕ) → is_invalid (pair_line pc first second) ≡ false
unfolding pair_line pair_text same
pair_valid pc first second = by_test (is_pair first second) (λ t. rw t) (λ t. rw t)

pub any_address : (image : List ℕ) (x : Span) (p q at : ℕ) → is_invalid (span_line image x p at) ≡ is_invalid (span_line image x q at)
unfolding span_line
any_address image Word p q at = Arm.shown_invalid Sheet p (word image at) ∙ sym (Arm.shown_invalid Sheet q (word image at))
any_address image Half p q at = Thumb.shown_invalid Sheet p (half image at) ∙ sym (Thumb.shown_invalid Sheet q (half image at))
any_address image Pair p q at = pair_valid p (half image at) (half image (at + 2)) ∙ sym (pair_valid q (half image at) (half image (at + 2)))
