-- The listing of an image as a list of steps, of document 02 (v). Assumes nothing.
use Rattle.std.specs.Prelude.{◌≡◌, ℕ, zero, suc, ◌+◌, ◌-◌, ◌<◌, Bool, cond, ◌&&◌, List, [], ◌∷◌, length, nat_le, nat_lt, Option, Some, None}
use Rattle.arm7tdmi.specs.Signed.{moved}
use Rattle.arm7tdmi.specs.declared.Form.TheVariants.{Sheet}
use Rattle.lines.specs.Answer.{Answer}
use Rattle.arm_print.specs.Print.{arm_line}
use Rattle.thumb.specs.Pair.{is_pair}
use Rattle.thumb_print.specs.Print.{thumb_line}
use Rattle.pairs.specs.Print.{pair_line}
use Rattle.image.specs.Bytes.{half, word}
use Rattle.image.specs.Stretches.{pairs, set_at}
use Rattle.image.specs.declared.Stretch.{Stretch}
use Rattle.image.specs.declared.Set.{Set}
use Rattle.image.specs.declared.Set.TheVariants.{Arm, Thumb}
use Rattle.steps.specs.declared.Span.{Span}
use Rattle.steps.specs.declared.Span.TheVariants.{Word, Half, Pair}

-- "A call pair inside one stretch", which ends at e
unfoldable pub call_pair : List ℕ → ℕ → ℕ → Bool
call_pair image e at = nat_le (at + 4) e && is_pair (half image at) (half image (at + 2))

-- what a step covers, by the set at its place: "A call pair inside one stretch is one step"
unfoldable pub span_in : List ℕ → Set → ℕ → Span
span_in image Arm at = Word
span_in image (Thumb e) at = cond (call_pair image e at) Pair Half

-- how many bytes that is: a call pair is a "step of 4 bytes"
abbrev pub span_bytes : Span → ℕ
span_bytes Word = 4
span_bytes Half = 2
span_bytes Pair = 4

-- what it shows at an address p: "a sheet line, or refusal 1 or 2 for that word", and 9, "as for 1 and 2"
unfoldable pub span_line : List ℕ → Span → ℕ → ℕ → Answer
span_line image Word p at = arm_line Sheet p (word image at)
span_line image Half p at = thumb_line Sheet p (half image at)
span_line image Pair p at = pair_line p (half image at) (half image (at + 2))

-- "Each step gives an offset, a byte length and a sheet line, or refusal"
pub record Step : Type 0 where
  pub offset : ℕ
  pub bytes : ℕ
  pub shows : Answer

-- the step of a span at a place. "Its address is the base plus the offset, modulo 2^32."
abbrev pub step_of : List ℕ → Span → ℕ → ℕ → Step
step_of image x base at = record { offset = at; bytes = span_bytes x; shows = span_line image x (moved base at) at }

-- the span at a place by some stretches, and whether the image has all of its bytes
abbrev pub span_at : List ℕ → List Stretch → ℕ → Span
span_at image ss at = span_in image (set_at ss at) at

abbrev pub has_step : List ℕ → List Stretch → ℕ → Bool
has_step image ss at = nat_le (at + span_bytes (span_at image ss at)) (length image)

-- ".. and moves on by that length": the steps from a place on, at most as many as the fuel
unfoldable pub steps_for : List ℕ → List Stretch → ℕ → ℕ → ℕ → List Step
steps_for image ss base at zero = []
steps_for image ss base at (suc fuel) =
    cond (has_step image ss at) (step_of image (span_at image ss at) base at ∷ steps_for image ss base (at + span_bytes (span_at image ss at)) fuel) []

-- the listing of an image with a base from a place on: no more steps than bytes, as each has two at least
unfoldable pub steps : List ℕ → List ℕ → ℕ → ℕ → List Step
steps image list base from = steps_for image (pairs list) base from (length image - from)

-- ---- what is said of a listing
-- the bytes of some steps together
unfoldable pub total : List Step → ℕ
total [] = 0
total (s ∷ ss) = s.bytes + total ss

-- each step begins where the one before ends, the first at a place, and the last ends at another
abbrev pub Follow : ℕ → List Step → ℕ → Type 0
Follow at [] to = at ≡ to
Follow at (s ∷ ss) to = (s.offset ≡ at) × (0 < s.bytes) × Follow (at + s.bytes) ss to

-- whether a byte is in a step, and in how many of some steps it is
abbrev pub covers : ℕ → Step → Bool
covers k s = nat_le s.offset k && nat_lt k (s.offset + s.bytes)

unfoldable pub times : ℕ → List Step → ℕ
times k [] = 0
times k (s ∷ ss) = cond (covers k s) 1 0 + times k ss

-- ---- for the contracts of inner functions
-- the span at a place, or none where there is no step
abbrev pub span_here : List ℕ → List Stretch → ℕ → Option Span
span_here image ss at = cond (has_step image ss at) (Some (span_at image ss at)) None
