-- The listing of an image whose code is moved: step by step the same, with each address raised. Assumes nothing.
use Rattle.std.specs.Prelude.{◌≡◌, ℕ, ◌+◌, List, length, map, Option}
use Rattle.arm7tdmi.specs.Signed.{moved}
use Rattle.image.specs.Bytes.{half, word}
use Rattle.image.specs.Stretches.{pairs}
use Rattle.image.specs.declared.Image.{Image}
use Rattle.steps.specs.Steps.{Step, span_at, steps}
use Rattle.steps.specs.declared.Span.{Span}
use Rattle.steps.specs.declared.Span.TheVariants.{Word, Half, Pair}
use Rattle.line_address.specs.Shown.{arm_address, pair_address, thumb_address}
use Rattle.line_address.specs.Elsewhere.{raised, showing}
use Rattle.listing.specs.Listing.{Resumed}
use Rattle.listing.specs.Run.{run}
use Rattle.listing.specs.declared.Listing.{Listing}

-- the address that what a step covers shows, where it stands at an address p
unfoldable pub span_address : List ℕ → Span → ℕ → ℕ → Option ℕ
span_address bytes Word p at = arm_address p (word bytes at)
span_address bytes Half p at = thumb_address p (half bytes at)
span_address bytes Pair p at = pair_address p (half bytes at) (half bytes (at + 2))

-- the address that the step of an image at an offset shows
abbrev pub step_address : Image → ℕ → Option ℕ
step_address image at = span_address image.bytes.now (span_at image.bytes.now (pairs image.stretches.now) at) (moved image.base at) at

-- a step of it with its address raised by d: its offset, its byte length and a refusal stay
abbrev pub raised_step : Image → ℕ → Step → Step
raised_step image d s = record { offset = s.offset; bytes = s.bytes; shows = showing (raised d (step_address image s.offset)) s.shows }

abbrev pub raised_steps : Image → ℕ → List Step → List Step
raised_steps image d ss = map (raised_step image d) ss

-- the steps of an image from an offset on
abbrev pub steps_from : Image → ℕ → List Step
steps_from image from = steps image.bytes.now image.stretches.now image.base from

-- a listing of one image and one of another, both from the same offset on: run in as many calls into buffers of one length, the other shows what the one does, with
-- each address raised by d
abbrev pub RunsRaised : Image → Image → ℕ → Type 0
RunsRaised image other d =
    (offset : ℕ) (here there : Listing)
    → Resumed image.bytes.now image.stretches.now image.base offset here → Resumed other.bytes.now other.stretches.now other.base offset there
    → (ys zs : List ℕ) → length zs ≡ length ys → (calls : ℕ) → run there zs calls ≡ raised_steps image d (run here ys calls)
