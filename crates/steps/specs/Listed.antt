-- What a step answers, and what the lent buffer holds then. Assumes nothing.
use Rattle.std.specs.Prelude.{ℕ, ◌+◌, cond, List, ◌==◌, Option, Some, None, Result, Ok, Err, ⊤}
use Rattle.lines.specs.Answer.{printed}
use Rattle.refusal.specs.Refusal.{number}
use Rattle.refusal.specs.declared.Refusal.{Refusal}
use Rattle.refusal.specs.declared.Refusal.TheVariants as R
use Rattle.image.specs.Refusal.{refusal_at}
use Rattle.image.specs.Stretches.{pairs}
use Rattle.image.specs.declared.Stretch.{Stretch}
use Rattle.steps.specs.Steps.{Step, step_of, span_at, has_step}
use Rattle.steps.specs.declared.Listed.{Listed}
use Rattle.steps.specs.declared.Listed.TheVariants.{Line, Refused, NoRoom, End}

-- ---- the parts of an answer
-- none for a line and at the end; 1, 2 or 9 for a word, 3 for the buffer
abbrev pub listed_refusal : Listed → Option Refusal
listed_refusal (Line at bytes n) = None
listed_refusal (Refused r at bytes) = Some r
listed_refusal (NoRoom at) = Some R.NoRoom
listed_refusal (End at) = None

-- the offset: of the step, or of the end mark, "its offset the place"
abbrev pub listed_offset : Listed → ℕ
listed_offset (Line at bytes n) = at
listed_offset (Refused k at bytes) = at
listed_offset (NoRoom at) = at
listed_offset (End at) = at

-- the byte length: "A step refused with 3 gives byte length 0", and so does the end mark
abbrev pub listed_bytes : Listed → ℕ
listed_bytes (Line at bytes n) = bytes
listed_bytes (Refused k at bytes) = bytes
listed_bytes (NoRoom at) = 0
listed_bytes (End at) = 0

-- the line's length
abbrev pub listed_length : Listed → ℕ
listed_length (Line at bytes n) = n
listed_length (Refused k at bytes) = 0
listed_length (NoRoom at) = 0
listed_length (End at) = 0

-- the next place: the step "moves on by that length either way", and one "refused with 3 .. leaves the place where it was"
abbrev pub next_place : Listed → ℕ
next_place r = listed_offset r + listed_bytes r

-- ---- the answer
-- of a step at a place with so many bytes, by what its print answers
abbrev pub told : ℕ → ℕ → Result ℕ Refusal → Listed
told at bytes (Ok n) = Line at bytes n
told at bytes (Err r) = cond (number r == 3) (NoRoom at) (Refused r at bytes)

abbrev pub told_of : ℕ → ℕ → Result ℕ Refusal × List ℕ → Listed × List ℕ
told_of at bytes r = (told at bytes r.0, r.1)

-- of a step into a buffer that holds l, and what it holds then
abbrev pub answered : Step → List ℕ → Listed × List ℕ
answered s l = told_of s.offset s.bytes (printed s.shows l)

-- of an image at a place, by some stretches. "At the image's end the answer is an end mark, its offset the place and its byte length 0"
unfoldable pub listed : List ℕ → List Stretch → ℕ → ℕ → List ℕ → Listed × List ℕ
listed image ss base at l = cond (has_step image ss at) (answered (step_of image (span_at image ss at) base at) l) (End at, l)

-- a refusal, or the step and what the buffer holds then
abbrev pub step_unless : Result ⊤ Refusal → Listed × List ℕ → List ℕ → Result Listed Refusal × List ℕ
step_unless (Ok done) s l = (Ok s.0, s.1)
step_unless (Err r) s l = (Err r, l)

-- of one step of a listing of any image at any place: 6, 7 or 8, or the step
unfoldable pub list_step : List ℕ → List ℕ → ℕ → ℕ → List ℕ → Result Listed Refusal × List ℕ
list_step image list base at l = step_unless (refusal_at image list at) (listed image (pairs list) base at l) l
