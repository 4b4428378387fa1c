-- A listing that is run to its end. Assumes nothing.
use Rattle.std.specs.Prelude.{List, [], ◌∷◌, ℕ, zero, suc, take}
use Rattle.lines.specs.Answer.{refused, line}
use Rattle.image.specs.Stretches.{pairs}
use Rattle.steps.specs.Steps.{Step}
use Rattle.steps.specs.Listed.{listed, next_place}
use Rattle.steps.specs.declared.Listed.{Listed}
use Rattle.steps.specs.declared.Listed.TheVariants.{Line, Refused, NoRoom, End}
use Rattle.listing.specs.declared.Listing.{Listing}

-- the step that an answer shows, with what the buffer holds then, before those that come behind it; at the end mark, or where nothing moves on, none
abbrev pub shown : Listed → List ℕ → List Step → List Step
shown (Line at bytes n) held behind = record { offset = at; bytes = bytes; shows = line (take n held) } ∷ behind
shown (Refused k at bytes) held behind = record { offset = at; bytes = bytes; shows = refused k } ∷ behind
shown (NoRoom at) held behind = []
shown (End at) held behind = []

-- the steps that are shown of an image from a place on, call after call into one buffer until the end mark, in at most so many calls
unfoldable pub run_from : List ℕ → List ℕ → ℕ → ℕ → List ℕ → ℕ → List Step
run_from image list base at ys zero = []
run_from image list base at ys (suc calls) =
    let a = listed image (pairs list) base at ys in
    shown a.0 a.1 (run_from image list base (next_place a.0) a.1 calls)

-- and so those that a listing shows: a step answers what stands at its place, and leaves it with the same image at the next (`SteppedIs`)
abbrev pub run : Listing → List ℕ → ℕ → List Step
run l ys calls = let i = l.walk.image in run_from i.bytes.now i.stretches.now i.base l.walk.place ys calls
