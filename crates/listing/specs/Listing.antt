-- A listing that holds the image and its place: how it is opened and resumed, and what a step of it is. Assumes nothing.
use Rattle.std.specs.Prelude.{◌≡◌, List, [], ℕ, Option, Some, None, Result, Ok, Err, ⊤}
use Rattle.refusal.specs.declared.Refusal.{Refusal}
use Rattle.image.specs.Refusal.{refusal_at}
use Rattle.image.specs.Stretches.{pairs}
use Rattle.steps.specs.Listed.{listed, next_place}
use Rattle.steps.specs.declared.Listed.{Listed}
use Rattle.listing.specs.declared.Listing.{Listing}

-- "A resumption refused with 6, 7 or 8 holds no bytes and stands at offset 0": what it holds of a list of bytes, and where it stands
abbrev pub held_of : List ℕ → Result ⊤ Refusal → List ℕ
held_of bytes (Ok done) = bytes
held_of bytes (Err r) = []

abbrev pub place_of : ℕ → Result ⊤ Refusal → ℕ
place_of offset (Ok done) = offset
place_of offset (Err r) = 0

abbrev pub refusal_of : Result ⊤ Refusal → Option Refusal
refusal_of (Ok done) = None
refusal_of (Err r) = Some r

-- "put aside as its offset and resumed over the altered image": a listing of an image and its stretches that is resumed at an offset
pub record Resumed (image list : List ℕ) (base offset : ℕ) (l : Listing) : Type 0 where
  pub image_held : l.walk.image.bytes.now ≡ held_of image (refusal_at image list offset)
  pub stretches_held : l.walk.image.stretches.now ≡ held_of list (refusal_at image list offset)
  pub base_held : l.walk.image.base ≡ base
  pub refusal_held : l.refusal ≡ refusal_of (refusal_at image list offset)
  pub place_held : l.walk.place ≡ place_of offset (refusal_at image list offset)

-- one from the start, where no 8 is given (`start_same`)
abbrev pub Opened : List ℕ → List ℕ → ℕ → Listing → Type 0
Opened image list base l = Resumed image list base 0 l

-- the answer of a step of a listing l into a buffer that holds ys, and what the buffer holds then
abbrev pub step_from : Listing → List ℕ → Listed × List ℕ
step_from l ys = let i = l.walk.image in listed i.bytes.now (pairs i.stretches.now) i.base l.walk.place ys

-- one step: the answer r and the buffer's bytes zs, and the listing l' behind it, which holds the same and stands at the next place
pub record SteppedIs (l : Listing) (ys : List ℕ) (r : Listed) (zs : List ℕ) (l' : Listing) : Type 0 where
  pub answer : step_from l ys ≡ (r, zs)
  pub image_kept : l'.walk.image ≡ l.walk.image
  pub refusal_kept : l'.refusal ≡ l.refusal
  pub place_next : l'.walk.place ≡ next_place r
