-- What the offsets are, said of the listing and of the image. Assumes nothing.
use Rattle.std.specs.Prelude.{◌≡◌, ℕ, ◌<◌, ◌≤◌, ◌↔◌, IsTrue, List, Contains, length, slice_index}
use Rattle.steps.specs.Steps.{Step, covers}
use Rattle.step_offsets.specs.Offsets.{no_offset, place_of, step_offset}

-- each is what a search for that address by itself gives, whatever the others
abbrev pub GivesAlone : List ℕ → List ℕ → ℕ → List ℕ → List ℕ → Type 0
GivesAlone image list base addresses offsets = (i : ℕ) → i < length addresses → slice_index offsets i ≡ step_offset image list base (slice_index addresses i)

-- whichever of some steps covers the place of an address, its offset is given
abbrev pub GivesCovering : List Step → ℕ → List ℕ → List ℕ → Type 0
GivesCovering ss base addresses offsets =
    (i : ℕ) (s : Step) → i < length addresses → Contains ss s → IsTrue (covers (place_of base (slice_index addresses i)) s) → slice_index offsets i ≡ s.offset

-- and inside an image there is one
abbrev pub GivesStepInside : List Step → List ℕ → ℕ → List ℕ → List ℕ → Type 0
GivesStepInside ss image base addresses offsets =
    (i : ℕ) → i < length addresses → let k = place_of base (slice_index addresses i) in
    k < length image → (s : Step) × Contains ss s × IsTrue (covers k s) × (slice_index offsets i ≡ s.offset)

-- outside it, and nowhere inside, there is no offset
abbrev pub GivesNoneOutside : List ℕ → ℕ → List ℕ → List ℕ → Type 0
GivesNoneOutside image base addresses offsets =
    (i : ℕ) → i < length addresses → (slice_index offsets i ≡ no_offset) ↔ (length image ≤ place_of base (slice_index addresses i))

-- nor is there one without an address
abbrev pub GivesNoneWithout : List ℕ → List ℕ → Type 0
GivesNoneWithout addresses offsets = (i : ℕ) → length addresses ≤ i → i < 64 → slice_index offsets i ≡ no_offset
