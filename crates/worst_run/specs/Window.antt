-- What a window of kept steps takes in, and what the bytes of its ring mean: for the contracts of inner functions. Assumes nothing.
use Rattle.std.specs.Prelude.{ℕ, ◌+◌, ◌/◌, ◌%◌, ◌<◌, ◌≤◌, ◌==◌, List, [], ◌∷◌, fold}
use Rattle.worst_run.specs.declared.window.Kept.{Kept}

-- where the latest of some kept steps begins; with none 0
abbrev pub latest_offset : List Kept → ℕ
latest_offset ks = fold (λ at k. k.offset) 0 ks

-- whether a step may come behind some: it begins where the latest of them does, or at most 127 bytes further on
abbrev pub IsNear : List Kept → Kept → Type 0
IsNear ks k = (latest_offset ks ≤ k.offset) × (k.offset < latest_offset ks + 128)

-- a kept step as a byte: twice the distance from where the step before it begins, and one more where it shows an instruction
abbrev pub kept_at : ℕ → ℕ → Kept
kept_at before b = record { invalid = b % 2 == 0; offset = before + b / 2 }

-- some kept steps, behind one that begins at an offset
unfoldable pub kept_from : ℕ → List ℕ → List Kept
kept_from before [] = []
kept_from before (b ∷ bs) = kept_at before b ∷ kept_from (before + b / 2) bs

-- some, of which the first begins at an offset
abbrev pub kept_ring : ℕ → List ℕ → List Kept
kept_ring at [] = []
kept_ring at (b ∷ bs) = record { invalid = b % 2 == 0; offset = at } ∷ kept_from at bs
