-- A run of halfwords: the earliest half that lacks its partner. Assumes nothing.
use Rattle.std.specs.Prelude.{ℕ, ◌+◌, Bool, cond, not, ◌&&◌, ◌||◌, List, ◌∷◌, length, nat_lt, slice_index, Option, Some, None}
use Rattle.common.specs.Lowest.{lowest}
use Rattle.thumb.specs.Pair.{is_first_half, is_second_half}

-- "lacks its partner (directly behind a first half, directly before a second)": a halfword, with the one before it and the one behind it
unfoldable pub lacks : ℕ → ℕ → ℕ → Bool
lacks before h behind = (is_first_half h && not (is_second_half behind)) || (is_second_half h && not (is_first_half before))

-- the halfword at i of a run, and the one before it: 0, which is no half, where the run has none
abbrev pub half_at : List ℕ → ℕ → ℕ
half_at run i = slice_index run i

abbrev pub half_before : List ℕ → ℕ → ℕ
half_before run i = slice_index (0 ∷ run) i

abbrev pub lacks_at : List ℕ → ℕ → Bool
lacks_at run i = lacks (half_before run i) (half_at run i) (half_at run (i + 1))

-- "the index of the earliest half, of either kind, that lacks its partner"; the run's length where none does
unfoldable pub first_unpaired : List ℕ → ℕ
first_unpaired run = lowest (lacks_at run) (length run)

-- "or says that all are paired"
abbrev pub pairing_of : ℕ → ℕ → Option ℕ
pairing_of count i = cond (nat_lt i count) (Some i) None

unfoldable pub unpaired : List ℕ → Option ℕ
unpaired run = pairing_of (length run) (first_unpaired run)

-- an answer as numbers: 1 and the index, or 0 and index 0 where all are paired
abbrev pub pairing_number : Option ℕ → ℕ
pairing_number (Some i) = 1
pairing_number None = 0

abbrev pub pairing_index : Option ℕ → ℕ
pairing_index (Some i) = i
pairing_index None = 0
