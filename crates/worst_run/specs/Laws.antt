-- Which run the worst is, said of the listing's steps, and not by a list of runs. Assumes nothing.
use Rattle.std.specs.Prelude.{◌≡◌, ℕ, ◌<◌, ◌≤◌, min, List, ◌++◌, length}
use Rattle.steps.specs.Steps.{Step}
use Rattle.worst_run.specs.Worst.{first_offset, invalid_count, run_of}
use Rattle.worst_run.specs.declared.Run.{Run}

-- a run of a listing: n consecutive steps, or all of them where there are fewer
pub record IsRun (n : ℕ) (listing run : List Step) : Type 0 where
  pub before : List Step
  pub behind : List Step
  pub consecutive : listing ≡ before ++ run ++ behind
  pub long : length run ≡ min n (length listing)

-- some run has the count, and begins at the offset
abbrev pub IsReached : ℕ → List Step → Run → Type 0
IsReached n listing worst = (run : List Step) × IsRun n listing run × (run_of run ≡ worst)

-- no run has more
abbrev pub HasMost : ℕ → List Step → Run → Type 0
HasMost n listing worst = (run : List Step) → IsRun n listing run → invalid_count run ≤ worst.count

-- each run that begins before it has fewer
abbrev pub IsFirst : ℕ → List Step → Run → Type 0
IsFirst n listing worst = (run : List Step) → IsRun n listing run → first_offset run < worst.offset → invalid_count run < worst.count

-- its count is n at most, and its offset no larger than the image is long, which is 65,536 bytes at most
abbrev pub IsSmall : ℕ → List ℕ → Run → Type 0
IsSmall n image worst = (worst.count ≤ n) × (worst.offset ≤ length image) × (length image ≤ 65536)
