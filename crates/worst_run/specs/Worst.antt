-- The worst run of a listing. Assumes nothing.
use Rattle.std.specs.Prelude.{ℕ, false, ◌==◌, cond, List, [], ◌∷◌, length, take, map, max, fold, count_by, find, unwrap_or, nat_lt, nat_le, Result, Ok, Err, ⊤}
use Rattle.refusal.specs.Refusal.{number}
use Rattle.refusal.specs.declared.Refusal.{Refusal}
use Rattle.lines.specs.Answer.{is_invalid}
use Rattle.image.specs.Refusal.{refusal}
use Rattle.steps.specs.Steps.{Step, steps}
use Rattle.worst_run.specs.declared.Run.{Run}
use Rattle.worst_run.specs.declared.window.Kept.{Kept}

-- all runs of n consecutive elements of a list, in the order in which they begin; where there are fewer, all of them are one run
unfoldable pub runs : {A : Type 0} → ℕ → List A → List (List A)
runs n [] = [] ∷ []
runs n (x ∷ xs) = take n (x ∷ xs) ∷ cond (nat_lt n (length (x ∷ xs))) (runs n xs) []

-- how many steps of a run show no instruction, and the offset of its first; without a step 0 and 0
abbrev pub invalid_count : List Step → ℕ
invalid_count run = count_by (λ s. is_invalid s.shows) run

abbrev pub first_offset : List Step → ℕ
first_offset [] = 0
first_offset (s ∷ ss) = s.offset

abbrev pub run_of : List Step → Run
run_of run = record { count = invalid_count run; offset = first_offset run }

-- the largest count of some runs, and the first of them that has it; there is one wherever there is a run
abbrev pub largest_count : List Run → ℕ
largest_count rs = fold max 0 (map (λ r. r.count) rs)

abbrev pub no_run : Run
no_run = record { count = 0; offset = 0 }

abbrev pub worst_of : List Run → Run
worst_of rs = unwrap_or (find (λ r. r.count == largest_count rs) rs) no_run

-- a refusal, or a run
abbrev pub run_unless : Result ⊤ Refusal → Run → Result Run Refusal
run_unless (Ok done) run = Ok run
run_unless (Err r) run = Err r

-- of an image's listing from its start, the worst of all runs of 256 steps; or 6 or 7
unfoldable pub worst_run : List ℕ → List ℕ → ℕ → Result Run Refusal
worst_run image list base = run_unless (refusal image list) (worst_of (map run_of (runs 256 (steps image list base 0))))

-- an answer as three numbers: 0, the count and the offset, or the refusal's number and twice 0
abbrev pub run_numbers : Result Run Refusal → ℕ × ℕ × ℕ
run_numbers (Ok run) = (0, run.count, run.offset)
run_numbers (Err r) = (number r, 0, 0)

-- ---- for the contracts of inner functions
-- of a run and a later one, the one with the larger count, or the first
abbrev pub or_worse : Run → Run → Run
or_worse r later = cond (nat_le later.count r.count) r later

-- what is kept of a step, and the run that some kept steps are
abbrev pub kept : Step → Kept
kept s = record { invalid = is_invalid s.shows; offset = s.offset }

abbrev pub kept_offset : List Kept → ℕ
kept_offset [] = 0
kept_offset (k ∷ ks) = k.offset

abbrev pub kept_run : List Kept → Run
kept_run ks = record { count = count_by (λ k. k.invalid) ks; offset = kept_offset ks }

-- what stands in a window for a step before the first
abbrev pub blank : Kept
blank = record { invalid = false; offset = 0 }
