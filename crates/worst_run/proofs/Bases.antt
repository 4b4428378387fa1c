-- The worst run by what is kept of the steps, which is the same at each base. Assumes nothing.
use Rattle.std.proofs.Common.{◌≡◌, ℕ, zero, suc, ◌+◌, ◌-◌, cond, List, [], ◌∷◌, length, map, Ok, refl, sym, ap, ap₂, ◌∙◌, arith}
use Rattle.std.proofs.lemmas.List.Sums.{sum_by-cons}
use Rattle.common.proofs.Tests.{by_test}
use Rattle.lines.specs.Answer.{is_invalid}
use Rattle.arm7tdmi.specs.Signed.{moved}
use Rattle.image.specs.Refusal.{refusal}
use Rattle.image.specs.Stretches.{pairs}
use Rattle.image.specs.declared.Stretch.{Stretch}
use Rattle.steps.specs.Steps.{Step, has_step, span_at, span_bytes, steps, steps_for}
use Rattle.worst_run.specs.Worst.{invalid_count, kept, kept_run, run_of, runs, worst_of, worst_run}
use Rattle.worst_run.specs.declared.Run.{Run}
use Rattle.worst_run.specs.declared.window.Kept.{Kept}
use Rattle.worst_run.proofs.Invalid.{any_address}
use Rattle.worst_run.proofs.Runs.{runs_map}
use Rattle.worst_run.proofs.Windows.{count_cons}

-- ---- a run by what is kept
same_count : (ss : List Step) → (kept_run (map kept ss)).count ≡ invalid_count ss
same_count [] = refl
same_count (s ∷ ss) = let ih = same_count ss in omega (arith, count_cons (kept s) (map kept ss), sum_by-cons (λ t. cond (is_invalid t.shows) 1 0) s ss)

same_run : (ss : List Step) → kept_run (map kept ss) ≡ run_of ss
same_run [] = refl
same_run (s ∷ ss) = ap (λ (c : ℕ). record { count = c; offset = s.offset }) (same_count (s ∷ ss))

same_runs : (rs : List (List Step)) → map kept_run (map (map kept) rs) ≡ map run_of rs
same_runs [] = refl
same_runs (r ∷ rs) = ap₂ (λ (s : Run) (t : List Run). s ∷ t) (same_run r) (same_runs rs)

pub worst_kept : (n : ℕ) (ss : List Step) → worst_of (map kept_run (runs n (map kept ss))) ≡ worst_of (map run_of (runs n ss))
worst_kept n ss = ap (λ (rs : List (List Kept)). worst_of (map kept_run rs)) (runs_map kept n ss) ∙ ap worst_of (same_runs (runs n ss))

-- ---- the steps of an image at two bases
kept_for : (image : List ℕ) (ss : List Stretch) (a b fuel at : ℕ) → map kept (steps_for image ss a at fuel) ≡ map kept (steps_for image ss b at fuel)
unfolding steps_for
kept_for image ss a b zero at = refl
kept_for image ss a b (suc fuel) at =
    let x = span_at image ss at in
    let ih = kept_for image ss a b fuel (at + span_bytes x) in
    by_test (has_step image ss at)
    (λ t. rw t (ap₂ (λ (i : _) (ks : List Kept). record { invalid = i; offset = at } ∷ ks) (any_address image x (moved a at) (moved b at) at) ih))
    (λ t. rw t)

any_worst : (n : ℕ) (image list : List ℕ) (a b : ℕ) → worst_of (map run_of (runs n (steps image list a 0))) ≡ worst_of (map run_of (runs n (steps image list b 0)))
unfolding steps
any_worst n image list a b =
    sym (worst_kept n (steps image list a 0))
    ∙ ap (λ (ks : List Kept). worst_of (map kept_run (runs n ks))) (kept_for image (pairs list) a b (length image - 0) 0)
    ∙ worst_kept n (steps image list b 0)

-- so what is found at one is the answer at each
pub any_answer : (image list : List ℕ) (a b : ℕ) → refusal image list ≡ Ok tt → Ok (worst_of (map run_of (runs 256 (steps image list a 0)))) ≡ worst_run image list b
unfolding worst_run
any_answer image list a b e = rw e (ap Ok (any_worst 256 image list a b))
