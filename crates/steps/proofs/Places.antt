-- The place behind a step: it is not refused where the place of the step was not. Assumes nothing.
use Rattle.std.proofs.Common.{◌≡◌, ℕ, ◌+◌, ◌<◌, eqb, List, length, add-zero, arith, Result, Ok, Err}
use Rattle.common.proofs.Tests.{by_test}
use Rattle.arm7tdmi.specs.Signed.{moved}
use Rattle.lines.specs.Answer.{printed}
use Rattle.refusal.specs.Refusal.{number}
use Rattle.refusal.specs.declared.Refusal.{Refusal}
use Rattle.image.specs.Refusal.{refusal_at}
use Rattle.image.specs.Stretches.{pairs}
use Rattle.image.proofs.Valid.{valid, placed, placed_fine, not_refused}
use Rattle.steps.specs.Steps.{span_at, span_bytes, span_line, has_step}
use Rattle.steps.specs.Listed.{listed, list_step, next_place, told}
use Rattle.steps.specs.declared.Listed.{Listed}
use Rattle.steps.proofs.Answers.{step_from_place}
use Rattle.steps.proofs.Steps.{some_bytes, step_inside, place_next}

-- behind what is told stands the place or the step's end
told_next : (P : ℕ → Type 0) (at n : ℕ) (p : Result ℕ Refusal) → P at → P (at + n) → P (next_place (told at n p))
told_next P at n (Ok m) here behind = behind
told_next P at n (Err r) here behind = by_test (eqb (number r) 3) (λ u. rw (u, add-zero) here) (λ u. rw u behind)

pub next_listed : (image list : List ℕ) (base at : ℕ) (l : List ℕ) → refusal_at image list at ≡ Ok tt → refusal_at image list (next_place (listed image (pairs list) base at l).0) ≡ Ok tt
unfolding listed
next_listed image list base at l e =
    let v = valid image list (not_refused image list at e) in
    let x = span_at image (pairs list) at in
    let b = some_bytes x in
    by_test (has_step image (pairs list) at)
    (λ t. let i = step_inside image (pairs list) at t in
    let h : at < length image = omega (arith, b, i) in
    rw t
    (told_next (λ (k : ℕ). refusal_at image list k ≡ Ok tt) at (span_bytes x) (printed (span_line image x (moved base at) at) l).0 e
    (placed_fine image list (at + span_bytes x) (not_refused image list at e) (place_next image list v at h (placed image list at e)))))
    (λ t. rw (t, add-zero) e)

pub next_fine : (image list : List ℕ) (base at : ℕ) (l : List ℕ) (r : Listed) (zs : List ℕ) → list_step image list base at l ≡ (Ok r, zs) → refusal_at image list (next_place r) ≡ Ok tt
next_fine image list base at l r zs e =
    let s = step_from_place image list base at l r zs e in
    rw s.1 at (next_listed image list base at l s.0)
