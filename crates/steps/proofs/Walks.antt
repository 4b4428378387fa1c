-- A walk's step, by the stretches that are left to it, is one of the listing. Assumes nothing.
use Rattle.std.proofs.Common.{◌≡◌, ℕ, ◌+◌, cond, List, [], ◌∷◌, Some, None, length, nat_le, ap, ◌∙◌, arith}
use Rattle.image.specs.Stretches.{Passed, first_left, left, pairs, set_at}
use Rattle.image.specs.declared.Set.{Set}
use Rattle.image.proofs.Stretches.{left_same, passed_same}
use Rattle.steps.specs.Steps.{step_of, span_in, span_bytes, span_here, steps}
use Rattle.steps.specs.Listed.{listed}
use Rattle.steps.specs.declared.Span.{Span}
use Rattle.steps.proofs.Answers.{listed_same}
use Rattle.steps.proofs.Steps.{span_none, span_some, steps_end, steps_next}

module _ (image list : List ℕ) (base next at still : ℕ) (passed : Passed list next at) (is : still ≡ first_left list next at) where
  -- the set at the place, and so what a step covers there and what it answers
  set_still : set_at (left list still) at ≡ set_at (pairs list) at
  set_still = rw is (left_same list next at at (omega arith) ∙ passed_same list next at at passed (omega arith))

  span_still : span_here image (left list still) at ≡ span_here image (pairs list) at
  span_still = ap (λ (s : Set). cond (nat_le (at + span_bytes (span_in image s at)) (length image)) (Some (span_in image s at)) None) set_still

  pub listed_still : (l : List ℕ) → listed image (left list still) base at l ≡ listed image (pairs list) base at l
  listed_still l = listed_same image (left list still) (pairs list) base at l set_still

  -- where there is none the listing ends; else it goes on behind the step
  pub walk_end : None ≡ span_here image (left list still) at → steps image list base at ≡ []
  walk_end e = steps_end image list base at (span_none image (pairs list) at (e ∙ span_still))

  pub walk_on : (x : Span) → Some x ≡ span_here image (left list still) at → steps image list base at ≡ step_of image x base at ∷ steps image list base (at + span_bytes x)
  walk_on x e =
      let s = span_some image (pairs list) at x (e ∙ span_still) in
      rw s.1 (steps_next image list base at s.0)
