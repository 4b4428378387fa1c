-- `step_offsets::seek` meets its contract. Assumes nothing.
use Rattle.std.proofs.Common.{◌≡◌, [], ◌∷◌, refl, sym, ◌∙◌, arith}
use Rattle.steps.specs.Walk.{rest, listed_step}
use Rattle.step_offsets.specs.Offsets.{steps_past}
use Rattle.step_offsets.proofs.Places.{past_here, past_on, past_none}
use Rattle.step_offsets.proofs.seek.Goals as goal

-- the step behind those that were passed by
here : (c : goal.Then-place-step) → steps_past c.args.place (rest c.args.walk.now) ≡ listed_step c.in-Some.step ∷ rest c.next.new.self
here c =
    let s = c.in-Some.step in
    let first : rest c.loop-step.walk ≡ listed_step s ∷ rest c.next.new.self = sym c.loop-step.invariant.same ∙ c.in-Some.ensures.steps in
    sym c.loop-step.invariant.left ∙ rw first (past_here c.args.place (listed_step s) (rest c.next.new.self) (omega (arith, s.ends)))

pub returns-then-place-step-clause-found : goal.returns-then-place-step-clause-found
returns-then-place-step-clause-found c = rw (here c)

pub returns-then-place-step-clause-left : goal.returns-then-place-step-clause-left
returns-then-place-step-clause-left c = sym c.loop-step.invariant.same ∙ c.in-Some.ensures.steps ∙ sym (here c)

pub loop-step-preserved : goal.loop-step-preserved
loop-step-preserved c =
    let s = c.in-Some.step in
    let first : rest c.loop-step.walk ≡ listed_step s ∷ rest c.next.new.self = sym c.loop-step.invariant.same ∙ c.in-Some.ensures.steps in
    record {
      same = refl;
      left = sym (past_on c.args.place (listed_step s) (rest c.next.new.self) (omega (arith, s.ends))) ∙ rw first at c.loop-step.invariant.left;
    }

-- none is left
gone : (c : goal.In_default) → steps_past c.args.place (rest c.args.walk.now) ≡ []
gone c =
    let none : rest c.loop-step.walk ≡ [] = sym c.loop-step.invariant.same ∙ c.in_default.ensures.steps.0 in
    sym c.loop-step.invariant.left ∙ rw none (past_none c.args.place)

pub returns-clause-found : goal.returns-clause-found
returns-clause-found c = rw (gone c)

pub returns-clause-left : goal.returns-clause-left
returns-clause-left c = sym c.loop-step.invariant.same ∙ c.in_default.ensures.steps.0 ∙ sym (gone c)
