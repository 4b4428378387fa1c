-- The steps of a listing one after another: those that are left to a walk. Assumes nothing.
use Rattle.std.specs.Prelude.{List}
use Rattle.steps.specs.Steps.{Step, step_of, steps}
use Rattle.steps.specs.declared.walk.UnprintedStep.{UnprintedStep}
use Rattle.steps.specs.declared.walk.Walk.{Walk}

-- the step of the listing that one not printed is: its line, or the refusal, is what a print would answer
abbrev pub listed_step : UnprintedStep → Step
listed_step u = step_of u.image.bytes.now u.span u.image.base u.offset

-- the steps from a walk's place on
abbrev pub rest : Walk → List Step
rest w = steps w.image.bytes.now w.image.stretches.now w.image.base w.place
