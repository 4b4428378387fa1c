-- The steps that were passed by do not end past the place. Assumes nothing.
use Rattle.std.proofs.Common.{◌≡◌}
use Rattle.steps.specs.Walk.{rest}
use Rattle.step_offsets.specs.Offsets.{steps_past}
use Rattle.step_offsets.proofs.seek.Given as goal

abbrev pub invariant-loop-step : goal.invariant-loop-step
invariant-loop-step l = record { same : rest l.ahead ≡ rest l.walk; left : steps_past l.place (rest l.walk) ≡ steps_past l.place (rest l.fn.walk) }
