-- The window holds the last of the steps so far, and the worst of their runs is known. Assumes nothing.
use Rattle.std.proofs.Common.{length}
use Rattle.steps.specs.Steps.{steps}
use Rattle.worst_run.proofs.Walked.{Walked}
use Rattle.worst_run.proofs.worst_in.Given as goal

abbrev pub invariant-loop-step : goal.invariant-loop-step
invariant-loop-step l = Walked 256 (steps l.image.bytes.now l.image.stretches.now l.image.base 0) (length l.yielded) l.window l.worst
