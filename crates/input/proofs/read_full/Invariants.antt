-- `input::read_full`: no more is read than there is room for. Assumes nothing.
use Rattle.std.proofs.Common.{◌≤◌, length}
use Rattle.input.proofs.read_full.Given as goal

abbrev pub invariant-loop : goal.invariant-loop
invariant-loop o l = l.n ≤ length l.to
