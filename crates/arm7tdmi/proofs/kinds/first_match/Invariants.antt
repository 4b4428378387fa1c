-- `arm7tdmi::kinds::first_match` meets its contract. Invariant: the kind is that of no row before those that are left. Assumes nothing.
use Rattle.std.proofs.Common.{◌≡◌}
use Rattle.arm7tdmi.specs.Kinds.{first_row}
use Rattle.arm7tdmi.proofs.kinds.first_match.Given as goal

abbrev pub invariant-loop-row : goal.invariant-loop-row
invariant-loop-row g l = first_row l.kind l.row-iterator.iter.rest.now l.raw ≡ first_row l.fn.other l.fn.rows l.raw
