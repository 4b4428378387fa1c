-- `worked_listing::put_offsets`: the writer keeps its buffer. Assumes nothing.
use Rattle.std.proofs.Common.{◌≡◌}
use Rattle.worked_listing.proofs.put_offsets.Given as goal

abbrev pub invariant-loop-offset : goal.invariant-loop-offset
invariant-loop-offset l = l.out.bytes.ghost_name ≡ l.initial.out.bytes.ghost_name
