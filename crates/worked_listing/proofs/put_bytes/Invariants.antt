-- `worked_listing::put_bytes`: the writer keeps its buffer. Assumes nothing.
use Rattle.std.proofs.Common.{◌≡◌}
use Rattle.worked_listing.proofs.put_bytes.Given as goal

abbrev pub invariant-loop-b : goal.invariant-loop-b
invariant-loop-b l = l.out.bytes.ghost_name ≡ l.initial.out.bytes.ghost_name
