-- `worked_listing::put_steps`: the writer keeps its buffer. Assumes nothing.
use Rattle.std.proofs.Common.{◌≡◌}
use Rattle.worked_listing.proofs.put_steps.Given as goal

abbrev pub invariant-loop : goal.invariant-loop
invariant-loop l = l.out.bytes.ghost_name ≡ l.initial.out.bytes.ghost_name
