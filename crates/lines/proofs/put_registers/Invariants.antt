-- `lines::put_registers` meets its contract. Invariant: the position stands directly behind the registers below i, and `rest` has the bits from i on. Assumes nothing.
use Rattle.std.proofs.Common.{◌≡◌, ◌-◌, ◌≤◌}
use Rattle.common.specs.Bits.{bit_range}
use Rattle.lines.specs.Pieces.{registers}
use Rattle.text.specs.Puts.{puts}
use Rattle.lines.proofs.put_registers.Given as goal

abbrev pub invariant-loop-rest : goal.invariant-loop-rest
invariant-loop-rest l = (l.i ≤ l.n) × (l.rest ≡ bit_range l.raw l.i l.n) × (l.out ≡ puts l.initial.out (registers l.raw l.i))

abbrev pub decreases-loop-rest : goal.decreases-loop-rest
decreases-loop-rest l = l.n - l.i
