-- `modestsilk::write` meets its contract. Invariant: the values that were passed stand written. Assumes nothing.
use Rattle.std.proofs.Common.{◌≡◌, take}
use Rattle.modestsilk.specs.Numbers.{written}
use Rattle.modestsilk.proofs.write.Given as goal

abbrev pub invariant-loop-i : goal.invariant-loop-i
invariant-loop-i l = l.lent ≡ written (take l.i l.values) l.initial.lent
