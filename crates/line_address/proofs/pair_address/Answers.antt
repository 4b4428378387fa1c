-- `line_address::pair_address` meets its contract. Assumes nothing.
use Rattle.std.proofs.Common.{◌≡◌, Some, ap, sym}
use Rattle.line_address.specs.Shown.{pair_address}
use Rattle.line_address.proofs.Thumb.{pair_ends, pair_unmoved}
use Rattle.line_address.proofs.pair_address.Goals as goal

value : (c : goal.After-pair_target) → pair_address c.args.pc c.args.first c.args.second ≡ Some c.pair_target.result
unfolding pair_address
value c = rw (← c.if-not-is_pair.ensures, ← c.from.ensures, ← c.from-2.ensures) (ap Some (sym c.pair_target.ensures))

pub returns-clause-shown : goal.returns-clause-shown
returns-clause-shown c = rw (value c) at (pair_ends c.args.first c.args.second c.args.pc)

pub returns-clause-unmoved : goal.returns-clause-unmoved
returns-clause-unmoved c = rw (value c) at (pair_unmoved c.args.first c.args.second c.args.pc)
