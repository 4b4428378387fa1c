-- `thumb::bcond_target` meets its contract. Assumes nothing.
use Rattle.std.proofs.Common.{arith}
use Rattle.arm7tdmi.proofs.Integers.{handed_bits}
use Rattle.thumb.specs.Fields.{bcond_offset, bcond_target}
use Rattle.common.specs.Bits.{bit_range}
use Rattle.thumb.proofs.bcond_target.Goals as goal

pub returns : goal.returns
unfolding bcond_target bcond_offset
returns c =
    rw (← handed_bits 8 2 (bit_range c.args.raw 0 8) (omega arith) (omega arith) (omega arith) c.bcond_offset.ensures)
    c.move_by.ensures
