-- `thumb::branch_target` meets its contract. Assumes nothing.
use Rattle.std.proofs.Common.{arith}
use Rattle.arm7tdmi.proofs.Integers.{handed_bits}
use Rattle.thumb.specs.Fields.{branch_target, branch_offset11}
use Rattle.common.specs.Bits.{bit_range}
use Rattle.thumb.proofs.branch_target.Goals as goal

pub returns : goal.returns
unfolding branch_target branch_offset11
returns c =
    rw (← handed_bits 11 2 (bit_range c.args.raw 0 11) (omega arith) (omega arith) (omega arith) c.branch_offset.ensures)
    c.move_by.ensures
