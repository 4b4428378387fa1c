-- `arm::branch_target` meets its contract. Assumes nothing.
use Rattle.std.proofs.Common.{arith}
use Rattle.arm7tdmi.proofs.Integers.{handed_bits}
use Rattle.arm.specs.Fields.{branch_offset, branch_target}
use Rattle.common.specs.Bits.{bit_range}
use Rattle.arm.proofs.branch_target.Goals as goal

pub returns : goal.returns
unfolding branch_target branch_offset
returns c =
    rw (← handed_bits 24 4 (bit_range c.args.raw 0 24) (omega arith) (omega arith) (omega arith) c.branch_offset.ensures)
    c.move_by.ensures
