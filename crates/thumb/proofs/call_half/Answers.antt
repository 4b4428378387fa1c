-- `thumb::call_half` meets its contract. Assumes nothing.
use Rattle.std.proofs.Common.{arith}
use Rattle.arm7tdmi.proofs.Integers.{handed_bits}
use Rattle.thumb.specs.Fields.{call_half, call_offset}
use Rattle.common.specs.Bits.{bit_range}
use Rattle.thumb.proofs.call_half.Goals as goal

pub returns-then-bit : goal.returns-then-bit
unfolding call_half
returns-then-bit c = rw (← c.bit.ensures, c.if-bit.true, ← c.offset11.ensures)

pub returns : goal.returns
unfolding call_half call_offset
returns c =
    rw (← c.bit.ensures, c.if-bit.false, ← handed_bits 11 4096 (bit_range c.args.raw 0 11) (omega arith) (omega arith) (omega arith) c.call_offset.ensures)
    c.move_by.ensures
