-- What `arm_disass::disass::fmt_ldm_stm` does before each name of its list. Assumes nothing.
use Rattle.lines.proofs.Positions.{before_each}
use Rattle.lines.specs.Pieces.{registers}
use Rattle.lines.specs.Position.{BeforeEach, names}
use Rattle.text.proofs.Puts.{wrote_of}
use Rattle.arm_disass.proofs.disass.fmt_ldm_stm.Lts as states
use Rattle.arm_disass.proofs.disass.fmt_ldm_stm.Reads.{Post, Pre}
use Rattle.arm_disass.proofs.disass.fmt_ldm_stm.Tie.{the-claims}

-- before each name of the list the position stands directly behind the last byte written
pub before_name : (c : states.After-put_registers the-claims Pre Post) → let a = c.put_text.new.self in let b = c.put_registers.new.out in
    BeforeEach a.bytes.now a.at (names c.args.raw 16) b.bytes.now b.at
unfolding registers
before_name c = before_each (wrote_of _ _ _ c.put_registers.ensures)
