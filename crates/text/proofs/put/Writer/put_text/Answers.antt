-- `text::put::Writer::put_text` meets its contract. Assumes nothing.
use Rattle.std.proofs.Common.{arith, length, ◌<◌}
use Rattle.text.proofs.Puts.{puts_append}
use Rattle.text.proofs.Wrote.{take_more}
use Rattle.text.proofs.put.Writer.put_text.Goals as goal

pub loop-b-preserved : goal.loop-b-preserved
loop-b-preserved c =
    let i = c.loop-b.b-index in
    let s = c.args.s.now in
    let h : i < length s = omega arith in
    rw (take_more s i h, puts_append, ← c.loop-b.invariant) c.put_byte.ensures
