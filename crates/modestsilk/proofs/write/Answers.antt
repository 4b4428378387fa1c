-- `modestsilk::write` meets its contract. Assumes nothing.
use Rattle.std.proofs.Common.{arith}
use Rattle.std.proofs.Math.Seq.{take-nil}
use Rattle.std.proofs.lemmas.List.{take_all}
use Rattle.modestsilk.proofs.Written.{next_written, none_written}
use Rattle.modestsilk.proofs.write.Goals as goal
use Rattle.modestsilk.proofs.write.Goals.{then-i-lent, else-i-lent}

pub loop-i-init : goal.loop-i-init
loop-i-init c = rw take-nil

pub loop-i-preserved : goal.loop-i-preserved
loop-i-preserved c =
    let v = c.args.values.now in
    let l = c.args.lent.now in
    let i = c.loop-i.i in
    elim c.if-i-lent.branch [
      | then-i-lent w ↦ rw (w.lent-is, c.loop-i.invariant) (next_written v l i c.loop-i-test.true (omega (w.if-i-lent.true, c.loop-i.auto.lent, arith)))
      | else-i-lent w ↦ rw (w.lent-is, c.loop-i.invariant) (none_written v l i c.loop-i-test.true (omega (w.if-i-lent.false, c.loop-i.auto.lent, arith)))
    ]

pub returns : goal.returns
returns c = rw (take_all c.loop-i.i c.args.values.now (omega arith)) at c.loop-i.invariant
