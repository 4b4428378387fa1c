-- `steps::step_at` meets its contract. Assumes nothing.
use Rattle.image.specs.Stretches.{left}
use Rattle.steps.specs.Listed.{listed}
use Rattle.steps.proofs.Steps.{span_none, span_some}
use Rattle.steps.proofs.step_at.Goals as goal

pub returns-in-Some : goal.returns-in-Some
unfolding listed
returns-in-Some c =
    let i = c.args.image in
    let s = span_some i.bytes.now (left i.stretches.now c.args.next) c.args.at c.in-Some.span c.in-Some.ensures in
    rw (s.0, ← s.1, ← c.bytes.ensures, ← c.address-pc.ensures, c.print.ensures, c.told.ensures)

pub returns-in-None : goal.returns-in-None
unfolding listed
returns-in-None c =
    let i = c.args.image in
    rw (span_none i.bytes.now (left i.stretches.now c.args.next) c.args.at c.in-None.ensures)
