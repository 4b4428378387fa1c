-- `worst_run::is_invalid` meets its contract. Assumes nothing.
use Rattle.std.proofs.Common.{sym}
use Rattle.arm7tdmi.specs.Signed.{moved}
use Rattle.steps.specs.Steps.{span_line}
use Rattle.worst_run.proofs.Invalid.{pair_valid}
use Rattle.worst_run.proofs.is_invalid.Goals as goal

pub returns-in-Word : goal.returns-in-Word
unfolding span_line
returns-in-Word c =
    let s = c.args.step.now in
    rw (c.in-Word.is, ← c.word_at.ensures) (c.is_invalid.ensures (moved s.image.base s.offset))

pub returns-in-Half : goal.returns-in-Half
unfolding span_line
returns-in-Half c =
    let s = c.args.step.now in
    rw (c.in-Half.is, ← c.half_at.ensures) (c.is_invalid-in-Half.ensures (moved s.image.base s.offset))

pub returns-in-Pair : goal.returns-in-Pair
unfolding span_line
returns-in-Pair c =
    let s = c.args.step.now in
    rw c.in-Pair.is (sym (pair_valid (moved s.image.base s.offset) _ _))
