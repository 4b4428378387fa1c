-- `reading::shown::prints` meets its contract. Assumes nothing.
use Rattle.std.proofs.Common.{◌∙◌}
use Rattle.reading.proofs.Scratch.{none_shown, same_shown}
use Rattle.text.proofs.Places.{same_is}
use Rattle.reading.proofs.shown.prints.Goals as goal

pub returns-in-Ok : goal.returns-in-Ok
returns-in-Ok g c =
    let x = c.args.candidate.now in
    let l = c.args.line.now in
    let s = g.met.C.Candidate.short x in
    c.eq.ensures ∙ same_is c.part.result.now l ∙ rw c.part.ensures (same_shown _ l (g.C.Candidate.answer x) c.in-Ok.n s (rw c.in-Ok.is at c.print.ensures))

pub returns-in-Err : goal.returns-in-Err
returns-in-Err g c =
    let x = c.args.candidate.now in
    let s = g.met.C.Candidate.short x in
    none_shown _ c.args.line.now (g.C.Candidate.answer x) c.in-Err.field-0 s (rw c.in-Err.is at c.print.ensures)
