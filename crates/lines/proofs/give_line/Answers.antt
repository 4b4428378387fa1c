-- `lines::give_line` meets its contract. Assumes nothing.
use Rattle.std.proofs.Common.{length, le-ltb, lt-ltb}
use Rattle.lines.specs.Answer.{printed}
use Rattle.text.proofs.Wrote.{lies}
use Rattle.lines.proofs.give_line.Goals as goal

pub returns-then-buf-n : goal.returns-then-buf-n
unfolding printed
returns-then-buf-n c = rw (lt-ltb _ _ c.if-buf-n.true)

pub returns : goal.returns
unfolding printed
returns c =
    let a = c.args in
    let e = lies c.put_text_at.ensures c.if-buf-n.false in
    rw (le-ltb (length a.buf.now) (length a.s.now) c.if-buf-n.false, e.0)
