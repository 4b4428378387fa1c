-- `image::Image::stretch` meets its contract. Assumes nothing.
use Rattle.std.proofs.Common.{◌+◌, ◌-◌, ◌*◌, sym, add-zero, arith}
use Rattle.image.proofs.Bytes.{word_in}
use Rattle.image.proofs.Stretches.{pair_none, pair_there}
use Rattle.image.proofs.Image.stretch.Goals as goal

pub returns-then-count-i : goal.returns-then-count-i
returns-then-count-i c = let a = c.args in sym (pair_none a.self.stretches.now a.i (rw c.count.ensures at c.if-count-i.true))

pub returns : goal.returns
returns c =
    let l = c.args.self.stretches.now in
    let i = c.args.i in
    let n = 8 * i + 8 - 8 * i in
    rw (c.word_at.ensures, c.word_at-2.ensures, word_in l (8 * i) n 0 (omega arith), word_in l (8 * i) n 4 (omega arith), add-zero) (sym (pair_there l i (rw c.count.ensures at c.if-count-i.false)))
