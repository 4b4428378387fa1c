-- `pairs::read::read_pair` meets its contract. Assumes nothing.
use Rattle.std.proofs.Common.{sym, ◌∙◌}
use Rattle.pairs.proofs.Reading.{read_none, read_some, wrong_length}
use Rattle.pairs.proofs.read.read_pair.Goals as goal

pub returns-then-line-ne13 : goal.returns-then-line-ne13
returns-then-line-ne13 c =
    let a = c.args in
    sym (wrong_length a.address a.line.now c.if-line-ne13.true)

pub returns-then-prints : goal.returns-then-prints
returns-then-prints c =
    let a = c.args in
    read_some a.address a.line.now c.read_number.result c.distance-d.result c.half-first.result c.half-second.result
    c.read_number.ensures c.distance-d.ensures c.half-first.ensures c.half-second.ensures (sym c.prints.ensures ∙ c.if-prints.true)

pub returns : goal.returns
returns c =
    let a = c.args in
    read_none a.address a.line.now c.read_number.result c.distance-d.result c.half-first.result c.half-second.result
    c.read_number.ensures c.distance-d.ensures c.half-first.ensures c.half-second.ensures (sym c.prints.ensures ∙ c.if-prints.false)
