-- `pairs::print::print_pair` meets its contract. Assumes nothing.
use Rattle.std.proofs.Common.{sym, ◌∙◌}
use Rattle.pairs.proofs.Printing.{print_room}
use Rattle.pairs.proofs.print.print_pair.Goals as goal

pub returns : goal.returns
returns c =
    let a = c.args in
    print_room a.pc a.first a.second a.buf.now (sym c.is_pair.ensures ∙ c.if-not-is_pair.false) c.if-buf-lt13.false c.put_at_start.ensures
