-- `row::block::first_row` meets its contract. Assumes nothing.
use Rattle.std.proofs.Common.{sym, ◌∙◌}
use Rattle.common.proofs.Lists.{part_rest}
use Rattle.row.proofs.Blocks.{ended}
use Rattle.row.proofs.block.first_row.Goals as goal

pub returns : goal.returns
returns c = rw part_rest (ended c.args.s.now c.in_ok-e.e (sym c.line_end.ensures ∙ c.in_ok-e.was)).1
