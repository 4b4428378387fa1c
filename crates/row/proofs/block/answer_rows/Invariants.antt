-- `row::block::answer_rows` meets its contract. Invariant: what is left to write are the answers to the rest. Assumes nothing.
use Rattle.std.proofs.Common.{◌≡◌, [], length}
use Rattle.row.specs.Block.{answers, unfinished}
use Rattle.text.specs.Puts.{puts}
use Rattle.row.proofs.block.answer_rows.Given as goal

abbrev pub invariant-loop-row : goal.invariant-loop-row
invariant-loop-row l = (puts l.initial.out (answers [] l.input) ≡ puts l.out (answers [] l.rest)) × (unfinished [] l.input ≡ unfinished [] l.rest)

abbrev pub decreases-loop-row : goal.decreases-loop-row
decreases-loop-row l = length l.rest
