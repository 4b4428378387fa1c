-- `text::read::next_word` meets its contract. Assumes nothing.
use Rattle.common.proofs.Lists.{part_rest}
use Rattle.text.specs.Word.{after}
use Rattle.text.proofs.read.next_word.Goals as goal

pub returns : goal.returns
unfolding after
returns c =
    let t = c.behind_word-t.result.now in
    rw (← c.behind_word-t.ensures, ← c.gap_length-n.ensures.0) (part_rest t c.gap_length-n.result)
