-- `text::read::behind_word` meets its contract. Assumes nothing.
use Rattle.common.proofs.Lists.{part_rest}
use Rattle.text.specs.Word.{behind}
use Rattle.text.proofs.read.behind_word.Goals as goal

pub returns : goal.returns
unfolding behind
returns c = rw (← c.word_length-n.ensures.0) (part_rest c.args.s.now c.word_length-n.result)
