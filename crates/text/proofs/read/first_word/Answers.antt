-- `text::read::first_word` meets its contract. Assumes nothing.
use lib.ListN.{length-take}
use native.Mathlib.Omega.{arith}
use Rattle.text.specs.Word.{word}
use Rattle.text.proofs.read.first_word.Goals as goal

pub slice_bounds-result-end : goal.slice_bounds-result-end
slice_bounds-result-end c = simp length-take (omega arith)

pub returns : goal.returns
unfolding word
returns c = rw (← c.word_length-n.ensures.0)
