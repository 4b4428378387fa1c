-- `text::read::word_length` meets its contract. Assumes nothing.
use Rattle.std.proofs.Common.{rules}
use Rattle.std.proofs.lemmas.Iterator.{YieldsList-from_slice}
use Rattle.std.proofs.lemmas.Iterator.Search.{position_from_yields_List}
use borrow.Author.Tests.{tests}
use Rattle.text.proofs.Places.{place_is}
use Rattle.text.specs.Word.{is_gap}
use Rattle.text.proofs.read.word_length.Goals as goal

pub returns : goal.returns
returns c =
    rw c.unwrap_or.ensures (place_is is_gap c.args.s.now c.position.result (position_from_yields_List is_gap _ _ c.position.result c.position.ensures.ran (YieldsList-from_slice c.args.s.now c.iter.ensures.rest) (λ x b q k. search (rules, tests))))
