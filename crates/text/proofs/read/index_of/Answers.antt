-- `text::read::index_of` meets its contract. Assumes nothing.
use Rattle.std.proofs.Common.{rules}
use Rattle.std.proofs.lemmas.Iterator.{YieldsList-from_slice}
use Rattle.std.proofs.lemmas.Iterator.Search.{position_from_yields_List}
use borrow.Author.Tests.{tests}
use Rattle.text.proofs.Places.{place_is}
use Rattle.text.proofs.read.index_of.Goals as goal

pub returns : goal.returns
returns g c =
    let a = c.args in
    rw c.unwrap_or.ensures (place_is (λ y. g.T.PartialEq.eq y a.x) a.xs.now c.position.result (position_from_yields_List (λ y. g.T.PartialEq.eq y a.x) _ _ c.position.result c.position.ensures.ran (YieldsList-from_slice a.xs.now c.iter.ensures.rest) (λ x b q k. search (rules, tests))))
