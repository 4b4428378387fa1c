-- `thumb_read::lowest_of` meets its contract: the best of the candidates of the rows of the line's mnemonic. Assumes nothing.
use Rattle.std.proofs.Common.{◌∙◌, None, rules, sym, tests}
use Rattle.std.proofs.lemmas.Iterator.{YieldsList-from_map, YieldsList-from_slice}
use Rattle.std.proofs.lemmas.Iterator.Consumers.{YieldsList-at, YieldsList-from_filter}
use Rattle.text.proofs.Packed.{Bytes}
use Rattle.text.specs.Word.{packed, word}
use Rattle.thumb_mnemonic.specs.Rows.{rows_of}
use Rattle.thumb_read.proofs.Lowest.{Best, best_more, best_none, candidate_at, fold_keeps, read_found, suiting}
use Rattle.thumb_read.proofs.lowest_of.Goals as goal

pub returns : goal.returns
returns c =
    let a = c.args in
    let s = c.new-sought.result in
    let e = c.new-sought.ensures in
    let f = s.form in
    let pc = s.pc in
    let l = s.line.now in
    let h : Bytes a.line.now = λ j. (c.type_inv.line j).fits in
    let best =
    fold_keeps _ (Best f pc l) None c.fold.result c.fold.ensures.ran
    (YieldsList-from_map _ (candidate_at f pc l)
    (YieldsList-at c.map.ensures.source
    (YieldsList-from_filter _ (suiting f pc l)
    (YieldsList-at c.filter.ensures.source
    (YieldsList-from_slice (rows_of (packed (word a.line.now))) (c.iter.ensures.rest ∙ rw (c.rows_of.ensures, c.pack.ensures, c.first_word.ensures))))
    c.filter.ensures.closure (λ x b q k. search (rules, tests))))
    c.map.ensures.closure (λ x r q k. search (rules, tests)))
    (best_none f pc l) (λ cs o x q g b k. (search (rules, tests), best_more f pc l cs o x q b (search (rules, tests)))) in
    rw (e.0, e.1, e.2) at best ∙ sym (read_found a.form a.pc a.line.now h)
