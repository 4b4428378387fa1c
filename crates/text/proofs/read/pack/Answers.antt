-- `text::read::pack` meets its contract. Assumes nothing.
use Rattle.std.proofs.Common.{◌∙◌, arith, rules, sym}
use Rattle.std.proofs.lemmas.Iterator.Adapters.{YieldsList-from_rev_slice}
use Rattle.std.proofs.lemmas.Iterator.Consumers.{fold_from_yields_List}
use borrow.Author.Tests.{tests}
use Rattle.text.proofs.Packed.{number_folds, packed_long, packed_short, packed_zero, push}
use Rattle.text.proofs.read.pack.Goals as goal

pub returns-then-s-gt8 : goal.returns-then-s-gt8
returns-then-s-gt8 c = packed_long c.args.s.now c.if-s-gt8.true

pub returns-then-contains : goal.returns-then-contains
returns-then-contains c = packed_zero c.args.s.now (omega arith) (sym c.contains.ensures.value ∙ c.if-contains.true)

pub returns : goal.returns
returns c =
    let s = c.args.s.now in
    fold_from_yields_List _ push 0 c.fold.result c.fold.ensures.ran (YieldsList-from_rev_slice s (cc)) (λ v x r q k. search (rules, tests))
    ∙ number_folds s (λ j. (c.type_inv.s j).fits) (omega arith)
    ∙ packed_short s (omega arith) (sym c.contains.ensures.value ∙ c.if-contains.false)
