-- `text::read::read_number` meets its contract. Assumes nothing.
use Rattle.std.proofs.Common.{◌%◌, ◌*◌, ◌+◌, ◌∙◌, ◌^◌, ℕ, rules}
use Rattle.std.proofs.lemmas.Iterator.{YieldsList-from_slice}
use Rattle.std.proofs.lemmas.Iterator.Consumers.{fold_from_yields_List}
use borrow.Author.Tests.{tests}
use Rattle.text.proofs.Places.{value_is}
use Rattle.text.specs.Digits.{digit_value}
use Rattle.text.proofs.read.read_number.Goals as goal

pub returns : goal.returns
returns g c =
    let b = g.row.BASE in
    fold_from_yields_List _ (λ (v x : ℕ). (v * b + digit_value x) % 2 ^ 32) 0 c.fold.result c.fold.ensures.ran (YieldsList-from_slice c.args.s.now c.iter.ensures.rest) (λ v x r q k. search (rules, tests))
    ∙ value_is b 0 c.args.s.now
