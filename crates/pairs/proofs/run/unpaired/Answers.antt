-- `pairs::run::unpaired` meets its contract. Assumes nothing.
use Rattle.std.proofs.Common.{◌≡◌, true, false, rules}
use Rattle.std.proofs.lemmas.Iterator.{first_from_Range}
use Rattle.pairs.proofs.Runs.{searched}
use Rattle.pairs.specs.Run.{lacks_at}
use Rattle.pairs.proofs.run.unpaired.Goals as goal

pub returns : goal.returns
returns c =
    let run = c.args.run.now in
    searched run c.find.result
    (first_from_Range _ _ _ _ (λ i. lacks_at run i ≡ true) (λ i. lacks_at run i ≡ false) c.find.ensures.ran (λ x q k. search rules) (λ x q k. search rules))
