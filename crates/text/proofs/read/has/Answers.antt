-- `text::read::has` meets its contract. Assumes nothing.
use Rattle.std.proofs.Common.{◌∙◌}
use Rattle.text.proofs.Places.{has_is}
use Rattle.text.proofs.read.has.Goals as goal

pub returns : goal.returns
returns c = c.contains.ensures.value ∙ has_is c.args.mark c.args.s.now
