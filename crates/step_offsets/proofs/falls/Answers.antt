-- `step_offsets::falls` meets its contract. Assumes nothing.
use Rattle.std.proofs.Common.{rules}
use Rattle.std.proofs.lemmas.Fn.{always_returns_same}
use Rattle.step_offsets.specs.Offsets.{place_of}
use Rattle.step_offsets.proofs.Order.{tested}
use Rattle.step_offsets.proofs.falls.Goals as goal

pub returns : goal.returns
returns c =
    tested (place_of c.args.base) c.args.addresses.now c.is_sorted_by_key.result
    (c.is_sorted_by_key.ensures.cases (place_of c.args.base) (always_returns_same _ _ _ (λ a r q k. (search rules, search rules))))
