-- `patch::patch` meets its contract. Assumes nothing.
use Rattle.std.proofs.Common.{sym, ◌∙◌}
use Rattle.patch.proofs.Answered.{room}
use Rattle.patch.specs.Patch.{patched}
use Rattle.patch.proofs.patch.Goals as goal

pub overwrite-requires : goal.overwrite-requires
overwrite-requires c =
    let a = c.args in
    rw c.set_at-s.ensures (room a.bytes.now a.stretches.now a.at (sym c.check.ensures ∙ c.in_ok-check.was))

pub returns : goal.returns
unfolding patched
returns c =
    let e = sym c.check.ensures ∙ c.in_ok-check.was in
    rw (e, ← c.set_at-s.ensures, ← c.address.ensures) c.overwrite.ensures
