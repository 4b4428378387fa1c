-- `arm7tdmi::read_reg` meets its contract. Assumes nothing.
use Rattle.std.proofs.Common.{◌∙◌}
use Rattle.arm7tdmi.proofs.Names.{reg_found}
use Rattle.arm7tdmi.proofs.read_reg.Goals as goal

pub returns : goal.returns
returns c =
    (c.named_reg.ensures.0 ∙ rw c.pack.ensures (reg_found c.args.s.now (λ j. (c.type_inv.s j).fits)), c.named_reg.ensures.1)
