-- `arm_mnemonic::head_of` meets its contract. Assumes nothing.
use Rattle.arm_mnemonic.proofs.Stems.{head_found}
use Rattle.arm_mnemonic.proofs.head_of.Goals as goal

pub returns : goal.returns
returns c = head_found c.args.w.now (λ j. (c.type_inv.w j).fits) c.head_packed.result (rw (← c.pack.ensures) c.head_packed.ensures)
