-- `arm_mnemonic::head_packed` meets its contract: the check computes each arm but the last, which says that the number is that of no mnemonic. Assumes nothing.
use mathlib.Core.Bool.{true}
use mathlib.Core.List.{[]}
use mathlib.Core.Path.{◌∙◌, refl}
use Rattle.arm_mnemonic.specs.Heads.{stem_names, stems}
use Rattle.arm_mnemonic.proofs.Stems.{codes}
use Rattle.common.proofs.Lists.{none_found}
use Rattle.text.specs.Word.{packed}
use Rattle.arm_mnemonic.proofs.head_packed.Goals as goal

pub returns-in_default : goal.returns-in_default
unfolding stem_names stems packed
returns-in_default c = c.says-in_default.ensures ∙ rw (none_found (λ x. true) c.args.n codes [] refl c.in_default.in_default-own.rest)
