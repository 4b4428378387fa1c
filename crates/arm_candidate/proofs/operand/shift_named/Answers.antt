-- `arm_candidate::operand::shift_named` meets its contract. Assumes nothing.
use mathlib.Core.Path.{◌∙◌}
use Rattle.arm_candidate.proofs.Shifts.{shift_found}
use Rattle.arm_candidate.specs.CandidateOperand.{shift_names}
use Rattle.text.specs.Word.{packed}
use Rattle.arm_candidate.proofs.operand.shift_named.Goals as goal

pub returns : goal.returns
unfolding shift_names packed
returns c =
    let s = c.args.w.now in
    (c.index_of.ensures.0 ∙ rw c.pack.ensures (shift_found s (λ j. (c.type_inv.w j).fits)), c.index_of.ensures.1)
