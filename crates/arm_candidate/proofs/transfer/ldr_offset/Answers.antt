-- `arm_candidate::transfer::ldr_offset` meets its contract. Assumes nothing.
use Rattle.arm_candidate.specs.CandidateTransfer.{ldr_offset}
use Rattle.arm_candidate.proofs.Opcodes.{flag_number}
use borrow.Author.Rules.{rules}
use Rattle.arm_candidate.proofs.transfer.ldr_offset.Goals as goal

pub returns-then-is_number : goal.returns-then-is_number
unfolding ldr_offset
returns-then-is_number c =
    (rw (← c.three-three.ensures, ← c.first_word-w.ensures, ← c.is_number.ensures, c.if-is_number.true, c.from-then-is_number.ensures, c.size_of.ensures, c.from.ensures, c.is_added-up.ensures, flag_number, c.read_number-v.ensures, c.has-minus.ensures), search rules)
