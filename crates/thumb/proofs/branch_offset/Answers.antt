-- `thumb::branch_offset` meets its contract. Assumes nothing.
use Rattle.std.proofs.Common.{refl, arith}
use Rattle.arm7tdmi.proofs.Integers.{sign_kept}
use Rattle.thumb.specs.Fields.{branch_offset11}
use Rattle.thumb.proofs.branch_offset.Goals as goal

pub returns : goal.returns
unfolding branch_offset11
returns c = sign_kept 11 1048576 2 c.args.raw (omega arith) refl (omega arith) (omega arith) (λ x. omega arith) (λ m h. omega arith) c.cast_signed.ensures
