-- `arm::branch_offset` meets its contract. Assumes nothing.
use Rattle.std.proofs.Common.{refl, arith}
use Rattle.arm7tdmi.proofs.Integers.{sign_kept}
use Rattle.arm.specs.Fields.{branch_offset}
use Rattle.arm.proofs.branch_offset.Goals as goal

pub returns : goal.returns
unfolding branch_offset
returns c = sign_kept 24 64 4 c.args.raw (omega arith) refl (omega arith) (omega arith) (λ x. omega arith) (λ m h. omega arith) c.cast_signed.ensures
