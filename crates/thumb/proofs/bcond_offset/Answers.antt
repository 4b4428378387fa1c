-- `thumb::bcond_offset` meets its contract. Assumes nothing.
use Rattle.std.proofs.Common.{refl, arith}
use Rattle.arm7tdmi.proofs.Integers.{sign_kept}
use Rattle.thumb.specs.Fields.{bcond_offset}
use Rattle.thumb.proofs.bcond_offset.Goals as goal

pub returns : goal.returns
unfolding bcond_offset
returns c = sign_kept 8 8388608 2 c.args.raw (omega arith) refl (omega arith) (omega arith) (λ x. omega arith) (λ m h. omega arith) c.cast_signed.ensures
