-- `thumb::call_offset` meets its contract. Assumes nothing.
use Rattle.std.proofs.Common.{refl, arith}
use Rattle.arm7tdmi.proofs.Integers.{sign_kept}
use Rattle.thumb.specs.Fields.{call_offset}
use Rattle.thumb.proofs.call_offset.Goals as goal

pub returns : goal.returns
unfolding call_offset
returns c = sign_kept 11 512 4096 c.args.raw (omega arith) refl (omega arith) (omega arith) (λ x. omega arith) (λ m h. omega arith) c.cast_signed.ensures
