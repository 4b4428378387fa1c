-- `arm7tdmi::bit::pow2` meets its contract. Assumes nothing.
use Rattle.std.proofs.Common.{sym, one-mul, arith}
use Rattle.arm7tdmi.proofs.Integers.{or_default, pow_out}
use Rattle.arm7tdmi.proofs.bit.pow2.Goals as goal

pub returns : goal.returns
returns c =
    rw c.unwrap_or.ensures (or_default _ _ _ _ (rw one-mul at c.checked_shl.ensures) (λ h. sym (pow_out c.args.n (omega arith))))
