-- `arm7tdmi::bit::high` meets its contract. Assumes nothing.
use Rattle.std.proofs.Common.{sym, arith, pow_mono}
use native.Mathlib.Nat.{div-eq_of_lt}
use Rattle.arm7tdmi.proofs.Integers.{or_default}
use Rattle.arm7tdmi.proofs.bit.high.Goals as goal

pub returns : goal.returns
returns c =
    let a = c.args in
    rw c.unwrap_or.ensures (or_default _ _ _ _ c.checked_shr.ensures (λ h.
    let p = pow_mono {i = 32} {j = a.n} (omega arith) in
    sym (div-eq_of_lt (omega arith))))
