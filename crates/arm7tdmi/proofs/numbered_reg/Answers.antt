-- `arm7tdmi::numbered_reg` meets its contract. Assumes nothing.
use Rattle.std.proofs.Common.{◌≡◌, ◌+◌, ◌*◌, ◌^◌, ltb, arith, lt-ltb}
use Rattle.arm7tdmi.proofs.Names.{digit_reg, no_number}
use Rattle.arm7tdmi.specs.Names.{reg_names}
use Rattle.common.specs.Lists.{first}
use Rattle.text.specs.Word.{packed}
use Rattle.arm7tdmi.proofs.numbered_reg.Goals as goal

pub returns-then-m-lt48 : goal.returns-then-m-lt48
unfolding reg_names packed
returns-then-m-lt48 c = (no_number (λ m. ltb m 0x30) c.args.m (lt-ltb _ _ c.if-m-lt48.true) tt, omega arith)

pub returns-then-m-le57 : goal.returns-then-m-le57
returns-then-m-le57 c = (digit_reg c.args.m (omega arith) (omega arith), omega arith)

pub returns-then-m-eq12337 : goal.returns-then-m-eq12337
unfolding reg_names packed first
returns-then-m-eq12337 c = (rw c.if-m-eq12337.true, omega arith)

pub returns : goal.returns
unfolding reg_names packed
returns c =
    let m = c.args.m in
    (no_number (λ m. ltb 0x39 m) m (lt-ltb 0x39 m (omega arith)) (tt, λ e. c.if-m-eq12337.false (let q : m * 2 ^ 8 + 0x72 ≡ 0x303172 = e in omega arith)), omega arith)
