-- `arm7tdmi::named_reg` meets its contract: each arm is computed; the last says that the number is that of no name. Assumes nothing.
use Rattle.std.proofs.Common.{◌≡◌, ◌+◌, ◌*◌, ◌/◌, ◌^◌, arith, rules}
use Rattle.arm7tdmi.proofs.Names.{no_name}
use Rattle.arm7tdmi.specs.Names.{reg_names}
use Rattle.common.specs.Lists.{first}
use Rattle.text.specs.Word.{packed}
use Rattle.arm7tdmi.proofs.named_reg.Goals as goal

pub returns-then-n-eq114 : goal.returns-then-n-eq114
returns-then-n-eq114 c =
    let n = c.args.n in
    let t = c.if-n-eq114.true in
    let e : n / 2 ^ 8 * 2 ^ 8 + 0x72 ≡ n = omega arith in
    rw e at c.numbered_reg.ensures

pub returns-in_default : goal.returns-in_default
unfolding reg_names packed
returns-in_default c = (no_name c.args.n c.if-n-eq114.false (search rules), omega arith)

pub returns-in-28774 : goal.returns-in-28774
unfolding reg_names packed first
returns-in-28774 c = (rw c.in-28774.is, omega arith)

pub returns-in-28777 : goal.returns-in-28777
unfolding reg_names packed first
returns-in-28777 c = (rw c.in-28777.is, omega arith)

pub returns-in-28787 : goal.returns-in-28787
unfolding reg_names packed first
returns-in-28787 c = (rw c.in-28787.is, omega arith)

pub returns-in-29292 : goal.returns-in-29292
unfolding reg_names packed first
returns-in-29292 c = (rw c.in-29292.is, omega arith)

pub returns-in-25456 : goal.returns-in-25456
unfolding reg_names packed first
returns-in-25456 c = (rw c.in-25456.is, omega arith)
