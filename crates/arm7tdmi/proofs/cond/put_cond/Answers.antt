-- `arm7tdmi::cond::put_cond` meets its contract. Assumes nothing.
use Rattle.std.proofs.Common.{arith}
use Rattle.arm7tdmi.proofs.Names.{cond_letters}
use Rattle.arm7tdmi.proofs.cond.put_cond.Goals as goal

pub returns-then-n-lt14 : goal.returns-then-n-lt14
returns-then-n-lt14 c = rw (cond_letters c.args.n (omega arith)) c.put_letters.ensures
