-- `arm7tdmi::cond::read_cond` meets its contract. Assumes nothing.
use Rattle.std.proofs.Common.{◌∙◌, arith}
use Rattle.arm7tdmi.proofs.Names.{cond_found, cond_numbered}
use Rattle.arm7tdmi.specs.Names.{cond_names}
use Rattle.text.specs.Word.{packed}
use Rattle.arm7tdmi.proofs.cond.read_cond.Goals as goal

pub returns : goal.returns
unfolding cond_names packed
returns c =
    let s = c.args.s.now in
    let n = c.index_of.result in
    let e = c.index_of.ensures in
    rw (c.from.ensures, cond_numbered n (omega arith)) (e.0 ∙ rw c.pack.ensures (cond_found s (λ j. (c.type_inv.s j).fits)))
