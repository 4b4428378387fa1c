-- `arm7tdmi::kinds::first_match` meets its contract. Assumes nothing.
use Rattle.std.proofs.Common.{sym, ap, ◌∙◌}
use Rattle.arm7tdmi.proofs.Rows.{last_met, last_missed}
use Rattle.arm7tdmi.specs.Kinds.{first_row}
use Rattle.arm7tdmi.proofs.kinds.first_match.Goals as goal

pub loop-row-preserved-then-raw-row : goal.loop-row-preserved-then-raw-row
loop-row-preserved-then-raw-row g c =
    sym (last_met c.args.raw _ c.in-Some.row.now c.loop-row.kind c.if-raw-row.true)
    ∙ ap (λ rs. first_row c.loop-row.kind rs c.args.raw) (sym c.in-Some.ensures.steps)
    ∙ c.loop-row.invariant

pub loop-row-preserved : goal.loop-row-preserved
loop-row-preserved g c =
    sym (last_missed c.args.raw _ c.in-Some.row.now c.loop-row.kind c.if-raw-row.false)
    ∙ ap (λ rs. first_row c.loop-row.kind rs c.args.raw) (sym c.in-Some.ensures.steps)
    ∙ c.loop-row.invariant
