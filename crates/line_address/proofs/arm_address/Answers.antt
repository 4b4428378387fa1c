-- `line_address::arm_address` meets its contract. Assumes nothing.
use Rattle.std.proofs.Common.{◌≡◌, ◌∙◌, sym}
use Rattle.line_address.specs.Shown.{arm_address}
use Rattle.line_address.proofs.Arm.{arm_ends, arm_tested, arm_unmoved}
use Rattle.line_address.proofs.arm_address.Goals as goal

value : (c : goal.After-arm_kind_address) → arm_address c.args.pc c.args.raw ≡ c.arm_kind_address.result
value c = arm_tested c.args.raw c.args.pc ∙ rw (← c.is_invalid.ensures c.args.pc, c.if-is_invalid.false, ← c.arm_format.ensures) (sym c.arm_kind_address.ensures)

pub returns-clause-shown : goal.returns-clause-shown
returns-clause-shown c = rw (value c) at (arm_ends c.args.raw c.args.pc)

pub returns-clause-unmoved : goal.returns-clause-unmoved
returns-clause-unmoved c = rw (value c) at (arm_unmoved c.args.raw c.args.pc)
