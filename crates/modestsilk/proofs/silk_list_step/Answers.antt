-- `modestsilk::silk_list_step` meets its contract. Assumes nothing.
use Prim.Native.Nat.{◌≤◌}
use native.Mathlib.Omega.{arith}
use Rattle.steps.specs.Listed.{listed_bytes, listed_offset}
use Rattle.steps.proofs.Answers.{step_small}
use Rattle.modestsilk.proofs.silk_list_step.Goals as goal

pub overflow_cast-offset : goal.overflow_cast-offset
overflow_cast-offset c =
    let a = c.args in
    let i = c.lent_image-lent.result in
    let h : listed_offset c.in-Ok.s ≤ a.place = (step_small i.bytes.now i.stretches.now i.base a.place a.line.now c.in-Ok.s _ (rw c.in-Ok.is at c.list_step.ensures)).0 in
    record { fits = omega (arith, h, c.offset.ensures) }

pub overflow_cast-bytes : goal.overflow_cast-bytes
overflow_cast-bytes c =
    let a = c.args in
    let i = c.lent_image-lent.result in
    let h : listed_bytes c.in-Ok.s ≤ 4 = (step_small i.bytes.now i.stretches.now i.base a.place a.line.now c.in-Ok.s _ (rw c.in-Ok.is at c.list_step.ensures)).1 in
    record { fits = omega (arith, h, c.bytes.ensures) }
