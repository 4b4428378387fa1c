-- `steps::walk::Walk::step` meets its contract. Assumes nothing.
use Rattle.std.proofs.Common.{◌≡◌, ◌-◌, ◌≤◌, length, sym, ◌∙◌, arith}
use Rattle.image.specs.Stretches.{left}
use Rattle.image.proofs.Stretches.{passed_on}
use Rattle.steps.specs.Listed.{listed_bytes, listed_offset}
use Rattle.steps.proofs.Answers.{listed_inside, listed_offset_lem}
use Rattle.steps.proofs.Walks.{listed_still}
use Rattle.steps.proofs.walk.Walk.step.Goals as goal

pub overflow_add-self : goal.overflow_add-self
overflow_add-self c =
    let w = c.args.self.now in
    let i = w.image in
    let n : listed_bytes c.step_at-listed.result ≤ length i.bytes.now - w.place = rw c.step_at-listed.ensures at (listed_inside i.bytes.now (left i.stretches.now c.first_left-next.result) i.base w.place c.args.line.now) in
    let b : c.bytes.result ≤ length i.bytes.now - w.place = rw c.bytes.ensures n in
    record { fits = omega (arith, b) }

pub invariant_of-self : goal.invariant_of-self
invariant_of-self c =
    let w = c.args.self.now in
    record { passed = rw c.first_left-next.ensures (passed_on w.image.stretches.now w.next w.place _ w.passed (omega arith)) }

pub returns-clause-answer : goal.returns-clause-answer
returns-clause-answer c =
    let w = c.args.self.now in
    let i = w.image in
    sym (listed_still i.bytes.now i.stretches.now i.base w.next w.place c.first_left-next.result w.passed c.first_left-next.ensures c.args.line.now) ∙ c.step_at-listed.ensures

pub returns-clause-place : goal.returns-clause-place
returns-clause-place c =
    let w = c.args.self.now in
    let i = w.image in
    let o : listed_offset c.step_at-listed.result ≡ w.place = rw c.step_at-listed.ensures at (listed_offset_lem i.bytes.now (left i.stretches.now c.first_left-next.result) i.base w.place c.args.line.now) in
    rw (o, c.bytes.ensures)
