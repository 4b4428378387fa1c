-- `steps::walk::WalkIterator::next` meets its contract. Assumes nothing.
use Rattle.std.proofs.Common.{◌≡◌, ◌+◌, List, ◌∷◌, Some, None, length, sym, ap, ◌∙◌, arith}
use Rattle.image.proofs.Stretches.{passed_on}
use Rattle.steps.specs.Steps.{Step, step_of, steps}
use Rattle.steps.proofs.Walks.{walk_end, walk_on}
use Rattle.steps.proofs.walk.WalkIterator.next.Goals as goal

pub invariant_of-self : goal.invariant_of-self
invariant_of-self c =
    let w = c.args.self.now in
    record { passed = rw c.first_left-self.ensures (passed_on w.image.stretches.now w.next w.place w.place w.passed (omega arith)) }

pub returns-in_err-span-clause-steps : goal.returns-in_err-span-clause-steps
returns-in_err-span-clause-steps c =
    let w = c.args.self.now in
    let i = w.image in
    let was : c.span_here.result ≡ None = c.in_err-span.was in
    let e = walk_end i.bytes.now i.stretches.now i.base w.next w.place c.first_left-self.result w.passed c.first_left-self.ensures (sym was ∙ c.span_here.ensures) in
    rw c.from_residual.ensures (e, e)

pub invariant_of-self-2 : goal.invariant_of-self-2
invariant_of-self-2 c =
    let w = c.args.self.now in
    record { passed = rw c.first_left-self.ensures (passed_on w.image.stretches.now w.next w.place _ w.passed (omega arith)) }

more : (c : goal.After-result-2-1) → let i = c.args.self.now.image in steps i.bytes.now i.stretches.now i.base c.args.self.now.place
    ≡ step_of i.bytes.now c.in_ok-span.span i.base c.args.self.now.place ∷ steps i.bytes.now i.stretches.now i.base (c.args.self.now.place + c.bytes.result)
more c =
    let w = c.args.self.now in
    let i = w.image in
    let was : c.span_here.result ≡ Some c.in_ok-span.span = c.in_ok-span.was in
    rw c.bytes.ensures
    (walk_on i.bytes.now i.stretches.now i.base w.next w.place c.first_left-self.result w.passed c.first_left-self.ensures c.in_ok-span.span (sym was ∙ c.span_here.ensures))

pub returns-clause-steps : goal.returns-clause-steps
returns-clause-steps c = more c

pub returns-clause-goes : goal.returns-clause-goes
returns-clause-goes c =
    let e = ap (λ (l : List Step). length l) (more c) in
    record { on = λ f. (tt, tt, omega (arith, e)); keeps = tt; rests = λ f. tt }
