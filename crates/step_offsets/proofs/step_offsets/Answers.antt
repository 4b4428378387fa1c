-- `step_offsets::step_offsets` meets its contract. Assumes nothing.
use Rattle.std.proofs.Common.{map, true≢false, refl, sym, ◌∙◌, arith}
use Rattle.step_offsets.specs.Offsets.{place_of}
use Rattle.step_offsets.proofs.Found.{of_covering, of_inside, none_outside}
use Rattle.step_offsets.proofs.Order.{never_falls, none_falls}
use Rattle.step_offsets.proofs.step_offsets.Goals as goal

pub returns-then-falls-clause-accepted : goal.returns-then-falls-clause-accepted
returns-then-falls-clause-accepted c =
    let x = c.args.image in (
      λ e. absurd (true≢false (sym e)),
      λ a. absurd (true≢false (sym c.if-falls.true ∙ c.falls.ensures ∙ never_falls (place_of x.base) c.args.addresses.now a.2)),
    )

pub returns-clause-accepted : goal.returns-clause-accepted
returns-clause-accepted c =
    let x = c.args.image in (
      λ e. (sym c.check.ensures.answer ∙ c.in_ok-check.was, omega arith, none_falls (map (place_of x.base) c.args.addresses.now) (sym c.falls.ensures ∙ c.if-falls.false)),
      λ a. refl,
    )

pub returns-clause-covering : goal.returns-clause-covering
returns-clause-covering c =
    let x = c.args.image in
    rw c.offsets.ensures.value (of_covering x.bytes.now x.stretches.now x.base c.args.addresses.now c.offsets.ensures.follow)

pub returns-clause-inside : goal.returns-clause-inside
returns-clause-inside c =
    let x = c.args.image in
    rw c.offsets.ensures.value (of_inside x.bytes.now x.stretches.now x.base c.args.addresses.now c.offsets.ensures.follow)

pub returns-clause-outside : goal.returns-clause-outside
returns-clause-outside c =
    let x = c.args.image in
    rw c.offsets.ensures.value (none_outside x.bytes.now x.stretches.now x.base c.args.addresses.now c.offsets.ensures.follow c.in_ok-check.ensures.short)
