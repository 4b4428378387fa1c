-- `worst_run::worst_run` meets its contract. Assumes nothing.
use Rattle.std.proofs.Common.{length, sym, ◌∙◌, arith}
use Rattle.steps.specs.Steps.{steps}
use Rattle.worst_run.proofs.Bases.{any_answer}
use Rattle.worst_run.proofs.Largest.{has_most, is_first, is_reached, is_small}
use Rattle.worst_run.proofs.worst_run.Goals as goal

pub returns-clause-any_base : goal.returns-clause-any_base
returns-clause-any_base c base =
    let x = c.args.image in
    rw c.worst_in.ensures.value (any_answer x.bytes.now x.stretches.now x.base base (sym c.check.ensures.answer ∙ c.in_ok-check.was))

pub returns-clause-reached : goal.returns-clause-reached
returns-clause-reached c =
    let x = c.args.image in
    rw c.worst_in.ensures.value (is_reached 256 (steps x.bytes.now x.stretches.now x.base 0))

pub returns-clause-most : goal.returns-clause-most
returns-clause-most c =
    let x = c.args.image in
    rw c.worst_in.ensures.value (has_most 256 (steps x.bytes.now x.stretches.now x.base 0))

pub returns-clause-first : goal.returns-clause-first
returns-clause-first c =
    let x = c.args.image in
    rw c.worst_in.ensures.value (is_first 256 (steps x.bytes.now x.stretches.now x.base 0) (length x.bytes.now) (omega arith) c.worst_in.ensures.follow)

pub returns-clause-small : goal.returns-clause-small
returns-clause-small c =
    let x = c.args.image in
    rw c.worst_in.ensures.value (is_small 256 (steps x.bytes.now x.stretches.now x.base 0) x.bytes.now c.in_ok-check.ensures.short c.worst_in.ensures.follow)
