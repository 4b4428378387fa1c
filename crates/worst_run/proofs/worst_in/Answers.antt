-- `worst_run::worst_in` meets its contract. Assumes nothing.
use Rattle.std.proofs.Common.{[], ◌∷◌, ◌++◌, length, drop, ap, ◌∙◌, arith}
use Rattle.std.proofs.lemmas.Iterator.Consumers.{YieldsList-end, YieldsList-turn}
use Rattle.std.proofs.lemmas.List.{length_push}
use Rattle.steps.specs.Steps.{Follow, steps}
use Rattle.steps.specs.Walk.{listed_step}
use Rattle.worst_run.specs.Worst.{or_worse}
use Rattle.worst_run.specs.declared.window.Kept.{Kept}
use Rattle.worst_run.proofs.Walked.{ended, short, start, turned, walks}
use Rattle.worst_run.proofs.worst_in.Goals as goal

pub loop-step-init : goal.loop-step-init
loop-step-init c =
    let x = c.args.image in
    let w = c.new-step-items.ensures in
    let all = steps x.bytes.now x.stretches.now x.base 0 in
    let f : Follow 0 all (length x.bytes.now) = rw (w.image, w.place) at (w.follow c.requires) in
    start 256 all (length x.bytes.now) c.new-window.result c.run-worst.result f c.new-window.ensures c.run-worst.ensures

pub push-requires : goal.push-requires
push-requires c =
    let x = c.args.image in
    let w = c.new-step-items.ensures in
    let all = steps x.bytes.now x.stretches.now x.base 0 in
    let road = walks c.new-step-items.result c.into_iter-step-iterator.result all (rw (w.image, w.place)) c.into_iter-step-iterator.ensures.into_iter_gives in
    let t = YieldsList-turn road c.loop-step.yielded _ c.loop-step.yielded_by _ c.next.new.self c.in-Some.step c.in-Some.is c.next.ensures.steps in
    rw c.kept.ensures (c.loop-step.invariant.next_near (listed_step c.in-Some.step) t.0 t.1)

pub loop-step-preserved : goal.loop-step-preserved
loop-step-preserved c =
    let x = c.args.image in
    let all = steps x.bytes.now x.stretches.now x.base 0 in
    let w = c.new-step-items.ensures in
    let f : Follow 0 all (length x.bytes.now) = rw (w.image, w.place) at (w.follow c.requires) in
    let road = walks c.new-step-items.result c.into_iter-step-iterator.result all (rw (w.image, w.place)) c.into_iter-step-iterator.ensures.into_iter_gives in
    let t = YieldsList-turn road c.loop-step.yielded _ c.loop-step.yielded_by _ c.next.new.self c.in-Some.step c.in-Some.is c.next.ensures.steps in
    let next = c.push.ensures ∙ ap (λ (k : Kept). drop 1 c.loop-step.window ++ k ∷ []) c.kept.ensures in
    let worst = c.or_worse-worst.ensures ∙ ap (or_worse c.loop-step.worst) c.run.ensures in
    rw length_push (turned (length x.bytes.now) (listed_step c.in-Some.step) (short c.in-Some.step) (omega arith) f c.loop-step.invariant t.0 t.1 next worst)

pub returns-clause-value : goal.returns-clause-value
returns-clause-value c =
    let x = c.args.image in
    let all = steps x.bytes.now x.stretches.now x.base 0 in
    let w = c.new-step-items.ensures in
    let road = walks c.new-step-items.result c.into_iter-step-iterator.result all (rw (w.image, w.place)) c.into_iter-step-iterator.ensures.into_iter_gives in
    let e = YieldsList-end road c.loop-step.yielded _ c.loop-step.yielded_by _ c.next.new.self c.in-None.is c.next.ensures.steps in
    ended c.loop-step.invariant e.1

pub returns-clause-follow : goal.returns-clause-follow
returns-clause-follow c = let w = c.new-step-items.ensures in rw (w.image, w.place) at (w.follow c.requires)
