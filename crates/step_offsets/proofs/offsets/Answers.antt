-- `step_offsets::offsets` meets its contract. Assumes nothing.
use Rattle.std.proofs.Common.{length, option_map, refl, ap, sym, arith}
use Rattle.steps.specs.Steps.{Follow, steps}
use Rattle.steps.specs.Walk.{listed_step}
use Rattle.step_offsets.proofs.Places.{past_start}
use Rattle.step_offsets.proofs.Turns.{Turn, found_number, found_within, no_number, walked_on}
use Rattle.step_offsets.proofs.Numbers.{one_more, none_more}
use Rattle.step_offsets.proofs.offsets.Goals as goal
use Rattle.step_offsets.proofs.offsets.Goals.{in-Some, in_default}

pub loop-i-init : goal.loop-i-init
loop-i-init c =
    let x = c.args.image in
    let w = c.new-walk.ensures in
    let f : Follow 0 (steps x.bytes.now x.stretches.now x.base 0) (length x.bytes.now) = rw (w.image, w.place) at (w.follow c.requires.fine) in
    record {
      follow = f;
      walked = rw (w.image, w.place) (sym (past_start (length x.bytes.now) (steps x.bytes.now x.stretches.now x.base 0) f));
      given = refl;
    }

pub overflow_cast-offsets : goal.overflow_cast-offsets
overflow_cast-offsets c =
    let x = c.args.image in
    let follow = c.loop-i.invariant.follow in
    let t : Turn x.bytes.now x.stretches.now x.base c.args.addresses.now c.loop-i.i c.place_of-place.result _ _ _ = record {
      follow = follow;
      sorted = c.requires.sorted;
      within = c.loop-i-test.true;
      place_is = c.place_of-place.ensures;
      walked = c.loop-i.invariant.walked;
      found = c.seek.ensures.found;
      left = c.seek.ensures.left;
    } in
    let f = found_within t (listed_step c.in-Some.step) (ap (λ (r : _). option_map listed_step r) c.in-Some.is) in
    record { fits = omega (arith, f, c.place_of-place.type_inv) }

pub loop-i-preserved : goal.loop-i-preserved
loop-i-preserved c =
    let x = c.args.image in
    let follow = c.loop-i.invariant.follow in
    let t : Turn x.bytes.now x.stretches.now x.base c.args.addresses.now c.loop-i.i c.place_of-place.result _ _ _ = record {
      follow = follow;
      sorted = c.requires.sorted;
      within = c.loop-i-test.true;
      place_is = c.place_of-place.ensures;
      walked = c.loop-i.invariant.walked;
      found = c.seek.ensures.found;
      left = c.seek.ensures.left;
    } in
    record {
      follow = follow;
      walked = walked_on t;
      given =
          elim c.match-seek.branch [
            | in-Some w ↦
                rw (w.offsets-is, c.loop-i.invariant.given)
                (one_more _ c.args.addresses.now 64 c.loop-i.i _ c.loop-i-test.true (omega arith) w.in-Some.step.offset (found_number t (listed_step w.in-Some.step) (ap (λ (r : _). option_map listed_step r) w.in-Some.is)))
            | in_default w ↦
                rw (w.offsets-is, c.loop-i.invariant.given)
                (none_more _ c.args.addresses.now 64 c.loop-i.i _ c.loop-i-test.true (omega arith) (no_number t (ap (λ (r : _). option_map listed_step r) w.in_default.is)))
          ];
    }
