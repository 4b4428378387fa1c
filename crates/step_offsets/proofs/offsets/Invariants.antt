-- The steps follow one another to the image's end, the addresses so far have their offsets, and the walk has come to the place of the last of them. Assumes nothing.
use Rattle.std.proofs.Common.{◌≡◌, ◌-◌, ◌∷◌, ◌++◌, length, map, take, replicate, get_or}
use Rattle.steps.specs.Steps.{Follow, steps}
use Rattle.steps.specs.Walk.{rest}
use Rattle.step_offsets.specs.Offsets.{steps_past, place_of, step_offset}
use Rattle.step_offsets.proofs.offsets.Given as goal

abbrev pub invariant-loop-i : goal.invariant-loop-i
invariant-loop-i l =
    let x = l.image in
    record {
      follow : Follow 0 (steps x.bytes.now x.stretches.now x.base 0) (length x.bytes.now);
      walked : rest l.walk ≡ steps_past (get_or (0 ∷ map (place_of x.base) l.addresses) l.i 0) (steps x.bytes.now x.stretches.now x.base 0);
      given : l.offsets ≡ map (step_offset x.bytes.now x.stretches.now x.base) (take l.i l.addresses) ++ replicate (64 - l.i) 0xffffffff;
    }
