-- `arm_candidate::operand::immediate` meets its contract. Invariant: no rotation below r has the value. Assumes nothing.
use Prim.Native.Nat.{zero-le}
use borrow.Author.Tests.{le-ltb, lt-ltb}
use lib.Dec.{ltb}
use mathlib.Core.Bool.{false, true}
use mathlib.Core.Path.{◌≡◌}
use native.Mathlib.Omega.{arith}
use Rattle.arm_candidate.specs.CandidateOperand.{immediate_of, rotation_of, turned_back}
use Rattle.common.proofs.Lowest.{lowest_at_most, lowest_step}
use Rattle.common.specs.Lowest.{lowest}
use Rattle.arm_candidate.proofs.operand.immediate.Goals as goal

pub loop-r-init : goal.loop-r-init
loop-r-init c = (omega arith, zero-le)

pub returns-then-byte-lt256 : goal.returns-then-byte-lt256
unfolding immediate_of rotation_of
returns-then-byte-lt256 c =
    let r = c.loop-r.r in
    let v = c.args.v in
    let t : ltb (turned_back v r) 256 ≡ true = rw (← c.rotate_right-byte.ensures) (lt-ltb _ _ c.if-byte-lt256.true) in
    let m = lowest_at_most (λ r. ltb (turned_back v r) 256) 16 r t in
    let e : lowest (λ r. ltb (turned_back v r) 256) 16 ≡ r = omega arith in
    (rw (c.from.ensures, e, lt-ltb r 16 (omega arith), c.rotate_right-byte.ensures), omega arith)

pub loop-r-preserved : goal.loop-r-preserved
unfolding rotation_of
loop-r-preserved c =
    let r = c.loop-r.r in
    let v = c.args.v in
    let t : ltb (turned_back v r) 256 ≡ false = rw (← c.rotate_right-byte.ensures) (le-ltb _ _ c.if-byte-lt256.false) in
    (omega arith, lowest_step (λ r. ltb (turned_back v r) 256) 16 r c.loop-r.invariant.1 (omega arith) t)

pub returns : goal.returns
unfolding immediate_of rotation_of
returns c =
    let v = c.args.v in
    let l = c.loop-r.invariant.1 in
    (rw (le-ltb (lowest (λ r. ltb (turned_back v r) 256) 16) 16 (omega arith)), omega arith)
