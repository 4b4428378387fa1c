-- `arm_candidate::operand::immediate` meets its contract. Invariant: no rotation below r has the value. Assumes nothing.
use Prim.Native.Nat.{◌-◌, ◌≤◌}
use Rattle.arm_candidate.specs.CandidateOperand.{rotation_of}
use Rattle.arm_candidate.proofs.operand.immediate.Given as goal

abbrev pub invariant-loop-r : goal.invariant-loop-r
invariant-loop-r l = (l.r ≤ 16) × (l.r ≤ rotation_of l.v)

abbrev pub decreases-loop-r : goal.decreases-loop-r
decreases-loop-r l = 16 - l.r
