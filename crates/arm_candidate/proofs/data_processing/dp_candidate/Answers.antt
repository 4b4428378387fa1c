-- `arm_candidate::data_processing::dp_candidate` meets its contract. Assumes nothing.
use Rattle.arm7tdmi.specs.Alu.{alu_number}
use Rattle.arm_candidate.specs.CandidateDataProcessing.{dp_cand, dp_from}
use Rattle.arm_candidate.proofs.Opcodes.{flag_number, op_numbered}
use Rattle.arm_candidate.proofs.data_processing.dp_candidate.Goals as goal
use mathlib.Core.Path.{◌∙◌, ◌≡◌, ap}
use native.Mathlib.Omega.{arith}
use Prim.Native.Nat.{◌/◌, ◌^◌}

pub returns : goal.returns
unfolding dp_cand dp_from
returns c =
    let b = c.args.said.now.head.bits in
    let e : alu_number c.from-op.result ≡ b / 2 ^ 21 = ap alu_number c.from-op.ensures ∙ op_numbered (b / 2 ^ 21) (omega arith) in
    rw (c.condition.ensures.0, c.bits-b.ensures.0, c.from-s.ensures, c.test_s.ensures, flag_number, c.rn_in-rn.ensures.0, c.rd_in-rd.ensures.0, c.operand_in-y.ensures.0, e)
