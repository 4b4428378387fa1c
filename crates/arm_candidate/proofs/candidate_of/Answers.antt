-- `arm_candidate::candidate_of` meets its contract. Assumes nothing.
use Rattle.arm_candidate.specs.Candidate.{candidate}
use Rattle.arm_candidate.proofs.candidate_of.Goals as goal

pub returns : goal.returns
unfolding candidate
returns c =
    let n = c.new-said.ensures in
    rw (c.by_family.ensures, n.0, n.1, n.2, n.3, n.4, n.5)
