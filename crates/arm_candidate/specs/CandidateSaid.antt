-- A candidate of what a line says: the reader's plan; nothing of the promise rests on it. Assumes nothing.
use Rattle.std.specs.Prelude.{ℕ}
use Rattle.arm7tdmi.specs.Cond.{arm_cond_number}
use Rattle.arm_candidate.specs.CandidateParts.{Candidate}
use Rattle.arm_candidate.specs.declared.parts.Said.{Said}

abbrev pub of_said : Candidate → Said → ℕ
of_said f s = f s.form s.pc s.head.bits (arm_cond_number s.cond) s.line.now
