-- The candidate word of a line: the reader's plan; nothing of the promise rests on it. Assumes nothing.
use Rattle.std.specs.Prelude.{◌%◌, ◌^◌, ℕ, get_or, List, [], ◌∷◌}
use Rattle.arm7tdmi.specs.declared.Form.{Form}
use Rattle.arm_candidate.specs.CandidateDataProcessing.{dp_cand}
use Rattle.arm_candidate.specs.CandidateParts.{Candidate}
use Rattle.arm_candidate.specs.CandidateSimple.{branch_cand, bx_cand, mrs_cand, msr_cand, mul_cand, mull_cand, swi_cand, swp_cand, undefined_cand}
use Rattle.arm_candidate.specs.CandidateTransfer.{half_cand, ldm_cand, ldr_cand}
use Rattle.arm_mnemonic.specs.Heads.{Head, head_of}
use Rattle.text.specs.Word.{word}

-- the families, in the order of their numbers
abbrev pub families : List Candidate
families =
    dp_cand ∷ branch_cand ∷ bx_cand ∷ ldr_cand ∷ ldm_cand ∷ mrs_cand ∷ msr_cand ∷ mul_cand ∷ mull_cand ∷ half_cand ∷ swi_cand ∷ swp_cand ∷ undefined_cand ∷ []

abbrev pub by_head : Head → Form → ℕ → List ℕ → ℕ
by_head h form pc l = get_or families h.family undefined_cand form pc h.bits h.condition l

-- what the first word says decides
unfoldable pub candidate : Form → ℕ → List ℕ → ℕ
candidate form pc l = by_head (head_of (word l)) form pc l % 2 ^ 32
