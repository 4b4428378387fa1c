-- Reading a line: its candidate, printed and compared, is the lowest word that prints the line, or none does. Assumes nothing.
use Prim.Native.Nat.{◌<◌, ◌^◌, ℕ}
use lib.ListN.{get_or}
use mathlib.Core.Bool.{cond}
use mathlib.Core.List.{List}
use mathlib.Core.Path.{◌∙◌, ◌≡◌, refl}
use native.Mathlib.Nat.{lt_of_le_of_lt, mod-eq_of_lt, mod-lt}
use native.Mathlib.Omega.{arith}
use Rattle.lines.specs.Answer.{line}
use Rattle.arm.specs.Kinds.{arm_format}
use Rattle.arm7tdmi.specs.declared.Form.{Form}
use Rattle.arm.specs.declared.ArmFormat.{ArmFormat}
use Rattle.arm_print.specs.Print.{arm_line}
use Rattle.arm_lowest.proofs.Block.{ldm_law}
use Rattle.arm_lowest.proofs.Branch.{branch_law, bx_law, swi_law}
use Rattle.arm_lowest.proofs.DataProcessing.{dp_law}
use Rattle.arm_lowest.proofs.Found.{Found, Reads}
use Rattle.arm_lowest.proofs.Half.{half_law}
use Rattle.arm_lowest.proofs.Multiply.{mul_law, mull_law, swp_law}
use Rattle.arm_lowest.proofs.Single.{ldr_law}
use Rattle.arm_lowest.proofs.Status.{flags_law, mrs_law, msr_law}
use Rattle.arm_lowest.proofs.Undefined.{undefined_law}
use Rattle.arm_candidate.specs.Candidate.{by_head, candidate, families}
use Rattle.arm_candidate.specs.CandidateSimple.{undefined_cand}
use Rattle.arm_mnemonic.specs.Heads.{head_of}
use Rattle.arm_lowest.specs.Read.{read_arm}
use Rattle.reading.proofs.Demand.{candidate_reads}
use Rattle.reading.specs.Read.{is_line}
use Rattle.text.specs.Word.{word}
use Rattle.arm.specs.declared.ArmFormat.TheVariants as A

-- the candidate of a family that the head names, and whose candidate is found
module _ (form : Form) (pc w : ℕ) (h : w < 2 ^ 32) (t : List ℕ) where
  by_family : (k : ℕ) → Reads k (get_or families k undefined_cand) form pc w t → Found form pc w (candidate form pc t)
  unfolding candidate
  by_family k r = rw (r.first, mod-eq_of_lt (lt_of_le_of_lt r.found.low h)) r.found

pub candidate_lt : (form : Form) (pc : ℕ) (l : List ℕ) → candidate form pc l < 2 ^ 32
unfolding candidate
candidate_lt form pc l = mod-lt (by_head (head_of (word l)) form pc l) (omega arith)

-- of each word that prints a line, the candidate of the line is found
pub all_found : (form : Form) (pc : ℕ) → pc < 2 ^ 32 → (w : ℕ) → w < 2 ^ 32 → (t : List ℕ) → arm_line form pc w ≡ line t → Found form pc w (candidate form pc t)
all_found form pc hp w h t q = go (arm_format form w) refl
  where
    go : (k : ArmFormat) → arm_format form w ≡ k → Found form pc w (candidate form pc t)
    go A.BranchExchange e = by_family form pc w h t 2 (bx_law form pc w h e t q)
    go A.BranchLink e = by_family form pc w h t 1 (branch_law form pc hp w h e t q)
    go A.SoftwareInterrupt e = by_family form pc w h t 10 (swi_law form pc w h e t q)
    go A.Multiply e = by_family form pc w h t 7 (mul_law form pc w h e t q)
    go A.MultiplyLong e = by_family form pc w h t 8 (mull_law form pc w h e t q)
    go A.SingleDataTransfer e = by_family form pc w h t 3 (ldr_law form pc w h e t q)
    go A.HalfwordDataTransferRegOffset e = by_family form pc w h t 9 (half_law form pc 0 (omega arith) w h e t q)
    go A.HalfwordDataTransferImmediateOffset e = by_family form pc w h t 9 (half_law form pc 1 (omega arith) w h e t q)
    go A.DataProcessing e = by_family form pc w h t 0 (dp_law form pc w h e t q)
    go A.BlockDataTransfer e = by_family form pc w h t 4 (ldm_law form pc w h e t q)
    go A.SingleDataSwap e = by_family form pc w h t 11 (swp_law form pc w h e t q)
    go A.MoveFromStatus e = by_family form pc w h t 5 (mrs_law form pc w h e t q)
    go A.MoveToStatus e = by_family form pc w h t 6 (msr_law form pc w h e t q)
    go A.MoveToFlags e = by_family form pc w h t 6 (flags_law form pc w h e t q)
    go A.Undefined e = by_family form pc w h t 12 (undefined_law form pc w h e t q)

-- THE THEOREM: the candidate of a line, printed and compared with it, is what is read
pub read_arm_lem : (form : Form) (pc : ℕ) → pc < 2 ^ 32 → (l : List ℕ) →
    read_arm form pc l ≡ cond (is_line (arm_line form pc (candidate form pc l)) l) (candidate form pc l) (2 ^ 32)
unfolding read_arm
read_arm_lem form pc hp l =
    candidate_reads (arm_line form pc) (2 ^ 32) l (candidate form pc l) (candidate_lt form pc l)
    (λ w h e. let f = all_found form pc hp w h l e in (f.low, f.same ∙ e))
