-- How long lines are; and what is read. Assumes nothing.
use Prim.Native.Nat.{◌<◌, ◌^◌, ◌≤◌, ℕ}
use borrow.Author.Tests.{lt-ltb}
use lib.ListN.{length}
use mathlib.Core.Bool.{false, true}
use mathlib.Core.List.{List}
use mathlib.Core.Path.{◌≡◌, refl}
use Rattle.lines.specs.Answer.{Answer, line, refused}
use Rattle.arm.specs.Kinds.{arm_format}
use Rattle.arm7tdmi.specs.declared.Form.{Form}
use Rattle.arm_disass.proofs.Lengths.{line_within}
use Rattle.arm_print.specs.Print.{answer_of, arm_line, line_unless}
use Rattle.arm_print.proofs.Whole.{by_refusal}
use Rattle.arm_disass.specs.Line.{line_of}
use Rattle.arm_lowest.proofs.Read.{candidate_lt, read_arm_lem}
use Rattle.arm_candidate.specs.Candidate.{candidate}
use Rattle.arm_read.specs.Answer.{read_answer}
use Rattle.std.specs.Prelude.{⊤, None, Some}
use Rattle.common.proofs.Lists.{other}
use Rattle.reading.specs.Read.{is_line}
use Rattle.text.proofs.Within.{Within}

-- a line has from 5 to 80 bytes
abbrev pub Sound : Answer → Type 0
Sound (refused r) = ⊤
Sound (line t) = Within 5 80 t

pub arm_sound : (form : Form) (pc w : ℕ) → Sound (arm_line form pc w)
unfolding arm_line answer_of
arm_sound form pc w =
    let f = arm_format form w in
    by_refusal (λ a. Sound (line_unless a (line_of form f pc w))) form f w tt tt (λ s. tt) (line_within form f pc w)

-- a line of another length is the line of no word
pub not_line : (a : Answer) (l : List ℕ) → Sound a → (5 ≤ length l → length l ≤ 80 → ⊥) → is_line a l ≡ false
not_line (refused n) l s f = refl
not_line (line t) l s f = other t l (λ e. f (rw e at s.least) (rw e at s.most))

-- ---- the answer
module _ (form : Form) (pc : ℕ) (h : pc < 2 ^ 32) (l : List ℕ) where
  pub nothing_read : is_line (arm_line form pc (candidate form pc l)) l ≡ false → None ≡ read_answer form pc l
  unfolding read_answer
  nothing_read e = rw (read_arm_lem form pc h l, e)

  pub word_read : is_line (arm_line form pc (candidate form pc l)) l ≡ true → Some (candidate form pc l) ≡ read_answer form pc l
  unfolding read_answer
  word_read e = rw (read_arm_lem form pc h l, e, lt-ltb (candidate form pc l) (2 ^ 32) (candidate_lt form pc l))
