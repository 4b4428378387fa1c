-- Whether a word shows no instruction, by its kind and its bits alone. Assumes nothing.
use Rattle.std.proofs.Common.{◌≡◌, ℕ, ◌||◌, eqb, refl}
use Rattle.common.proofs.Tests.{by_test}
use Rattle.lines.specs.Answer.{is_invalid}
use Rattle.arm7tdmi.specs.declared.Form.{Form}
use Rattle.arm.specs.Kinds.{arm_format, arm_number}
use Rattle.arm.specs.declared.ArmFormat.{ArmFormat}
use Rattle.arm_disass.proofs.Named.{undefined_line}
use Rattle.arm_print.specs.Print.{answer_of, arm_line, lacks_cond, lacks_flags, lacks_type, refusal_of}

of_kind : (form : Form) (fmt : ArmFormat) (pc raw : ℕ) → is_invalid (answer_of form fmt pc raw) ≡ (lacks_cond form fmt raw || (lacks_type fmt raw || (lacks_flags form fmt raw || eqb (arm_number fmt) 14)))
unfolding answer_of refusal_of
of_kind form fmt pc raw =
    by_test (lacks_cond form fmt raw)
    (λ a. rw a refl)
    (λ a. by_test (lacks_type fmt raw)
    (λ b. rw (a, b) refl)
    (λ b. by_test (lacks_flags form fmt raw)
    (λ c. rw (a, b, c) refl)
    (λ c. rw (a, b, c) (undefined_line form fmt pc raw))))

pub shown_invalid : (form : Form) (pc raw : ℕ)
    → is_invalid (arm_line form pc raw)
    ≡ (lacks_cond form (arm_format form raw) raw || (lacks_type (arm_format form raw) raw || (lacks_flags form (arm_format form raw) raw || eqb (arm_number (arm_format form raw)) 14)))
unfolding arm_line
shown_invalid form pc raw = of_kind form (arm_format form raw) pc raw
