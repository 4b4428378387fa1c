-- `patch::overwrite` meets its contract. Assumes nothing.
use Rattle.std.proofs.Common.{◌≡◌, Err, rules, ◌∙◌}
use Rattle.refusal.specs.declared.Refusal.TheVariants.{NoWord}
use Rattle.patch.proofs.Answered.{arm_answer, thumb_answer}
use Rattle.patch.proofs.Stored.{half_bytes, word_bytes}
use Rattle.patch.proofs.overwrite.Goals as goal

pub returns-in_err-word-in-Arm : goal.returns-in_err-word-in-Arm
returns-in_err-word-in-Arm c =
    let a = c.args in
    let n = c.in_err-word-in-Arm.ensures.ok_part in
    let r : c.from_residual.result ≡ Err NoWord = search rules in
    rw (c.in-Arm.is, r) (arm_answer a.image.now a.pc a.at a.line.now ∙ rw (← c.read_arm.ensures, n))

pub returns-in_err-half-in-Thumb : goal.returns-in_err-half-in-Thumb
returns-in_err-half-in-Thumb c =
    let a = c.args in
    let n = c.in_err-half-in-Thumb.ensures.ok_part in
    let r : c.from_residual-in_err-half-in-Thumb.result ≡ Err NoWord = search rules in
    rw (c.in-Thumb.is, r) (thumb_answer a.image.now a.pc a.at a.line.now _ ∙ rw (← c.read_thumb.ensures, n))

pub returns-in_ok-word-in-Arm : goal.returns-in_ok-word-in-Arm
returns-in_ok-word-in-Arm c =
    let a = c.args in
    let n = c.in_ok-word-in-Arm.ensures.ok_part in
    rw (c.in-Arm.is, c.put_bytes.ensures, c.to_le_bytes.ensures, word_bytes a.image.now a.at c.in_ok-word-in-Arm.word (rw c.in-Arm.is at c.requires))
    (arm_answer a.image.now a.pc a.at a.line.now ∙ rw (← c.read_arm.ensures, n))

pub returns-in_ok-half-in-Thumb : goal.returns-in_ok-half-in-Thumb
returns-in_ok-half-in-Thumb c =
    let a = c.args in
    let n = c.in_ok-half-in-Thumb.ensures.ok_part in
    rw (c.in-Thumb.is, c.put_bytes-in-Thumb.ensures, c.to_le_bytes-in-Thumb.ensures, half_bytes a.image.now a.at c.in_ok-half-in-Thumb.half (rw c.in-Thumb.is at c.requires))
    (thumb_answer a.image.now a.pc a.at a.line.now _ ∙ rw (← c.read_thumb.ensures, n))
