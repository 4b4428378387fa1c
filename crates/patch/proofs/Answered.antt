-- What a patch answers, by what the read of its line answers; and that a place which is not refused has room for a word. Assumes nothing.
use mathlib.Core.Path.{◌≡◌}
use mathlib.Core.List.{List}
use Prim.Native.Nat.{ℕ, ◌+◌, ◌%◌, ◌^◌, ◌<◌, ◌≤◌}
use native.Mathlib.Omega.{arith}
use borrow.Author.Tests.{leb-false}
use lib.Dec.{leb, ltb}
use lib.ListN.{length}
use Rattle.common.proofs.Tests.{by_test}
use Rattle.arm7tdmi.specs.declared.Form.TheVariants.{Sheet}
use Rattle.arm_lowest.specs.Read.{read_arm}
use Rattle.arm_read.specs.Answer as ArmAnswer
use Rattle.thumb_lowest.specs.Read.{read_thumb}
use Rattle.thumb_read.specs.Answer as ThumbAnswer
use Rattle.image.specs.Refusal.{refusal_at, unit}
use Rattle.image.specs.Stretches.{pairs, set_at}
use Rattle.image.specs.declared.Set.{Set}
use Rattle.image.specs.declared.Set.TheVariants.{Arm, Thumb}
use Rattle.image.proofs.Valid.{valid, place_passed, placed, not_refused}
use Rattle.std.proofs.Common.{Result, Ok, Err}
use Rattle.std.specs.Prelude.{⊤, Option, Some, None}
use Rattle.refusal.specs.declared.Refusal.{Refusal}
use Rattle.refusal.specs.declared.Refusal.TheVariants.{NoWord}
use Rattle.patch.specs.Patch.{patch_refusal, patched_in, with_number}

-- ---- by the answer of a read
abbrev answered : List ℕ → ℕ → ℕ → Option ℕ → Result ⊤ Refusal × List ℕ
answered image at width None = (Err NoWord, image)
answered image at width (Some word) = (Ok tt, with_number image at width word)

module _ (image : List ℕ) (p at : ℕ) (l : List ℕ) where
  pub arm_answer : patched_in image Arm p at l ≡ answered image at 4 (ArmAnswer.read_answer Sheet p l)
  unfolding ArmAnswer.read_answer read_arm patched_in
  arm_answer = by_test (ltb (read_arm Sheet p l) (2 ^ 32)) (λ t. rw t) (λ t. rw t)

  pub thumb_answer : (e : ℕ) → patched_in image (Thumb e) p at l ≡ answered image at 2 (ThumbAnswer.read_answer Sheet p l)
  unfolding ThumbAnswer.read_answer read_thumb patched_in
  thumb_answer e = by_test (ltb (read_thumb Sheet p l) (2 ^ 16)) (λ t. rw t) (λ t. rw t)

-- ---- a place that is not refused for a patch
module _ (image list : List ℕ) (at : ℕ) (e : patch_refusal image list at ≡ Ok tt) where
  -- is not for a listing either, and lies before the end
  pub may_resume : refusal_at image list at ≡ Ok tt
  unfolding patch_refusal
  may_resume = (place_passed (refusal_at image list at) (leb (length image) at) e).0

  pub before_end : at < length image
  unfolding patch_refusal
  before_end = leb-false _ _ (place_passed (refusal_at image list at) (leb (length image) at) e).1

  -- so there is room for a word of the set there
  room_in : (s : Set) → at % unit s ≡ 0 → length image % 4 ≡ 0 → at < length image → at + unit s ≤ length image
  room_in Arm p f b = omega arith
  room_in (Thumb n) p f b = omega arith

  pub room : at + unit (set_at (pairs list) at) ≤ length image
  room = room_in (set_at (pairs list) at) (placed image list at may_resume).even (valid image list (not_refused image list at may_resume)).fours before_end
