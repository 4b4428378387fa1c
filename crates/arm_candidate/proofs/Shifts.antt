-- The shifts' names, as the code has them. Assumes nothing.
use Prim.Native.Nat.{ℕ}
use mathlib.Core.List.{List, map}
use mathlib.Core.Path.{◌≡◌, refl}
use Rattle.arm_candidate.specs.CandidateOperand.{shift_named, shift_names}
use Rattle.common.specs.Lists.{find}
use Rattle.text.proofs.Packed.{Bytes, find_packed}
use Rattle.text.specs.Word.{packed}

-- what the code looks up: the names, packed
pub shift_found : (l : List ℕ) → Bytes l → find (packed l) (map packed shift_names) ≡ shift_named l
unfolding shift_named shift_names
shift_found l h = find_packed shift_names l refl h
