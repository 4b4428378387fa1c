-- What a print answers, but for a buffer that is too short. Assumes nothing.
use mathlib.Core.Path.{◌≡◌, refl}
use mathlib.Core.List.{List}
use Prim.Native.Nat.{ℕ, ◌<◌, ◌≤◌}
use native.Mathlib.Omega.{arith}
use borrow.Author.Tests.{le-ltb, ltb-false}
use lib.Dec.{ltb}
use lib.ListN.{length, length-append, length-drop}
use Rattle.common.proofs.Tests.{by_test}
use Rattle.refusal.specs.Refusal.{number}
use Rattle.refusal.specs.declared.Refusal.{Refusal}
use Rattle.std.proofs.Common.{Result, Ok, Err}
use Rattle.lines.specs.Answer.{Answer, refused, line, given, printed}

-- a refusal has a number, which is not the buffer's, and a line has room in 80 bytes
abbrev pub Whole : Answer → Type 0
Whole (refused r) = (0 < number r) × (number r ≡ 3 → ⊥)
Whole (line bs) = length bs ≤ 80

-- a refusal is no length
pub apart : {r : Refusal} {n : ℕ} → ◌≡◌ {A = Result ℕ Refusal} (Err r) (Ok n) → ⊥
apart e = let z : ◌≡◌ {A = ℕ} 0 1 = cc in omega arith

-- a line into a buffer with room for any line
pub with_room : (bs l : List ℕ) → Whole (line bs) → 80 ≤ length l → printed (line bs) l ≡ given bs l
unfolding printed
with_room bs l w h = rw (le-ltb (length l) (length bs) (omega arith))

-- the buffer stays as long as it is
pub print_kept : (a : Answer) (l : List ℕ) → length (printed a l).1 ≡ length l
unfolding printed
print_kept (refused r) l = refl
print_kept (line bs) l =
    by_test (ltb (length l) (length bs))
    (λ t. rw t)
    (λ t. let h = ltb-false (length l) (length bs) t in rw t (simp (length-append, length-drop) (omega arith)))
