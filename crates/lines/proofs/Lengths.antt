-- How long the pieces of a line are. Assumes nothing.
use Prim.Native.Nat.{◌+◌, ◌-◌, ◌/◌, ◌<◌, ◌^◌, ◌≤◌, suc, zero, ℕ}
use borrow.Author.Tests.{eqb-false, eqb-true}
use lib.Dec.{eqb}
use lib.ListN.{length, length-append}
use lib.Pow.{pow_mono, pow_pos}
use mathlib.Core.List.{List, ◌++◌}
use mathlib.Core.Path.{◌≡◌}
use native.Mathlib.Nat.{mod-lt}
use native.Mathlib.Numerals.{add-one}
use native.Mathlib.Omega.{arith}
use Rattle.arm7tdmi.proofs.Names.{cond_within, reg_within}
use Rattle.lines.proofs.Registers.{low_some, registers_next, registers_none}
use Rattle.arm7tdmi.specs.Names.{reg_string}
use Rattle.lines.specs.Pieces.{cond_at, either, if_set, listed, reg_at, registers}
use Rattle.common.proofs.Tests.{by_test}
use Rattle.common.specs.Bits.{bit, bit_range}
use Rattle.text.proofs.Within.{Within, of_two, or_none}

-- ---- pieces
pub reg_at_within : (raw a b : ℕ) → b - a ≤ 4 → Within 2 3 (reg_at raw a b)
unfolding reg_at
reg_at_within raw a b h =
    let p = pow_mono h in
    let l = mod-lt (raw / 2 ^ a) {m = 2 ^ (b - a)} (pow_pos (b - a)) in
    reg_within (bit_range raw a b) (omega arith)

pub cond_at_within : (raw a b : ℕ) → Within 0 2 (cond_at raw a b)
unfolding cond_at
cond_at_within raw a b = cond_within (bit_range raw a b)

pub either_within : {lo hi : ℕ} {x y : List ℕ} (raw n : ℕ) → Within lo hi x → Within lo hi y → Within lo hi (either raw n x y)
unfolding either
either_within raw n p q = of_two (bit raw n) p q

pub if_set_within : {lo hi : ℕ} {x : List ℕ} (raw n : ℕ) → Within lo hi x → Within 0 hi (if_set raw n x)
unfolding if_set
if_set_within raw n p = or_none (bit raw n) p

-- ---- a list of registers: each name with a comma and a space, less those of the first
abbrev pub room : ℕ → ℕ
room zero = 0
room (suc n) = room n + length (reg_string n) + 2

some_room : (raw n : ℕ) → (bit_range raw 0 n ≡ 0 → ⊥) → 2 ≤ room n
some_room raw n e = at_least n (low_some raw n e)
  where
    at_least : (n : ℕ) → 0 < n → 2 ≤ room n
    at_least zero h = absurd (omega arith)
    at_least (suc n) h = omega arith

one_more : (raw n : ℕ) → length (registers raw n) ≤ room n - 2 → length (registers raw n) + length (listed raw n) ≤ room n + length (reg_string n) + 2 - 2
unfolding listed
one_more raw n ih =
    by_test (bit raw n)
    (λ t. by_test (eqb (bit_range raw 0 n) 0)
    (λ z. let e = registers_none raw n (eqb-true _ _ z) in rw (t, z, e) (omega arith))
    (λ z. let s = some_room raw n (eqb-false _ _ z) in rw (t, z) (omega arith)))
    (λ t. rw t (omega arith))

registers_most : (raw n : ℕ) → length (registers raw n) ≤ room n - 2
registers_most raw zero = let e = registers_none raw 0 (omega arith) in rw e (omega arith)
registers_most raw (suc n) =
    let ih = registers_most raw n in
    let e : registers raw (suc n) ≡ registers raw n ++ listed raw n = rw (← add-one) (registers_next raw n) in
    rw e (simp length-append (one_more raw n ih))

pub registers_within : (raw n : ℕ) → Within 0 (room n - 2) (registers raw n)
registers_within raw n = record { least = omega arith; most = registers_most raw n }
