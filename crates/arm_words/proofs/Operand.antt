-- Operand 2, and the offset of a transfer: its parts, and what a line does not show of it. Assumes nothing.
use Prim.Native.Nat.{◌%◌, ◌*◌, ◌+◌, ◌/◌, ◌<◌, ◌^◌, ◌≤◌, ℕ}
use borrow.Author.Tests.{eqb-false, eqb-true}
use mathlib.Core.Bool.{cond}
use mathlib.Core.Path.{◌∙◌, ◌≡◌, refl}
use native.Mathlib.Omega.{arith}
use Rattle.common.proofs.Tests.{by_test}
use Rattle.common.specs.Bits.{bit, bit_range}

-- the parts of the lowest twelve bits, read off the word
pub operand_read : (w n : ℕ) → bit_range w 0 12 ≡ n →
    (bit_range w 0 4 ≡ bit_range n 0 4) × (bit_range w 4 5 ≡ bit_range n 4 5) × (bit_range w 5 7 ≡ bit_range n 5 7) × (bit_range w 7 12 ≡ bit_range n 7 12) × (bit_range w 8 12 ≡ bit_range n 8 12) × (bit_range w 0 8 ≡ bit_range n 0 8)
operand_read w n e = rw (← e) (omega arith)

-- a register that a register shifts, with bit 4 set, does not show bit 7
abbrev pub shift_least : ℕ → ℕ
shift_least n = cond (bit n 4) (n / 2 ^ 8 * 2 ^ 8 + n % 2 ^ 7) n

-- all else is the same
pub record ShiftLeast (n k : ℕ) : Type 0 where
  pub low : k ≤ n
  pub clear : bit_range k 4 5 ≡ 1 → bit_range k 7 8 ≡ 0
  pub some : k ≡ 0 → n ≡ 0
  pub reg : bit_range k 0 4 ≡ bit_range n 0 4
  pub by : bit_range k 4 5 ≡ bit_range n 4 5
  pub shift : bit_range k 5 7 ≡ bit_range n 5 7
  pub amount : bit_range n 4 5 ≡ 0 → bit_range k 7 12 ≡ bit_range n 7 12
  pub rs : bit_range k 8 12 ≡ bit_range n 8 12

seven : (a t : ℕ) → t < 128 → ((a * 256 + t) / 128 % 2 ≡ 0) × ((a * 256 + t) / 32 % 4 ≡ t / 32)
seven a t h = omega arith

five : (n : ℕ) → n % 128 / 32 ≡ n / 32 % 4
five n = omega arith

pub shift_least_lem : (n : ℕ) → ShiftLeast n (shift_least n)
shift_least_lem n =
    by_test (bit n 4)
    (λ e. let y : bit_range n 4 5 ≡ 1 = eqb-true _ _ e in
    rw e (record { low = omega arith; clear = λ z. (seven (n / 256) (n % 128) (omega arith)).0; some = λ z. omega arith; reg = omega arith; by = omega arith; shift = (seven (n / 256) (n % 128) (omega arith)).1 ∙ five n; amount = λ z. absurd (omega arith); rs = omega arith }))
    (λ e. let y : bit_range n 4 5 ≡ 1 → ⊥ = eqb-false _ _ e in
    rw e (record { low = omega arith; clear = λ z. absurd (y z); some = λ z. z; reg = refl; by = refl; shift = refl; amount = λ z. refl; rs = refl }))
