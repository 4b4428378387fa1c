-- The amount of a shift is read back: its field, from what a line states. Assumes nothing.
use Prim.Native.Nat.{◌<◌, ◌^◌, suc, zero, ℕ}
use borrow.Author.Tests.{eqb-true}
use lib.Dec.{eqb}
use mathlib.Core.Path.{◌≡◌, refl, sym}
use native.Mathlib.Omega.{arith}
use Rattle.arm7tdmi.specs.Alu.{amount_of, amount_of_zero, barrel_shift_op_code, places, sheet_amount}
use Rattle.arm7tdmi.specs.declared.Form.TheVariants.{Bench, Sheet}
use Rattle.arm7tdmi.specs.declared.Form.{Form}
use Rattle.arm7tdmi.specs.declared.alu.Amount.TheVariants.{Places, Rrx}
use Rattle.arm7tdmi.specs.declared.alu.Amount.{Amount}
use Rattle.common.proofs.Tests.{by_test}
use Rattle.reading.specs.Parts.{amount_field}

-- what is stated of shift k with field n: places whose field it is, or RRX, which is ROR #0
abbrev pub States : ℕ → ℕ → Amount → Type 0
States k n (Places m) = (m < 2 ^ 32) × (amount_field m ≡ n)
States k n Rrx = (k ≡ 3) × (n ≡ 0)

-- a field of five bits states itself
itself : (k n : ℕ) → n < 32 → States k n (Places n)
itself k n h = (omega arith, omega arith)

of_zero : (k : ℕ) → k < 4 → States k 0 (amount_of_zero (barrel_shift_op_code k))
unfolding barrel_shift_op_code
of_zero zero h = (omega arith, refl)
of_zero (suc zero) h = (omega arith, refl)
of_zero (suc (suc zero)) h = (omega arith, refl)
of_zero (suc (suc (suc zero))) h = (refl, refl)
of_zero (suc (suc (suc (suc k)))) h = absurd (omega arith)

-- THE LAW of amounts
pub amount_states : (form : Form) (k n : ℕ) → k < 4 → n < 32 → States k n (amount_of form (barrel_shift_op_code k) n)
unfolding amount_of sheet_amount
amount_states Bench k n hk h = itself k n h
amount_states Sheet k n hk h =
    by_test (eqb n 0)
    (λ e. let y : n ≡ 0 = eqb-true n 0 e in rw y (of_zero k hk))
    (λ e. rw e (itself k n h))

-- and of the places alone
pub places_state : (k n : ℕ) (a : Amount) → States k n a → (places a < 2 ^ 32) × (amount_field (places a) ≡ n)
places_state k n (Places m) s = s
places_state k n Rrx s = (omega arith, sym s.1)
