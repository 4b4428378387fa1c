-- Opcodes and flags, and their numbers. Assumes nothing.
use Prim.Native.Nat.{◌<◌, ℕ}
use borrow.Author.Tests.{eqb-true}
use lib.Dec.{eqb}
use mathlib.Core.Bool.{Bool, false, true}
use mathlib.Core.Path.{◌≡◌, refl}
use mir.Val.{bool_byte}
use Rattle.arm7tdmi.specs.Alu.{alu_number, alu_op_code}
use Rattle.common.proofs.Tests.{at}
use Rattle.reading.specs.Parts.{flag}

-- a number of four bits is that of its opcode
pub op_numbered : (n : ℕ) → n < 16 → alu_number (alu_op_code n) ≡ n
unfolding alu_op_code
op_numbered n h = eqb-true _ _ (at (λ n. eqb (alu_number (alu_op_code n)) n) 16 refl n h)

-- a flag's number is that of the conversion
pub flag_number : (b : Bool) → bool_byte b ≡ flag b
flag_number false = refl
flag_number true = refl
