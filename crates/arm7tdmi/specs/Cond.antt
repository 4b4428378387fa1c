-- Conditions and their numbers. Assumes nothing.
use Rattle.std.specs.Prelude.{ℕ, ◌%◌, List, [], ◌∷◌, slice_index_or}
use Rattle.arm7tdmi.specs.declared.cond.ArmCond.{ArmCond}
use Rattle.arm7tdmi.specs.declared.cond.ArmCond.TheVariants as Cond

-- the conditions in the order of their numbers, and the condition of a number of four bits
abbrev pub arm_conds : List ArmCond
arm_conds = Cond.EQ ∷ Cond.NE ∷ Cond.HS ∷ Cond.LO ∷ Cond.MI ∷ Cond.PL ∷ Cond.VS ∷ Cond.VC ∷ Cond.HI ∷ Cond.LS ∷ Cond.GE ∷ Cond.LT ∷ Cond.GT ∷ Cond.LE ∷ Cond.AL ∷ Cond.Invalid ∷ []

unfoldable pub arm_cond : ℕ → ArmCond
arm_cond n = slice_index_or arm_conds (n % 16) Cond.Invalid

abbrev pub arm_cond_number : ArmCond → ℕ
arm_cond_number Cond.EQ = 0
arm_cond_number Cond.NE = 1
arm_cond_number Cond.HS = 2
arm_cond_number Cond.LO = 3
arm_cond_number Cond.MI = 4
arm_cond_number Cond.PL = 5
arm_cond_number Cond.VS = 6
arm_cond_number Cond.VC = 7
arm_cond_number Cond.HI = 8
arm_cond_number Cond.LS = 9
arm_cond_number Cond.GE = 10
arm_cond_number Cond.LT = 11
arm_cond_number Cond.GT = 12
arm_cond_number Cond.LE = 13
arm_cond_number Cond.AL = 14
arm_cond_number Cond.Invalid = 15
