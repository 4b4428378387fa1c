-- What a mnemonic says, as the code has it: the reader's plan; nothing of the promise rests on it. Assumes nothing.
use Rattle.std.specs.Prelude.{ℕ, Bool, ltb, List, [], ◌∷◌, slice_index_or}
use Rattle.arm_mnemonic.specs.Heads.{stem_at}
use Rattle.arm_mnemonic.specs.declared.Family.{Family}
use Rattle.arm_mnemonic.specs.declared.Family.TheVariants as F
use Rattle.arm_mnemonic.specs.declared.Head.{Head}

-- the families in the order of their numbers, the family of a number, and the number of a family
abbrev pub families : List Family
families = F.DataProcessing ∷ F.Branch ∷ F.BranchExchange ∷ F.Transfer ∷ F.BlockTransfer ∷ F.Mrs ∷ F.Msr ∷ F.Multiply ∷ F.MultiplyLong ∷ F.HalfTransfer ∷ F.Swi ∷ F.Swap ∷ F.Nothing ∷ []

abbrev pub family_of : ℕ → Family
family_of n = slice_index_or families n F.Nothing

abbrev pub family_number : Family → ℕ
family_number F.DataProcessing = 0
family_number F.Branch = 1
family_number F.BranchExchange = 2
family_number F.Transfer = 3
family_number F.BlockTransfer = 4
family_number F.Mrs = 5
family_number F.Msr = 6
family_number F.Multiply = 7
family_number F.MultiplyLong = 8
family_number F.HalfTransfer = 9
family_number F.Swi = 10
family_number F.Swap = 11
family_number F.Nothing = 12

-- the family and the bits of stem k
abbrev pub head_at : ℕ → Head
head_at k = record { family = family_of (stem_at k).family; bits = (stem_at k).bits }

-- whether a word that says this is a mnemonic
abbrev pub is_mnemonic : Head → Bool
is_mnemonic h = ltb (family_number h.family) 12
