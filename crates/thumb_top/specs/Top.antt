-- Thumb kinds by top byte: "a table of 256 kinds, indexed by a halfword's top byte. Add one for each form". Assumes nothing.
use Rattle.std.specs.Prelude.{ℕ, ◌*◌, ◌^◌, List, [], ◌∷◌, slice_index_or}
use Rattle.arm7tdmi.specs.declared.Form.{Form}
use Rattle.arm7tdmi.specs.declared.Form.TheVariants.{Bench, Sheet}
use Rattle.thumb.specs.Kinds.{thumb_format}
use Rattle.thumb.specs.declared.ThumbFormat.{ThumbFormat}
use Rattle.thumb.specs.declared.ThumbFormat.TheVariants as H
use Rattle.thumb_top.specs.declared.TheConstants.{BENCH_KINDS, SHEET_KINDS}

-- "the kind that the mask tests give": here for the lowest halfword with a top byte, and so for each (`by_top`)
abbrev pub top_kind : Form → ℕ → ThumbFormat
top_kind form top = thumb_format form (top * 2 ^ 8)

-- for the contracts of inner functions: the tables of the code, and the kind of a number in them
abbrev pub table : Form → List ℕ
table Bench = BENCH_KINDS
table Sheet = SHEET_KINDS

-- in the order of `thumb_number`, Undefined last
abbrev pub kinds : List ThumbFormat
kinds =
    H.MoveShiftedReg ∷ H.AddSub ∷ H.DataProcessImm ∷ H.AluOps ∷ H.HiRegOpOrBranchExchange ∷ H.LdrPc ∷ H.LdrStrRegOffset ∷
    H.LdrStrSHB ∷ H.LdrStrImmOffset ∷ H.LdrStrHalfWord ∷ H.LdrStrSp ∷ H.LoadAddress ∷ H.AddSp ∷ H.PushPop ∷
    H.LdmStm ∷ H.BranchConditional ∷ H.Swi ∷ H.Branch ∷ H.BranchLongWithLink ∷
    []

unfoldable pub kind_of : ℕ → ThumbFormat
kind_of n = slice_index_or kinds n H.Undefined
