-- The kinds of Thumb words: the first row of mask, value and kind that a word meets. Assumes nothing.
use Rattle.std.specs.Prelude.{ℕ, List, [], ◌∷◌, slice_index_or}
use Rattle.arm7tdmi.specs.declared.Form.{Form}
use Rattle.arm7tdmi.specs.declared.Form.TheVariants.{Bench, Sheet}
use Rattle.arm7tdmi.specs.declared.kinds.Row.{Row}
use Rattle.thumb.specs.declared.ThumbFormat.{ThumbFormat}
use Rattle.thumb.specs.declared.ThumbFormat.TheVariants as H
use Rattle.arm7tdmi.specs.Kinds.{row, first_row}

-- DExx: bench, a branch as the row behind says; sheet (S7), "DExx is Undefined"
abbrev pub trap_format : Form → ThumbFormat
trap_format Bench = H.BranchConditional
trap_format Sheet = H.Undefined

-- the Rust's tests, in its order, with a row for DExx
unfoldable pub thumb_rows : Form → List (Row ThumbFormat)
thumb_rows form =
    row 0xf800 0x1800 H.AddSub ∷
    row 0xe000 0x0000 H.MoveShiftedReg ∷
    row 0xe000 0x2000 H.DataProcessImm ∷
    row 0xfc00 0x4000 H.AluOps ∷
    row 0xfc00 0x4400 H.HiRegOpOrBranchExchange ∷
    row 0xf800 0x4800 H.LdrPc ∷
    row 0xf200 0x5000 H.LdrStrRegOffset ∷
    row 0xf200 0x5200 H.LdrStrSHB ∷
    row 0xe000 0x6000 H.LdrStrImmOffset ∷
    row 0xf000 0x8000 H.LdrStrHalfWord ∷
    row 0xf000 0x9000 H.LdrStrSp ∷
    row 0xf000 0xa000 H.LoadAddress ∷
    row 0xff00 0xb000 H.AddSp ∷
    row 0xf600 0xb400 H.PushPop ∷
    row 0xf000 0xc000 H.LdmStm ∷
    row 0xff00 0xdf00 H.Swi ∷
    row 0xff00 0xde00 (trap_format form) ∷
    row 0xf000 0xd000 H.BranchConditional ∷
    row 0xf800 0xe000 H.Branch ∷
    row 0xf000 0xf000 H.BranchLongWithLink ∷
    []

abbrev pub thumb_none : Row ThumbFormat
thumb_none = row 0 0 H.Undefined

abbrev pub thumb_row_at : Form → ℕ → Row ThumbFormat
thumb_row_at form i = slice_index_or (thumb_rows form) i thumb_none

abbrev pub thumb_first : List (Row ThumbFormat) → ℕ → ThumbFormat
thumb_first = first_row H.Undefined

abbrev pub thumb_format : Form → ℕ → ThumbFormat
thumb_format form w = thumb_first (thumb_rows form) w

-- a kind's number, in the order of the Rust's enum
abbrev pub thumb_number : ThumbFormat → ℕ
thumb_number H.MoveShiftedReg = 0
thumb_number H.AddSub = 1
thumb_number H.DataProcessImm = 2
thumb_number H.AluOps = 3
thumb_number H.HiRegOpOrBranchExchange = 4
thumb_number H.LdrPc = 5
thumb_number H.LdrStrRegOffset = 6
thumb_number H.LdrStrSHB = 7
thumb_number H.LdrStrImmOffset = 8
thumb_number H.LdrStrHalfWord = 9
thumb_number H.LdrStrSp = 10
thumb_number H.LoadAddress = 11
thumb_number H.AddSp = 12
thumb_number H.PushPop = 13
thumb_number H.LdmStm = 14
thumb_number H.BranchConditional = 15
thumb_number H.Swi = 16
thumb_number H.Branch = 17
thumb_number H.BranchLongWithLink = 18
thumb_number H.Undefined = 19
