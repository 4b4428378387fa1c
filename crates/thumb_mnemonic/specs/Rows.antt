-- The mnemonics of Thumb lines. The reader's plan; nothing of the promise rests on it. Assumes nothing.
use Rattle.std.specs.Prelude.{ℕ, eqb, get_or, cond, List, [], ◌∷◌}
use Rattle.thumb.specs.declared.ThumbFormat.{ThumbFormat}
use Rattle.thumb.specs.declared.ThumbFormat.TheVariants as H
use Rattle.text.specs.Text.{text}
use Rattle.text.specs.Word.{packed}
use Rattle.thumb_mnemonic.specs.declared as code

-- the mnemonics, each with the word that has it and no operands, in the order of the words, and that word's kind on the bench. A line of MoveShiftedReg
-- and that of Undefined begin with no word: their first letters are capitals and `<`. No mnemonic has more than five rows
pub record Row : Type 0 where
  pub name : List ℕ
  pub bits : ℕ
  pub kind : ThumbFormat

abbrev row : List ℕ → ℕ → ThumbFormat → Row
row t b k = record { name = t; bits = b; kind = k }

unfoldable pub rows : List Row
rows =
    row [] 0x0000 H.MoveShiftedReg ∷
    row (text "add") 0x1800 H.AddSub ∷
    row (text "sub") 0x1a00 H.AddSub ∷
    row (text "mov") 0x2000 H.DataProcessImm ∷
    row (text "cmp") 0x2800 H.DataProcessImm ∷
    row (text "add") 0x3000 H.DataProcessImm ∷
    row (text "sub") 0x3800 H.DataProcessImm ∷
    row (text "and") 0x4000 H.AluOps ∷
    row (text "eor") 0x4040 H.AluOps ∷
    row (text "lsl") 0x4080 H.AluOps ∷
    row (text "lsr") 0x40c0 H.AluOps ∷
    row (text "asr") 0x4100 H.AluOps ∷
    row (text "adc") 0x4140 H.AluOps ∷
    row (text "sbc") 0x4180 H.AluOps ∷
    row (text "ror") 0x41c0 H.AluOps ∷
    row (text "tst") 0x4200 H.AluOps ∷
    row (text "neg") 0x4240 H.AluOps ∷
    row (text "cmp") 0x4280 H.AluOps ∷
    row (text "cmn") 0x42c0 H.AluOps ∷
    row (text "orr") 0x4300 H.AluOps ∷
    row (text "mul") 0x4340 H.AluOps ∷
    row (text "bic") 0x4380 H.AluOps ∷
    row (text "mvn") 0x43c0 H.AluOps ∷
    row (text "add") 0x4400 H.HiRegOpOrBranchExchange ∷
    row (text "cmp") 0x4500 H.HiRegOpOrBranchExchange ∷
    row (text "mov") 0x4600 H.HiRegOpOrBranchExchange ∷
    row (text "bx") 0x4700 H.HiRegOpOrBranchExchange ∷
    row (text "ldr") 0x4800 H.LdrPc ∷
    row (text "str") 0x5000 H.LdrStrRegOffset ∷
    row (text "strh") 0x5200 H.LdrStrSHB ∷
    row (text "strb") 0x5400 H.LdrStrRegOffset ∷
    row (text "ldsb") 0x5600 H.LdrStrSHB ∷
    row (text "ldr") 0x5800 H.LdrStrRegOffset ∷
    row (text "ldrh") 0x5a00 H.LdrStrSHB ∷
    row (text "ldrb") 0x5c00 H.LdrStrRegOffset ∷
    row (text "ldsh") 0x5e00 H.LdrStrSHB ∷
    row (text "str") 0x6000 H.LdrStrImmOffset ∷
    row (text "ldr") 0x6800 H.LdrStrImmOffset ∷
    row (text "strb") 0x7000 H.LdrStrImmOffset ∷
    row (text "ldrb") 0x7800 H.LdrStrImmOffset ∷
    row (text "strh") 0x8000 H.LdrStrHalfWord ∷
    row (text "ldrh") 0x8800 H.LdrStrHalfWord ∷
    row (text "str") 0x9000 H.LdrStrSp ∷
    row (text "ldr") 0x9800 H.LdrStrSp ∷
    row (text "add") 0xa000 H.LoadAddress ∷
    row (text "add") 0xb000 H.AddSp ∷
    row [] 0xb100 H.Undefined ∷
    row (text "push") 0xb400 H.PushPop ∷
    row (text "pop") 0xbc00 H.PushPop ∷
    row (text "stm") 0xc000 H.LdmStm ∷
    row (text "ldm") 0xc800 H.LdmStm ∷
    row (text "beq") 0xd000 H.BranchConditional ∷
    row (text "bne") 0xd100 H.BranchConditional ∷
    row (text "bcs") 0xd200 H.BranchConditional ∷
    row (text "bcc") 0xd300 H.BranchConditional ∷
    row (text "bmi") 0xd400 H.BranchConditional ∷
    row (text "bpl") 0xd500 H.BranchConditional ∷
    row (text "bvs") 0xd600 H.BranchConditional ∷
    row (text "bvc") 0xd700 H.BranchConditional ∷
    row (text "bhi") 0xd800 H.BranchConditional ∷
    row (text "bls") 0xd900 H.BranchConditional ∷
    row (text "bge") 0xda00 H.BranchConditional ∷
    row (text "blt") 0xdb00 H.BranchConditional ∷
    row (text "bgt") 0xdc00 H.BranchConditional ∷
    row (text "ble") 0xdd00 H.BranchConditional ∷
    row (text "b") 0xde00 H.BranchConditional ∷
    row (text "swi") 0xdf00 H.Swi ∷
    row (text "b") 0xe000 H.Branch ∷
    row (text "bl") 0xf000 H.BranchLongWithLink ∷
    row (text "bl") 0xf800 H.BranchLongWithLink ∷
    []

-- row i
abbrev pub no_row : Row
no_row = row [] 0 H.Undefined

abbrev pub row_at : ℕ → Row
row_at i = get_or rows i no_row

-- the rows of a list that have a mnemonic, which is given as a number, as the code has them
abbrev pub rows_with : ℕ → List Row → List code.Row.Row
rows_with n [] = []
rows_with n (r ∷ rs) = cond (eqb (packed r.name) n) (record { 0 = r.bits; 1 = r.kind } ∷ rows_with n rs) (rows_with n rs)

unfoldable pub rows_of : ℕ → List code.Row.Row
rows_of n = rows_with n rows
