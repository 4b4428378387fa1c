-- The candidates for a line: for each kind that prints its mnemonic one word, from the line's words and marks; some number on anything else. The reader's plan; nothing of the promise rests on it. Assumes nothing.
use Rattle.std.specs.Prelude.{◌%◌, ◌*◌, ◌+◌, ◌-◌, ◌/◌, ◌^◌, ℕ, eqb, ltb, Bool, ◌&&◌, cond, false, true, List, [], ◌∷◌}
use Rattle.arm7tdmi.specs.Signed.{moved}
use Rattle.arm7tdmi.specs.declared.Form.{Form}
use Rattle.arm7tdmi.specs.declared.Form.TheVariants.{Bench, Sheet}
use Rattle.thumb.specs.declared.ThumbFormat.{ThumbFormat}
use Rattle.thumb.specs.declared.ThumbFormat.TheVariants as H
use Rattle.common.specs.Bits.{bit}
use Rattle.common.specs.Lists.{same}
use Rattle.text.specs.Word.{from_word, has, word}
use Rattle.reading.specs.Parts.{amount_field, bare_in, dec_in, flag, hex_in, list_in, reg_in}
use Rattle.thumb_mnemonic.specs.Rows.{Row, rows}

-- ---- the operands of each kind, as the bits that they fill in
-- Rd and Rs, or Rd and Rb, in bits 5-0: words 1 and 2
unfoldable pub low_in : List ℕ → ℕ
low_in l = reg_in 2 l * 2 ^ 3 + reg_in 1 l

-- Rd in bits 10-8 and a quarter of the number in bits 7-0: words 1 and 3
unfoldable pub wide_in : List ℕ → ℕ
wide_in l = reg_in 1 l * 2 ^ 8 + hex_in 3 l / 4 % 2 ^ 8

-- LSL, LSR, ASR: of capitals `A` and `R` stand nowhere else
unfoldable pub shift_in : List ℕ → ℕ
shift_in l = cond (has 65 l) 2 (flag (has 82 l))

-- the last operand of add and sub: with `#` a number, bit 10
unfoldable pub third_in : List ℕ → ℕ
third_in l = cond (has 35 l) (2 ^ 10 + bare_in 3 l % 2 ^ 3 * 2 ^ 6) (reg_in 3 l * 2 ^ 6)

-- high registers: bit 3 of the destination is bit 7, in both forms; bx has a source alone
unfoldable pub high_in : ℕ → List ℕ → ℕ
high_in b l = cond (eqb b 0x4700) (reg_in 1 l * 2 ^ 3) (reg_in 1 l / 2 ^ 3 * 2 ^ 7 + reg_in 2 l * 2 ^ 3 + reg_in 1 l % 2 ^ 3)

-- bytes (bit 12) are counted by one, words by four; the halves of a call (bit 11) by two and by 4096
abbrev pub transfer_unit : ℕ → ℕ
transfer_unit b = cond (bit b 12) 1 4

abbrev pub call_unit : ℕ → ℕ
call_unit b = cond (bit b 11) 2 4096

-- add of sp: on the bench a large number is one subtracted, on the sheet `-` says it
abbrev pub signed : Bool → ℕ → ℕ
signed minus n = flag minus * 2 ^ 7 + n / 4 % 2 ^ 7

unfoldable pub sp_in : Form → List ℕ → ℕ
sp_in Bench l = cond (ltb (bare_in 2 l) (2 ^ 31)) (signed false (bare_in 2 l)) (signed true (2 ^ 32 - bare_in 2 l))
sp_in Sheet l = signed (has 45 l) (hex_in 2 l)

-- a list of eight registers and lr or pc, which is bit 8
unfoldable pub stack_in : List ℕ → ℕ
stack_in l = list_in 9 (from_word 1 l) % 2 ^ 8 + flag (ltb (2 ^ 8) (list_in 9 (from_word 1 l))) * 2 ^ 8

-- the base and the registers; on the bench the base is one of the registers, and bits 10-8 are not shown
unfoldable pub block_in : Form → List ℕ → ℕ
block_in Bench l = list_in 8 (from_word 2 l)
block_in Sheet l = reg_in 1 l * 2 ^ 8 + list_in 8 (from_word 2 l)

-- how far a target is from the address plus 4, halved
unfoldable pub offset_in : ℕ → List ℕ → ℕ
offset_in pc l = moved (hex_in 1 l) (2 ^ 32 - moved pc 4) / 2

-- what the operands of a line fill in, of a kind and a word b that has its mnemonic and no operands
unfoldable pub operands : ThumbFormat → ℕ → Form → ℕ → List ℕ → ℕ
operands H.MoveShiftedReg b form pc l = shift_in l * 2 ^ 11 + amount_field (dec_in 3 l) * 2 ^ 6 + low_in l
operands H.AddSub b form pc l = third_in l + low_in l
operands H.DataProcessImm b form pc l = reg_in 1 l * 2 ^ 8 + hex_in 2 l % 2 ^ 8
operands H.AluOps b form pc l = low_in l
operands H.HiRegOpOrBranchExchange b form pc l = high_in b l
operands H.LdrPc b form pc l = wide_in l
operands H.LdrStrRegOffset b form pc l = reg_in 3 l * 2 ^ 6 + low_in l
operands H.LdrStrSHB b form pc l = reg_in 3 l * 2 ^ 6 + low_in l
operands H.LdrStrImmOffset b form pc l = hex_in 3 l / transfer_unit b % 2 ^ 5 * 2 ^ 6 + low_in l
operands H.LdrStrHalfWord b form pc l = hex_in 3 l / 2 % 2 ^ 5 * 2 ^ 6 + low_in l
operands H.LdrStrSp b form pc l = wide_in l
operands H.LoadAddress b form pc l = flag (eqb (reg_in 2 l) 13) * 2 ^ 11 + wide_in l
operands H.AddSp b form pc l = sp_in form l
operands H.PushPop b form pc l = stack_in l
operands H.LdmStm b form pc l = block_in form l
operands H.BranchConditional b form pc l = offset_in pc l % 2 ^ 8
operands H.Swi b form pc l = hex_in 1 l % 2 ^ 8
operands H.Branch b form pc l = offset_in pc l % 2 ^ 11
operands H.BranchLongWithLink b form pc l = hex_in 1 l / call_unit b % 2 ^ 11
operands H.Undefined b form pc l = 0

-- ---- the lines that a kind may have printed, of those with its mnemonic: by the registers that words 2 and 3 name
unfoldable pub suits : ThumbFormat → List ℕ → Bool
suits H.MoveShiftedReg l = true
suits H.AddSub l = ltb (reg_in 2 l) 8
suits H.DataProcessImm l = eqb (reg_in 2 l) 16
suits H.AluOps l = true
suits H.HiRegOpOrBranchExchange l = true
suits H.LdrPc l = eqb (reg_in 2 l) 15
suits H.LdrStrRegOffset l = ltb (reg_in 3 l) 8
suits H.LdrStrSHB l = ltb (reg_in 3 l) 8
suits H.LdrStrImmOffset l = ltb (reg_in 2 l) 8
suits H.LdrStrHalfWord l = ltb (reg_in 2 l) 8
suits H.LdrStrSp l = eqb (reg_in 2 l) 13
suits H.LoadAddress l = ltb 12 (reg_in 2 l)
suits H.AddSp l = true
suits H.PushPop l = true
suits H.LdmStm l = true
suits H.BranchConditional l = true
suits H.Swi l = true
suits H.Branch l = true
suits H.BranchLongWithLink l = true
suits H.Undefined l = true

-- ---- the candidate of a kind and a word with a mnemonic and no operands; and those of the rows whose mnemonic is the line's first word, and whose kind suits
unfoldable pub candidate : Form → ℕ → List ℕ → ThumbFormat → ℕ → ℕ
candidate form pc l k b = (b + operands k b form pc l) % 2 ^ 16

abbrev pub candidates_from : Form → ℕ → List ℕ → List Row → List ℕ
candidates_from form pc l [] = []
candidates_from form pc l (r ∷ rs) =
    cond (same r.name (word l) && suits r.kind l)
    (candidate form pc l r.kind r.bits ∷ candidates_from form pc l rs)
    (candidates_from form pc l rs)

unfoldable pub candidates : Form → ℕ → List ℕ → List ℕ
candidates form pc l = candidates_from form pc l rows
