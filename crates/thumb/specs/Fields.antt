-- Thumb words: fields. Flags are bits, and need no definition. Assumes nothing.
use Rattle.std.specs.Prelude.{ℕ, ◌-◌, ◌*◌, ◌/◌, ◌%◌, cond, List, [], ◌∷◌, ℤ, pos, neg_ℤ, slice_index_or}
use Rattle.common.specs.Bits.{bit, bit_range}
use Rattle.arm7tdmi.specs.Signed.{signed_times, extended, moved}
use Rattle.thumb.specs.declared.OpFormat3.{OpFormat3}
use Rattle.thumb.specs.declared.OpFormat3.TheVariants as Three
use Rattle.thumb.specs.declared.OpFormat5.{OpFormat5}
use Rattle.thumb.specs.declared.OpFormat5.TheVariants as Five
use Rattle.thumb.specs.declared.ThumbAluOps.{ThumbAluOps}
use Rattle.thumb.specs.declared.ThumbAluOps.TheVariants as Op

-- the operations of formats 3, 5 and 4, in the order of their numbers
abbrev pub op_formats3 : List OpFormat3
op_formats3 = Three.MOV ∷ Three.CMP ∷ Three.ADD ∷ Three.SUB ∷ []

unfoldable pub op_format3 : ℕ → OpFormat3
op_format3 n = slice_index_or op_formats3 (n % 4) Three.SUB

abbrev pub op_formats5 : List OpFormat5
op_formats5 = Five.ADD ∷ Five.CMP ∷ Five.MOV ∷ Five.BX ∷ []

unfoldable pub op_format5 : ℕ → OpFormat5
op_format5 n = slice_index_or op_formats5 (n % 4) Five.BX

abbrev pub thumb_alu_ops : List ThumbAluOps
thumb_alu_ops = Op.AND ∷ Op.EOR ∷ Op.LSL ∷ Op.LSR ∷ Op.ASR ∷ Op.ADC ∷ Op.SBC ∷ Op.ROR ∷ Op.TST ∷ Op.NEG ∷ Op.CMP ∷ Op.CMN ∷ Op.ORR ∷ Op.MUL ∷ Op.BIC ∷ Op.MVN ∷ []

unfoldable pub thumb_alu_op : ℕ → ThumbAluOps
thumb_alu_op n = slice_index_or thumb_alu_ops (n % 16) Op.MVN

abbrev pub thumb_alu_number : ThumbAluOps → ℕ
thumb_alu_number Op.AND = 0
thumb_alu_number Op.EOR = 1
thumb_alu_number Op.LSL = 2
thumb_alu_number Op.LSR = 3
thumb_alu_number Op.ASR = 4
thumb_alu_number Op.ADC = 5
thumb_alu_number Op.SBC = 6
thumb_alu_number Op.ROR = 7
thumb_alu_number Op.TST = 8
thumb_alu_number Op.NEG = 9
thumb_alu_number Op.CMP = 10
thumb_alu_number Op.CMN = 11
thumb_alu_number Op.ORR = 12
thumb_alu_number Op.MUL = 13
thumb_alu_number Op.BIC = 14
thumb_alu_number Op.MVN = 15

-- the sign-extended fields of branches: of 8 and of 11 bits, times two; of a first call half, times 4096
unfoldable pub bcond_offset : ℕ → ℤ
bcond_offset raw = signed_times 8 2 (bit_range raw 0 8)

unfoldable pub branch_offset11 : ℕ → ℤ
branch_offset11 raw = signed_times 11 2 (bit_range raw 0 11)

unfoldable pub call_offset : ℕ → ℤ
call_offset raw = signed_times 11 4096 (bit_range raw 0 11)

-- four times the lowest eight bits; and the lowest seven with bit 7 as the sign
unfoldable pub word8 : ℕ → ℕ
word8 raw = bit_range raw 0 8 * 4

unfoldable pub sword7 : ℕ → ℤ
sword7 raw = cond (bit raw 7) (neg_ℤ (pos (bit_range raw 0 7 * 4))) (pos (bit_range raw 0 7 * 4))

-- where branches go: the address plus 4 plus the sign-extended field times two, modulo 2 ^ 32
unfoldable pub bcond_target : ℕ → ℕ → ℕ
bcond_target pc raw = moved (moved pc 4) (extended 8 2 (bit_range raw 0 8))

unfoldable pub branch_target : ℕ → ℕ → ℕ
branch_target pc raw = moved (moved pc 4) (extended 11 2 (bit_range raw 0 11))

-- what a load from pc reads: "((address + 4) with bit 1 cleared) + 4 × bits 7-0"
abbrev bit1_cleared : ℕ → ℕ
bit1_cleared n = n - n / 2 % 2 * 2

unfoldable pub pc_load_address : ℕ → ℕ → ℕ
pc_load_address pc raw = moved (bit1_cleared (moved pc 4)) (word8 raw)

-- the number of a lone call half: a second half, twice its field; a first half, its sign-extended field times 4096, as 32 bits
unfoldable pub call_half : ℕ → ℕ
call_half raw = cond (bit raw 11) (bit_range raw 0 11 * 2) (moved 0 (extended 11 4096 (bit_range raw 0 11)))
