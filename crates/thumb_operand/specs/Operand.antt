-- The operands of Thumb lines that are more than a field, by the Rust's thumb/disass.rs, with its formats beside them. The form stands where the sheet line
-- differs: S5, S6 and S8 of document 01. Assumes nothing.
use Rattle.std.specs.Prelude.{ℕ, ◌+◌, ◌-◌, ◌*◌, ◌%◌, ◌^◌, cond, List, [], ◌∷◌, ◌++◌, map, ◌==◌}
use Rattle.common.specs.Bits.{bit, bit_range}
use Rattle.text.specs.Text.{text}
use Rattle.text.specs.Digits.{hex, prefixed}
use Rattle.arm7tdmi.specs.Names.{reg_string}
use Rattle.lines.specs.Pieces.{reg_at, either, if_set, set_bits, joined}
use Rattle.arm7tdmi.specs.declared.Form.{Form}
use Rattle.arm7tdmi.specs.declared.Form.TheVariants.{Bench, Sheet}
use Rattle.thumb.specs.declared.OpFormat5.{OpFormat5}
use Rattle.thumb.specs.declared.OpFormat5.TheVariants as Five

-- ---- high registers: of bx "{src}", of the others "{dst}, {src}"
-- bench: "Thumb high registers with bit 7 set take the destination from bits 3-0". S5: "Thumb destination with bit 7 set is bits 2-0 plus 8"
unfoldable pub high_dst : Form → ℕ → ℕ
high_dst Bench raw = bit_range raw 0 4
high_dst Sheet raw = bit_range raw 0 3 + 8

unfoldable pub dst_reg : Form → ℕ → ℕ
dst_reg form raw = cond (bit raw 7) (high_dst form raw) (bit_range raw 0 3)

unfoldable pub src_reg : ℕ → ℕ
src_reg raw = cond (bit raw 6) (bit_range raw 3 6 + 8) (bit_range raw 3 6)

unfoldable pub dst_and_src : Form → ℕ → List ℕ
dst_and_src form raw = reg_string (dst_reg form raw) ++ text ", " ++ reg_string (src_reg raw)

unfoldable pub high_operands : Form → ℕ → OpFormat5 → List ℕ
high_operands form raw Five.ADD = dst_and_src form raw
high_operands form raw Five.CMP = dst_and_src form raw
high_operands form raw Five.MOV = dst_and_src form raw
high_operands form raw Five.BX = reg_string (src_reg raw)

-- ---- the offset of a transfer: bytes (bit 12) are counted by one, words by four
unfoldable pub imm_offset : ℕ → ℕ
imm_offset raw = cond (bit raw 12) (bit_range raw 6 11) (bit_range raw 6 11 * 4)

-- ---- the last operand of add and sub: a register, or an immediate, "#{:x}"
unfoldable pub add_sub_operand : ℕ → List ℕ
add_sub_operand raw = cond (bit raw 10) (text "#" ++ hex 1 (bit_range raw 6 9)) (reg_at raw 6 9)

-- ---- what is added to sp, "{imm:x}": four times bits 6-0, with bit 7 as the sign
-- bench: "Thumb `add sp` prints bare hexadecimal, two's complement if negative".
-- S8: "Thumb `add sp` prints `#0x..`, with bit 7 set `#-0x..`, zero included"
unfoldable pub sp_size : ℕ → ℕ
sp_size raw = bit_range raw 0 7 * 4

unfoldable pub sp_bits : ℕ → ℕ
sp_bits raw = cond (bit raw 7) ((2 ^ 32 - sp_size raw) % 2 ^ 32) (sp_size raw)

unfoldable pub sheet_sp_offset : ℕ → List ℕ
sheet_sp_offset raw = if_set raw 7 (text "-") ++ prefixed 1 (sp_size raw)

unfoldable pub sp_offset : Form → ℕ → List ℕ
sp_offset Bench raw = hex 1 (sp_bits raw)
sp_offset Sheet raw = sheet_sp_offset raw

-- ---- the list of push and pop: the registers and, with bit 8 set, pc of pop and lr of push as one more
unfoldable pub link_name : ℕ → List ℕ
link_name raw = either raw 11 (text "pc") (text "lr")

unfoldable pub push_pop_list : ℕ → List ℕ
push_pop_list raw = joined (map reg_string (set_bits raw 8) ++ cond (bit raw 8) (link_name raw ∷ []) [])

-- what that one more adds to the text of the registers: nothing, its name, or its name behind a comma
unfoldable pub link_text : ℕ → List ℕ
link_text raw = cond (bit raw 8) (cond (bit_range raw 0 8 == 0) (link_name raw) (text ", " ++ link_name raw)) []

-- ---- the base of ldm and stm
-- bench: "Thumb ldm/stm print bits 5-3 as base". S6: "Thumb ldm/stm base is bits 10-8"
unfoldable pub base_text : Form → ℕ → List ℕ
base_text Bench raw = reg_at raw 3 6
base_text Sheet raw = reg_at raw 8 11
