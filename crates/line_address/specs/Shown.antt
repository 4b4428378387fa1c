-- Which address a sheet line shows: where a branch or a call goes, what a Thumb load from pc reads, and the comment of an ARM transfer with an offset from pc. Each
-- other hexadecimal number of a line is a field's: the comment of a data-processing immediate, an offset from another register, a lone call half. Assumes nothing.
use Rattle.std.specs.Prelude.{ℕ, ◌==◌, cond, List, ◌++◌, ◌≡◌, Option, Some, None}
use Rattle.common.specs.Bits.{bit_range}
use Rattle.lines.specs.Address.{address}
use Rattle.lines.specs.Answer.{Answer, refused, line}
use Rattle.arm7tdmi.specs.declared.Form.TheVariants.{Sheet}
use Rattle.arm7tdmi.specs.declared.alu.BarrelShifterValue.{BarrelShifterValue}
use Rattle.arm7tdmi.specs.declared.alu.BarrelShifterValue.TheVariants.{ImmediateValue}
use Rattle.arm.specs.Kinds.{arm_format}
use Rattle.arm.specs.Fields.{branch_target, ldr_str_hs_imm_offset, ldr_str_offset, pc_relative}
use Rattle.arm.specs.declared.ArmFormat.{ArmFormat}
use Rattle.arm.specs.declared.ArmFormat.TheVariants as A
use Rattle.arm_print.specs.Print.{arm_line}
use Rattle.thumb.specs.Kinds.{thumb_format}
use Rattle.thumb.specs.Fields as Thumb
use Rattle.thumb.specs.Pair.{is_pair, pair_target}
use Rattle.thumb.specs.declared.ThumbFormat.{ThumbFormat}
use Rattle.thumb.specs.declared.ThumbFormat.TheVariants as H

-- ---- the list, by kind, of a word at an address p
-- of a transfer by an offset: its comment is an address where Rn, bits 19-16, is pc
abbrev pub comment_address : ℕ → ℕ → BarrelShifterValue → Option ℕ
comment_address p raw (ImmediateValue v) = cond (bit_range raw 16 20 == 15) (Some (pc_relative p v)) None
comment_address p raw other = None

abbrev pub arm_kind_address : ArmFormat → ℕ → ℕ → Option ℕ
arm_kind_address A.BranchLink p raw = Some (branch_target p raw)
arm_kind_address A.SingleDataTransfer p raw = comment_address p raw (ldr_str_offset raw)
arm_kind_address A.HalfwordDataTransferImmediateOffset p raw = comment_address p raw (ldr_str_hs_imm_offset raw)
arm_kind_address other p raw = None

abbrev pub thumb_kind_address : ThumbFormat → ℕ → ℕ → Option ℕ
thumb_kind_address H.LdrPc p raw = Some (Thumb.pc_load_address p raw)
thumb_kind_address H.BranchConditional p raw = Some (Thumb.bcond_target p raw)
thumb_kind_address H.Branch p raw = Some (Thumb.branch_target p raw)
thumb_kind_address other p raw = None

-- ---- the address that a line shows
-- a word that is refused has no line, and shows none
abbrev pub unless_refused : Answer → Option ℕ → Option ℕ
unless_refused (refused r) n = None
unless_refused (line bs) n = n

unfoldable pub arm_address : ℕ → ℕ → Option ℕ
arm_address p raw = unless_refused (arm_line Sheet p raw) (arm_kind_address (arm_format Sheet raw) p raw)

unfoldable pub thumb_address : ℕ → ℕ → Option ℕ
thumb_address p raw = thumb_kind_address (thumb_format Sheet raw) p raw

-- of two halfwords, which have a line only as a call pair
unfoldable pub pair_address : ℕ → ℕ → ℕ → Option ℕ
pair_address p first second = cond (is_pair first second) (Some (pair_target p first second)) None

-- as two numbers: 1 and the address, or twice 0
abbrev pub address_numbers : Option ℕ → ℕ × ℕ
address_numbers (Some n) = (1, n)
address_numbers None = (0, 0)

-- ---- where it stands: the line has n as its last bytes, which are ten
abbrev pub EndsIn : Answer → ℕ → Type 0
EndsIn shown n = (before : List ℕ) × (shown ≡ line (before ++ address Sheet n))
