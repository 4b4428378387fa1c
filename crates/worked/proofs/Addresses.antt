-- The addresses are what the definitions give. Assumes nothing.
use mathlib.Core.List.{map}
use mathlib.Core.Path.{◌≡◌, refl}
use Rattle.arm7tdmi.specs.Signed.{extended}
use Rattle.arm.specs.Fields as Arm
use Rattle.arm.specs.Kinds.{arm_rows}
use Rattle.arm_print.specs.Print.{answer_of, arm_line, refusal_of}
use Rattle.common.specs.Lists.{first}
use Rattle.line_address.specs.Shown.{arm_address, pair_address, thumb_address}
use Rattle.thumb.specs.Fields as Thumb
use Rattle.thumb.specs.Kinds.{thumb_rows}
use Rattle.thumb.specs.Pair.{is_first_half, is_pair, is_second_half, pair_target}
use Rattle.worked.specs.Addresses.{given_row, table}

pub worked_addresses : map given_row table ≡ table
unfolding arm_address thumb_address pair_address arm_line answer_of refusal_of arm_rows thumb_rows first extended Arm.branch_target Arm.pc_relative Arm.signed_offset Arm.ldr_str_offset Arm.ldr_str_hs_imm_offset Thumb.word8 Thumb.pc_load_address Thumb.bcond_target Thumb.branch_target is_first_half is_second_half is_pair pair_target
worked_addresses = refl
