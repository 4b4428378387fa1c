-- Which addresses sheet lines show. Assumes nothing.
use Rattle.std.specs.Prelude.{List, [], ◌∷◌, ℕ, Option, Some, None}
use Rattle.line_address.specs.Shown.{arm_address, pair_address, thumb_address}

-- an ARM word, a Thumb halfword, or two halfwords, and where it stands
pub data Input : Type 0 where
  arm : ℕ → ℕ → Input
  thumb : ℕ → ℕ → Input
  pair : ℕ → ℕ → ℕ → Input

pub record Row : Type 0 where
  pub input : Input
  pub address : Option ℕ

abbrev pub gives : Input → Option ℕ
gives (arm word p) = arm_address p word
gives (thumb half p) = thumb_address p half
gives (pair first second p) = pair_address p first second

abbrev pub given_row : Row → Row
given_row r = record { input = r.input; address = gives r.input }

abbrev shows : Input → ℕ → Row
shows i n = record { input = i; address = Some n }

abbrev shows_none : Input → Row
shows_none i = record { input = i; address = None }

abbrev pub table : List Row
table =
    -- b and bl, with a condition and without, forward, back, and across the end of the addresses
    shows (arm 0xEAFFFFFE 0x100) 0x100
    ∷ shows (arm 0xEB000000 0) 8
    ∷ shows (arm 0x0A7FFFFF 0) 0x2000004
    ∷ shows (arm 0xEA800000 0) 0xFE000008
    ∷ shows (arm 0xEA000000 0xFFFFFFF8) 0
    -- ldr and str by an offset from pc, added, subtracted, and behind the brackets; ldrh and ldrsb
    ∷ shows (arm 0xE59F0004 0x100) 0x10C
    ∷ shows (arm 0xE50F0004 0x100) 0x104
    ∷ shows (arm 0xE49F0004 0x100) 0x10C
    ∷ shows (arm 0xE51F0010 0) 0xFFFFFFF8
    ∷ shows (arm 0xE1DF00B4 0x100) 0x10C
    ∷ shows (arm 0xE15F01D4 0x100) 0xF4
    -- from another base, and by a register
    ∷ shows_none (arm 0xE59E0004 0x100)
    ∷ shows_none (arm 0xE1DE00B4 0x100)
    ∷ shows_none (arm 0xE79F0002 0x100)
    ∷ shows_none (arm 0xE19F00B2 0x100)
    -- mov of a number, add to pc, swi, and no instruction
    ∷ shows_none (arm 0xE3A00C01 0x100)
    ∷ shows_none (arm 0xE28F0004 0x100)
    ∷ shows_none (arm 0xEF000010 0x100)
    ∷ shows_none (arm 0xE6000010 0x100)
    -- refused with 1 and with 2
    ∷ shows_none (arm 0xFAFFFFFE 0x100)
    ∷ shows_none (arm 0xF59F0004 0x100)
    ∷ shows_none (arm 0xE1DF0094 0x100)
    -- ldr from pc, which clears bit 1 of where it stands
    ∷ shows (thumb 0x4801 0x100) 0x108
    ∷ shows (thumb 0x4801 0x102) 0x108
    ∷ shows (thumb 0x4800 0xFFFFFFFE) 0
    -- b, with a condition and without
    ∷ shows (thumb 0xD0FE 0x100) 0x100
    ∷ shows (thumb 0xDD80 0) 0xFFFFFF04
    ∷ shows (thumb 0xE7FE 0x100) 0x100
    ∷ shows (thumb 0xE3FF 0xFFFFFFFE) 0x800
    -- no instruction, swi, the halves of a call by themselves, and add to pc
    ∷ shows_none (thumb 0xDE00 0x100)
    ∷ shows_none (thumb 0xDF10 0x100)
    ∷ shows_none (thumb 0xF000 0x100)
    ∷ shows_none (thumb 0xF800 0x100)
    ∷ shows_none (thumb 0xA001 0x100)
    -- a call, to itself, far back, and across the end of the addresses; and two halves that are none
    ∷ shows (pair 0xF7FF 0xFFFE 0x100) 0x100
    ∷ shows (pair 0xF400 0xF800 0) 0xFFC00004
    ∷ shows (pair 0xF000 0xF800 0xFFFFFFFE) 2
    ∷ shows_none (pair 0xF800 0xF000 0x100)
    ∷ shows_none (pair 0xF000 0xF000 0x100)
    ∷ []
