-- The steps that addresses lie in, of worked images. Assumes nothing.
use Rattle.std.specs.Prelude.{ℕ, ◌-◌, List, [], ◌∷◌, ◌++◌, length, replicate}
use Rattle.step_offsets.specs.Offsets.{no_offset, offsets_numbers, step_offsets}
use Rattle.worked_listing.specs.Listings.{half, stretch, word}

-- an image with the list of its stretches and its base, and some addresses; the number that is answered, and the 64 values
pub record Row : Type 0 where
  pub image : List ℕ
  pub list : List ℕ
  pub base : ℕ
  pub addresses : List ℕ
  pub answer : ℕ × List ℕ

-- the row of what the definitions give
abbrev pub given_row : Row → Row
given_row r =
    record {
      image = r.image;
      list = r.list;
      base = r.base;
      addresses = r.addresses;
      answer = offsets_numbers (step_offsets r.image r.list r.base r.addresses);
    }

-- addresses that are answered, with their offsets, and such that are refused
abbrev finds : List ℕ → List ℕ → ℕ → List ℕ → List ℕ → Row
finds image list base addresses values = record { image = image; list = list; base = base; addresses = addresses; answer = (0, values ++ replicate (64 - length values) no_offset) }

abbrev refuses : ℕ → List ℕ → List ℕ → ℕ → List ℕ → Row
refuses number image list base addresses = record { image = image; list = list; base = base; addresses = addresses; answer = (number, replicate 64 no_offset) }

-- two words; a call pair between two halfwords
abbrev two : List ℕ
two = word 0xEAFFFFFE ++ word 0xEAFFFFFE

abbrev call : List ℕ
call = half 0x4770 ++ half 0xF000 ++ half 0xF800 ++ half 0x4770

abbrev pub table : List Row
table =
    finds [] [] 0 [] []
    ∷ finds [] [] 0 (0 ∷ []) (no_offset ∷ [])
    -- in the middle of a word, at its last byte, at the image's end, and before its base
    ∷ finds two [] 0x100 (0x100 ∷ 0x102 ∷ 0x103 ∷ 0x104 ∷ 0x107 ∷ 0x108 ∷ 0xFC ∷ []) (0 ∷ 0 ∷ 0 ∷ 4 ∷ 4 ∷ no_offset ∷ no_offset ∷ [])
    ∷ finds two [] 0x100 (0x107 ∷ []) (4 ∷ [])
    -- equal addresses
    ∷ finds two [] 0x100 (0x104 ∷ 0x104 ∷ 0x104 ∷ []) (4 ∷ 4 ∷ 4 ∷ [])
    -- halfwords, a call pair from its first byte to its last, and one that the border of two stretches cuts
    ∷ finds call (stretch 0 8) 0 (0 ∷ 1 ∷ 2 ∷ 3 ∷ 4 ∷ 5 ∷ 6 ∷ 7 ∷ 8 ∷ []) (0 ∷ 0 ∷ 2 ∷ 2 ∷ 2 ∷ 2 ∷ 6 ∷ 6 ∷ no_offset ∷ [])
    ∷ finds call (stretch 0 4 ++ stretch 4 4) 0 (2 ∷ 3 ∷ 4 ∷ 5 ∷ []) (2 ∷ 2 ∷ 4 ∷ 4 ∷ [])
    ∷ finds call [] 0 (2 ∷ 4 ∷ 6 ∷ []) (0 ∷ 4 ∷ 4 ∷ [])
    -- a word that is refused in the listing is a step, too
    ∷ finds (word 0xF12FFF10 ++ word 0xE1000000) [] 0 (3 ∷ 6 ∷ []) (0 ∷ 4 ∷ [])
    -- addresses that fall while their places ascend, and the other way round
    ∷ finds (two ++ two ++ two) [] 0xFFFFFFF0 (0xFFFFFFF4 ∷ 0xFFFFFFFF ∷ 0 ∷ 4 ∷ []) (4 ∷ 12 ∷ 16 ∷ 20 ∷ [])
    ∷ refuses 11 (two ++ two ++ two) [] 0xFFFFFFF0 (4 ∷ 0xFFFFFFF4 ∷ [])
    ∷ refuses 11 two [] 0x100 (0x104 ∷ 0x103 ∷ [])
    -- places that fall outside the image
    ∷ refuses 11 two [] 0 (9 ∷ 8 ∷ [])
    ∷ refuses 11 [] [] 0 (0 ∷ 2 ∷ 1 ∷ [])
    -- 64 addresses, and 65, which come before 11
    ∷ finds [] [] 0 (replicate 64 7) []
    ∷ refuses 10 [] [] 0 (replicate 65 7)
    ∷ refuses 10 [] [] 0 (1 ∷ replicate 64 0)
    -- 6 and 7 come before both
    ∷ refuses 6 (half 0x4770) (word 0) 0 (1 ∷ replicate 64 0)
    ∷ refuses 7 two (stretch 4 8) 0 (1 ∷ replicate 64 0)
    ∷ refuses 7 two (word 0) 0 (1 ∷ 0 ∷ [])
    ∷ []
