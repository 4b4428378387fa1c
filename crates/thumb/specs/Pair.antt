-- Call pairs, of document 02 (iii): "A Thumb call is two halfwords, top bits 11110 and then 11111." Assumes nothing.
use Rattle.std.specs.Prelude.{ℕ, ◌+◌, ◌*◌, ◌%◌, ◌^◌, Bool, ◌&&◌, ◌==◌}
use Rattle.common.specs.Bits.{bit_range}
use Rattle.arm7tdmi.specs.Signed.{extended}

-- a first half, a second half, and the two as a pair
unfoldable pub is_first_half : ℕ → Bool
is_first_half h = bit_range h 11 16 == 0b11110

unfoldable pub is_second_half : ℕ → Bool
is_second_half h = bit_range h 11 16 == 0b11111

unfoldable pub is_pair : ℕ → ℕ → Bool
is_pair first second = is_first_half first && is_second_half second

-- where a pair at p goes: "p + 4 + (first 11 bits, sign-extended) × 4096 + (second 11 bits) × 2, modulo 2^32"
unfoldable pub pair_target : ℕ → ℕ → ℕ → ℕ
pair_target p first second = (p + 4 + extended 11 4096 (bit_range first 0 11) + bit_range second 0 11 * 2) % 2 ^ 32
