-- `thumb::pair_target` meets its contract. Assumes nothing.
use Rattle.std.proofs.Common.{◌≡◌, ℕ, ◌+◌, ◌*◌, ◌%◌, ◌^◌, ◌∙◌, ap, arith}
use Rattle.arm7tdmi.proofs.Integers.{handed_bits}
use Rattle.arm7tdmi.specs.Signed.{extended, moved}
use Rattle.common.specs.Bits.{bit_range}
use Rattle.thumb.specs.Fields.{call_offset}
use Rattle.thumb.specs.Pair.{pair_target}
use Rattle.thumb.proofs.pair_target.Goals as goal

-- three sums, each modulo 2 ^ 32, are one
summed : (p a b : ℕ) → moved (moved (moved p 4) a) b ≡ (p + 4 + a + b) % 2 ^ 32
summed p a b = omega arith

pub returns : goal.returns
unfolding pair_target call_offset
returns c =
    let a = c.args in
    let x = bit_range a.first 0 11 in
    let by = handed_bits 11 4096 x (omega arith) (omega arith) (omega arith) c.call_offset.ensures in
    let high : c.move_by-high.result ≡ moved (moved a.pc 4) (extended 11 4096 x) = c.move_by-high.ensures ∙ ap (moved (moved a.pc 4)) by in
    rw (← summed a.pc (extended 11 4096 x) (bit_range a.second 0 11 * 2), ← high, ← c.offset11.ensures)
