-- An address goes on with its place. Assumes nothing.
use Rattle.std.proofs.Common.{◌≡◌, ℕ, ◌%◌, arith}
use Rattle.arm7tdmi.specs.Signed.{moved}
use Rattle.thumb.specs.Fields.{pc_load_address}
use Rattle.thumb.specs.Pair.{pair_target}

module _ (p d : ℕ) where
  -- a branch's target, or what an offset from pc points at: so far behind the place, and so far from there
  pub raised_behind : (ahead offset : ℕ) → moved (moved (moved p d) ahead) offset ≡ moved (moved (moved p ahead) offset) d
  raised_behind ahead offset = omega arith

  -- what a Thumb load from pc reads only by a multiple of 4, since bit 1 is cleared
  pub load_raised : (raw : ℕ) → d % 4 ≡ 0 → pc_load_address (moved p d) raw ≡ moved (pc_load_address p raw) d
  unfolding pc_load_address
  load_raised raw h = omega arith

  pub pair_raised : (first second : ℕ) → pair_target (moved p d) first second ≡ moved (pair_target p first second) d
  unfolding pair_target
  pair_raised first second = omega arith
