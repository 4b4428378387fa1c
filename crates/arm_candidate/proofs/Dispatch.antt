-- What a first word says. Assumes nothing.
use Prim.Native.Nat.{◌-◌, ℕ}
use borrow.Author.Tests.{le-ltb, lt-ltb}
use lib.ListN.{drop, length, take}
use mathlib.Core.Bool.{false, true}
use mathlib.Core.List.{List}
use mathlib.Core.Path.{◌≡◌}
use Rattle.arm7tdmi.specs.Names.{cond_named}
use Rattle.arm_mnemonic.specs.Heads.{head, head_of, stem_at, stem_names, stem_of, cond_of}
use Rattle.arm_mnemonic.proofs.Stems.{is_stem_lem, no_stem, place_le}
use Rattle.arm_mnemonic.specs.Stems.{head_at, is_mnemonic}
use Rattle.common.specs.Lists.{place}

module _ (t : List ℕ) where
  -- it is a stem
  pub by_whole : is_mnemonic (head_at (place stem_names t)) ≡ true → head_of t ≡ head (stem_at (place stem_names t)).family (stem_at (place stem_names t)).bits 14
  unfolding head_of stem_of cond_of
  by_whole h = rw (lt-ltb (place stem_names t) 70 (is_stem_lem (place stem_names t) (place_le t) h))

  -- it is none: a condition stands behind the first n letters
  pub by_parts : is_mnemonic (head_at (place stem_names t)) ≡ false → (n : ℕ) → n ≡ length t - 2 →
      head_of t ≡ head (stem_at (place stem_names (take n t))).family (stem_at (place stem_names (take n t))).bits (cond_named (drop n t))
  unfolding head_of stem_of cond_of
  by_parts h n d = rw (d, le-ltb (place stem_names t) 70 (no_stem (place stem_names t) (place_le t) h))
