-- The position before each name of a list. Assumes nothing.
use Prim.Native.Nat.{ℕ}
use mathlib.Core.List.{List, [], ◌∷◌}
use mathlib.Core.Path.{◌≡◌}
use Rattle.common.specs.Bits.{bit_range}
use Rattle.text.specs.Text.{text}
use Rattle.text.specs.Wrote.{Behind, Wrote}
use Rattle.text.proofs.Wrote.{◌⨾◌, behind, cut, same_as, wrote}
use Rattle.lines.specs.Pieces.{joined, registers}
use Rattle.lines.specs.Position.{BeforeEach, BeforeName, names, so_far}
use Rattle.lines.proofs.Registers.{joined_so_far, so_far_first, so_far_next}

-- "before each name it stands directly behind the last byte written", in a list of any names, written at any place of any buffer
pub before_each : {l : List ℕ} {at : ℕ} {xs : List (List ℕ)} {l' : List ℕ} {r : ℕ} → Wrote l at (joined xs) l' r → BeforeEach l at xs l' r
before_each w ts t us e =
    let s = cut (so_far ts) (joined (t ∷ us)) (same_as w (rw e (joined_so_far ts t us))) in
    record { held = s.0.held; position = s.0.next; behind = behind s.1; onward = s.2 }

-- so it does before one more name behind the registers below i: where there is none of them, and where there are some and a separator is written
module _ {l : List ℕ} {at : ℕ} {l₁ : List ℕ} {r₁ : ℕ} (raw i : ℕ) (b : Behind l at (registers raw i) l₁ r₁) where
  pub first_name : bit_range raw 0 i ≡ 0 → {t l₂ : List ℕ} {r₂ : ℕ} → Wrote l₁ r₁ t l₂ r₂ → BeforeName l at (names raw i) t [] l₂ r₂
  first_name e w = record { held = l₁; position = r₁; behind = rw (so_far_first raw i e) at b; onward = w }

  pub next_name : (bit_range raw 0 i ≡ 0 → ⊥) → {l₂ : List ℕ} {r₂ : ℕ} → Wrote l₁ r₁ (text ", ") l₂ r₂ → {t l₃ : List ℕ} {r₃ : ℕ} → Wrote l₂ r₂ t l₃ r₃ → BeforeName l at (names raw i) t [] l₃ r₃
  next_name e {l₂} {r₂} s w = record { held = l₂; position = r₂; behind = behind (same_as (wrote b ⨾ s) (so_far_next raw i e)); onward = w }
