-- What a mask and a value say of a word's digits of four bits, as equations of numbers, for words of any width. Assumes nothing.
use mathlib.Core.Bool.{Bool, true, false, cond, ◌&&◌}
use mathlib.Core.Path.{◌≡◌}
use mathlib.Core.Logic.{◌⊎◌}
use mathlib.Core.List.{List, [], ◌∷◌}
use Prim.Native.Nat.{ℕ, zero, suc, ◌+◌, ◌*◌, ◌/◌, ◌%◌}
use lib.Bits.{bit_and}
use lib.Dec.{eqb, ltb, T}

abbrev pub either : Bool → Type 0 → Type 0 → Type 0
either true A B = A
either false A B = B

-- the number of a list of digits of four bits, lowest first
abbrev pub num : List ℕ → ℕ
num [] = 0
num (d ∷ ds) = num ds * 16 + d

-- two numbers, which are to be equal where the first part holds
pub record Claim : Type 0 where
  pub if : Bool
  pub x : ℕ
  pub y : ℕ

-- all claims, as facts and as a test
abbrev pub All : List Claim → Type 0
All [] = Unit {0}
All (c ∷ cs) = either c.if ((c.x ≡ c.y) × All cs) (All cs)

abbrev pub all : List Claim → Bool
all [] = true
all (c ∷ cs) = cond c.if (((eqb c.x c.y) && (all cs))) (all cs)

abbrev claim : Bool → ℕ → ℕ → Claim
claim b x y = record { if = b; x = x; y = y }

-- what a mask's digit m and a value's v say of a word's digit d: all of it, its upper three bits, or what the halves of m say
abbrev pub claims : ℕ → ℕ → ℕ → List Claim
claims m v d =
    claim (eqb m 15) d v ∷
    claim (eqb m 14) (d / 2) (v / 2) ∷
    claim (((ltb m 14) && (eqb (m / 4) 3))) (d / 4) (v / 4) ∷
    claim (eqb (m / 4) 2) (d / 8) (v / 8) ∷
    claim (eqb (m / 4) 1) (d / 4 % 2) (v / 4 % 2) ∷
    claim (((ltb m 14) && (eqb (m % 4) 3))) (d % 4) (v % 4) ∷
    claim (((ltb m 14) && (eqb (m % 4) 2))) (d / 2 % 2) (v / 2 % 2) ∷
    claim (((ltb m 14) && (eqb (m % 4) 1))) (d % 2) (v % 2) ∷
    []

abbrev pub Met₁ : ℕ → ℕ → ℕ → Type 0
Met₁ m v d = All (claims m v d)

abbrev pub met? : ℕ → ℕ → ℕ → Bool
met? m v d = all (claims m v d)

-- what a mask and a value say of a word's digits, from the highest
abbrev pub Met : List ℕ → ℕ → ℕ → Type 0
Met [] m v = Unit {0}
Met (d ∷ ds) m v = Met ds (m / 16) (v / 16) × Met₁ (m % 16) (v % 16) d

-- the value is within the mask
abbrev pub within : List ℕ → ℕ → ℕ → Bool
within [] m v = eqb 0 v
within (d ∷ ds) m v = ((within ds (m / 16) (v / 16)) && (eqb (bit_and (m % 16) (v % 16)) (v % 16)))

module _ {R K : Type 0} (mask value : R → ℕ) (kind : R → K) (other : K) where
  module _ (code : K → ℕ) where
    -- what the digits of a word say whose kind is of number c: one of the rows of that kind is met, or else Z
    abbrev pub SaysOr : (ℕ → Type 0) → ℕ → List R → List ℕ → Type 0
    SaysOr Z c [] ds = Z c
    SaysOr Z c (r ∷ rs) ds = either (eqb (code (kind r)) c) (Met ds (mask r) (value r) ⊎ SaysOr Z c rs ds) (SaysOr Z c rs ds)

    -- Z is that the kind is that of a word that meets no row
    abbrev pub Says : ℕ → List R → List ℕ → Type 0
    Says c rs ds = SaysOr (λ i. T (eqb (code other) i)) c rs ds

module _ {R : Type 0} (mask value : R → ℕ) where
  -- none of the first n rows is met
  abbrev pub Misses : ℕ → List R → List ℕ → Type 0
  Misses zero rs ds = Unit {0}
  Misses (suc n) [] ds = Unit {0}
  Misses (suc n) (r ∷ rs) ds = (Met ds (mask r) (value r) → ⊥) × Misses n rs ds
