-- The kind of a word: that of the first row of a list of mask, value and kind that it meets. Assumes nothing.
use Rattle.std.specs.Prelude.{ℕ, cond, List, [], ◌∷◌, ◌==◌, bit_and}
use Rattle.arm7tdmi.specs.declared.kinds.Row.{Row}

-- for words of any width, rows of any type and kinds of any type
module _ {R K : Type 0} (mask value : R → ℕ) (kind : R → K) (other : K) where
  -- the kind of the first row that a word meets: the word's bits under the mask are the value
  abbrev pub first_match : List R → ℕ → K
  first_match [] w = other
  first_match (r ∷ rs) w = cond (bit_and w (mask r) == value r) (kind r) (first_match rs w)

-- for rows of the code's type
module _ {K : Type 0} where
  abbrev pub row : ℕ → ℕ → K → Row K
  row m v k = record { mask = m; value = v; kind = k }

  abbrev pub first_row : K → List (Row K) → ℕ → K
  first_row = first_match (λ (r : Row K). r.mask) (λ (r : Row K). r.value) (λ (r : Row K). r.kind)
