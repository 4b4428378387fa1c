-- The position of each name of a list. Document 02 (iv): "the place of the next name becomes a running position carried along, and no sum over the earlier
-- names. Prove that before each name it stands directly behind the last byte written." Assumes nothing.
use Rattle.std.specs.Prelude.{◌≡◌, List, [], ◌∷◌, ◌++◌, map, ℕ}
use Rattle.text.specs.Text.{text}
use Rattle.text.specs.Wrote.{Behind, Wrote}
use Rattle.arm7tdmi.specs.Names.{reg_string}
use Rattle.lines.specs.Pieces.{joined, set_bits}

-- the names of a register list: of the registers below n whose bits are set
abbrev pub names : ℕ → ℕ → List (List ℕ)
names raw n = map reg_string (set_bits raw n)

-- what stands before a name: the names before it, each with a comma and a space behind it
abbrev pub so_far : List (List ℕ) → List ℕ
so_far [] = []
so_far (t ∷ ts) = t ++ (text ", " ++ so_far ts)

-- A list is written from the place at on into a buffer that held l. Before its name t, with the names ts before it, the buffer holds `held`, and the position
-- stands directly behind the last byte written; t and the names us behind it are written from there on, and then the buffer holds l' and r is the position.
pub record BeforeName (l : List ℕ) (at : ℕ) (ts : List (List ℕ)) (t : List ℕ) (us : List (List ℕ)) (l' : List ℕ) (r : ℕ) : Type 0 where
  pub held : List ℕ
  pub position : ℕ
  pub behind : Behind l at (so_far ts) held position
  pub onward : Wrote held position (joined (t ∷ us)) l' r

-- so it is before each name of the list xs
abbrev pub BeforeEach : List ℕ → ℕ → List (List ℕ) → List ℕ → ℕ → Type 0
BeforeEach l at xs l' r = (ts : List (List ℕ)) (t : List ℕ) (us : List (List ℕ)) → xs ≡ ts ++ (t ∷ us) → BeforeName l at ts t us l' r
