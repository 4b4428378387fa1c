-- Rows that are given alike are given alike as a table. Assumes nothing.
use mathlib.Core.List.{List, [], ◌∷◌, map}
use mathlib.Core.Path.{◌≡◌, refl}

pub rows_alike : {R : Type 0} (f g : R → R) → ((r : R) → f r ≡ g r) → (l : List R) → map f l ≡ map g l
rows_alike f g e [] = refl
rows_alike f g e (r ∷ l) = rw (e r, rows_alike f g e l)
