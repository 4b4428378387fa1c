-- Lists: equality as a test, and where something stands in a list. Assumes nothing.
use Rattle.std.specs.Prelude.{Bool, true, false, cond, ◌&&◌, List, [], ◌∷◌, ℕ, zero, suc, eqb}

-- whether two lists are equal
unfoldable pub same : List ℕ → List ℕ → Bool
same [] [] = true
same [] (y ∷ ys) = false
same (x ∷ xs) [] = false
same (x ∷ xs) (y ∷ ys) = eqb x y && same xs ys

-- the index of the first element that passes, or the list's length where none does
unfoldable pub first : {A : Type 0} → (A → Bool) → List A → ℕ
first p [] = zero
first p (x ∷ xs) = cond (p x) zero (suc (first p xs))

-- the index of a number in a list, and of a text in a list of texts
abbrev pub find : ℕ → List ℕ → ℕ
find n = first (λ m. eqb m n)

abbrev pub place : List (List ℕ) → List ℕ → ℕ
place ts t = first (λ u. same u t) ts
