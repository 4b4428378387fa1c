-- A list as a ring, from a place on: one element goes, and another comes. Assumes nothing.
use Rattle.std.proofs.Common.{◌≡◌, ℕ, ◌+◌, ◌%◌, ◌<◌, ltb, List, [], ◌∷◌, ◌++◌, length, get_or, set, take, drop, sym, ap, ap₂, ◌∙◌, arith, ltb-true, ltb-false, append-nil, append_assoc, mod-eq_of_lt}
use Rattle.std.proofs.lemmas.List.{drop-set-lt, drop_all, drop_more, length-set, take_all, take_more_set}
use Rattle.std.proofs.Math.Nat.{mod_self}
use Rattle.common.proofs.Tests.{by_test}

-- from place k to the end, and on to the place
abbrev pub ring_from : {A : Type 0} → ℕ → List A → List A
ring_from k xs = drop k xs ++ take k xs

module _ {A : Type 0} (n k : ℕ) (xs : List A) (y d : A) (long : length xs ≡ n) (h : k < n) where
  -- what stands at the place comes first
  pub front : ring_from k xs ≡ get_or xs k d ∷ (drop (k + 1) xs ++ take k xs)
  front = ap (λ (l : List A). l ++ take k xs) (drop_more xs k d (omega (arith, long)))

  -- and where another takes its place, that one comes last
  back : take (k + 1) (set xs k y) ≡ take k xs ++ y ∷ []
  back = take_more_set xs k y (omega (arith, long))

  pub turned : ring_from ((k + 1) % n) (set xs k y) ≡ drop 1 (ring_from k xs) ++ y ∷ []
  turned =
      let last : drop 1 (ring_from k xs) ++ y ∷ [] ≡ drop (k + 1) xs ++ (take k xs ++ y ∷ []) =
      ap (λ (l : List A). drop 1 l ++ y ∷ []) front ∙ append_assoc (drop (k + 1) xs) (take k xs) (y ∷ []) in
      by_test (ltb (k + 1) n)
      (λ t. ap (λ (j : ℕ). ring_from j (set xs k y)) (mod-eq_of_lt (ltb-true (k + 1) n t))
      ∙ ap₂ (λ (l m : List A). l ++ m) (drop-set-lt (k + 1) xs k y (omega arith)) back
      ∙ sym last)
      (λ t. let e : k + 1 ≡ n = omega (arith, ltb-false (k + 1) n t) in
      ap (λ (j : ℕ). ring_from j (set xs k y)) (ap (λ (m : ℕ). m % n) e ∙ mod_self n)
      ∙ append-nil (set xs k y)
      ∙ sym (take_all (k + 1) (set xs k y) (omega (arith, length-set xs k y, long)))
      ∙ back
      ∙ ap (λ (l : List A). l ++ (take k xs ++ y ∷ [])) (sym (drop_all (k + 1) xs (omega (arith, long))))
      ∙ sym last)
