-- The runs of a list. Assumes nothing.
use Rattle.std.proofs.Common.{◌≡◌, ℕ, zero, suc, ◌+◌, ◌-◌, ◌<◌, ◌≤◌, cond, ltb, List, [], ◌∷◌, ◌++◌, length, take, drop, map, refl, ap, ap₂, ◌∙◌, arith, lt-ltb, le-ltb, ltb-true, ltb-false}
use Rattle.std.proofs.lemmas.List.{length-map, length_push, take-append-le, take-map, take_all}
use Rattle.common.proofs.Tests.{by_test}
use Rattle.worst_run.specs.Worst.{runs}

-- those that begin behind the first element
abbrev pub later : {A : Type 0} → ℕ → List A → List (List A)
later n [] = []
later n (x ∷ xs) = cond (ltb n (length (x ∷ xs))) (runs n xs) []

module _ {A : Type 0} where
  pub runs_first : (n : ℕ) (xs : List A) → runs n xs ≡ take n xs ∷ later n xs
  unfolding runs
  runs_first zero [] = refl
  runs_first (suc n) [] = refl
  runs_first n (x ∷ xs) = refl

  pub later_some : (n : ℕ) (x : A) (xs : List A) → n < length (x ∷ xs) → later n (x ∷ xs) ≡ runs n xs
  later_some n x xs h = rw (lt-ltb n (length (x ∷ xs)) h)

  later_none : (n : ℕ) (xs : List A) → length xs ≤ n → later n xs ≡ []
  later_none n [] h = refl
  later_none n (x ∷ xs) h = rw (le-ltb n (length (x ∷ xs)) h)

  -- of few elements one, which is all of them
  pub runs_few : (n : ℕ) (xs : List A) → length xs ≤ n → runs n xs ≡ xs ∷ []
  runs_few n xs h = runs_first n xs ∙ ap₂ (λ (t : List A) (l : List (List A)). t ∷ l) (take_all n xs h) (later_none n xs h)

  -- and with each that comes then one more, the last n
  last_slides : (n : ℕ) (x : A) (xs zs : List A) → n ≤ length xs + 1 → drop (length (x ∷ xs) + 1 - n) (x ∷ zs) ≡ drop (length xs + 1 - n) zs
  last_slides n x xs zs h = let e : length (x ∷ xs) + 1 - n ≡ suc (length xs + 1 - n) = omega arith in ap (λ (k : ℕ). drop k (x ∷ zs)) e

  pub runs_more : (n : ℕ) (xs : List A) (y : A) → 0 < n → n ≤ length xs → runs n (xs ++ y ∷ []) ≡ runs n xs ++ drop (length xs + 1 - n) (xs ++ y ∷ []) ∷ []
  runs_more n [] y some h = absurd (omega arith)
  runs_more n (x ∷ xs) y some h =
      let l = length_push xs y in
      let ih = runs_more n xs y some in
      let last = last_slides n x xs (xs ++ y ∷ []) (omega arith) in
      let new : runs n (x ∷ xs ++ y ∷ []) ≡ take n (x ∷ xs) ∷ runs n (xs ++ y ∷ []) =
      runs_first n (x ∷ xs ++ y ∷ [])
      ∙ ap₂ (λ (t : List A) (r : List (List A)). t ∷ r) (take-append-le n (x ∷ xs) (y ∷ []) h) (later_some n x (xs ++ y ∷ []) (omega arith)) in
      by_test (ltb n (length (x ∷ xs)))
      (λ t. let old : runs n (x ∷ xs) ≡ take n (x ∷ xs) ∷ runs n xs = runs_first n (x ∷ xs) ∙ ap (λ (r : List (List A)). take n (x ∷ xs) ∷ r) (later_some n x xs (ltb-true n (length (x ∷ xs)) t)) in
      let less = ltb-true n (length (x ∷ xs)) t in
      new ∙ rw (old, last) (ap (λ (r : List (List A)). take n (x ∷ xs) ∷ r) (ih (omega arith))))
      (λ t. let all = ltb-false n (length (x ∷ xs)) t in
      let none : length xs + 1 - n ≡ 0 = omega arith in
      new ∙ rw (runs_few n (x ∷ xs) all, last, none, runs_few n (xs ++ y ∷ []) (omega arith), take_all n (x ∷ xs) all) refl)

  pub runs_map : {B : Type 0} (f : A → B) (n : ℕ) (xs : List A) → runs n (map f xs) ≡ map (map f) (runs n xs)
  unfolding runs
  runs_map f n [] = refl
  runs_map f n (x ∷ xs) =
      let ih = runs_map f n xs in
      let first = take-map f n (x ∷ xs) in
      let long = length-map xs f in
      by_test (ltb n (suc (length xs)))
      (λ t. rw (long, t, ih, first))
      (λ t. rw (long, t, first))
