-- Laws of equality as a test, and of places in a list. Assumes nothing.
use mathlib.Core.Path.{◌∙◌, ◌≡◌, ap, ap₂, refl, sym}
use mathlib.Core.Bool.{Bool, ◌&&◌, cond, false, not, true, true≢false}
use mathlib.Core.List.{List, [], ◌∷◌}
use Prim.Native.Nat.{ℕ, suc, ◌+◌, ◌-◌, ◌≤◌, ◌<◌}
use native.Mathlib.Omega.{arith}
use native.Mathlib.Numerals.{add-one}
use lib.Dec.{eqb}
use borrow.Author.Tests.{eqb-true, eq-eqb, ne_eqb}
use lib.ListN.{length, take, drop, get_or, length-drop, drop_of_length-le}
use lib.Seq.{drop-cons, take_all}
use Rattle.common.specs.Lists.{find, first, same}
use Rattle.common.proofs.Tests.{by_test, and_left, and_right, every, at}

-- ---- equality
pub same_eq : (a b : List ℕ) → same a b ≡ true → a ≡ b
unfolding same
same_eq [] [] e = refl
same_eq [] (y ∷ ys) e = absurd (true≢false (sym e))
same_eq (x ∷ xs) [] e = absurd (true≢false (sym e))
same_eq (x ∷ xs) (y ∷ ys) e = ap₂ ◌∷◌ (eqb-true x y (and_left (eqb x y) (same xs ys) e)) (same_eq xs ys (and_right (eqb x y) (same xs ys) e))

pub same_refl : (a : List ℕ) → same a a ≡ true
unfolding same
same_refl [] = refl
same_refl (x ∷ xs) = rw (eq-eqb x x refl) (same_refl xs)

pub other : (a b : List ℕ) → (a ≡ b → ⊥) → same a b ≡ false
other a b f = by_test (same a b) (λ e. absurd (f (same_eq a b e))) (λ e. e)

-- two tables of texts that agree at each number below k, by one test
pub agreed : (f g : ℕ → List ℕ) (k : ℕ) → every (λ n. same (f n) (g n)) k ≡ true → (n : ℕ) → n < k → f n ≡ g n
agreed f g k e n h = same_eq (f n) (g n) (at (λ n. same (f n) (g n)) k e n h)

-- ---- places
module _ {A : Type 0} (p : A → Bool) where
  pub first_le : (xs : List A) → first p xs ≤ length xs
  unfolding first
  first_le [] = omega arith
  first_le (x ∷ xs) = let ih = first_le xs in by_test (p x) (λ e. rw e (omega arith)) (λ e. rw e (omega arith))

  -- the steps of a loop that searches
  module _ (xs : List A) (i : ℕ) (d : A) (h : i < length xs) where
    pub first_here : p (get_or xs i d) ≡ true → first p (drop i xs) ≡ 0
    unfolding first
    first_here e = rw (drop-cons xs i d h, e)

    pub first_on : p (get_or xs i d) ≡ false → first p (drop i xs) ≡ 1 + first p (drop (i + 1) xs)
    unfolding first
    first_on e = rw (drop-cons xs i d h, e, add-one) (omega arith)

  pub first_out : (xs : List A) (i : ℕ) → length xs ≤ i → first p (drop i xs) ≡ 0
  unfolding first
  first_out xs i h = rw (drop_of_length-le xs h)

-- ---- a match: a number that passes p, and is none of those in a list that do, is not in the list
abbrev among : ℕ → List ℕ → Bool
among n [] = false
among n (k ∷ ks) = cond (eqb k n) true (among n ks)

-- the numbers that pass, each once, the last first, as the last arm of a match has them
abbrev pub picked : (ℕ → Bool) → List ℕ → List ℕ → List ℕ
picked p acc [] = acc
picked p acc (x ∷ xs) = picked p (cond (p x && not (among x acc)) (x ∷ acc) acc) xs

abbrev pub NoneOf : ℕ → List ℕ → Type 0
NoneOf n [] = Unit {0}
NoneOf n (k ∷ ks) = NoneOf n ks × (n ≡ k → ⊥)

not_among : (n : ℕ) (ks : List ℕ) → NoneOf n ks → among n ks ≡ false
not_among n [] h = refl
not_among n (k ∷ ks) h = by_test (eqb k n) (λ e. absurd (h.1 (sym (eqb-true k n e)))) (λ e. rw e (not_among n ks h.0))

module _ (p : ℕ → Bool) (n : ℕ) where
  keeps : (xs acc : List ℕ) → NoneOf n (picked p acc xs) → NoneOf n acc
  keeps [] acc h = h
  keeps (x ∷ xs) acc h =
      let more = keeps xs (x ∷ acc) in
      let same = keeps xs acc in
      by_test (p x && not (among x acc)) (λ e. (more (rw e at h)).0) (λ e. same (rw e at h))

  pub none_found : (xs acc : List ℕ) → p n ≡ true → NoneOf n (picked p acc xs) → find n xs ≡ length xs
  unfolding first
  none_found [] acc t h = refl
  none_found (x ∷ xs) acc t h =
      let ih = none_found xs (cond (p x && not (among x acc)) (x ∷ acc) acc) t h in
      by_test (eqb x n)
      (λ e. let q : x ≡ n = eqb-true x n e in
      let px : p x ≡ true = rw q t in
      by_test (among x acc)
      (λ a. absurd (true≢false (sym (rw q at a) ∙ not_among n acc (keeps xs acc (rw (px, a) at h)))))
      (λ a. absurd ((keeps xs (x ∷ acc) (rw (px, a) at h)).1 (sym q))))
      (λ e. rw e (ap suc ih))

-- what `&s[a..]` holds
pub part_rest : (l : List ℕ) (a : ℕ) → take (length l - a) (drop a l) ≡ drop a l
part_rest l a = take_all (length l - a) (drop a l) (let e = length-drop a l in omega arith)
