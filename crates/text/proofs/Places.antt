-- What std's words for slices and iterators say, in the words of specs. Assumes nothing.
use Prim.Native.Nat.{◌%◌, ◌*◌, ◌+◌, ◌^◌, ◌≤◌, suc, ℕ}
use borrow.Author.Tests.{ltb-false}
use lib.Dec.{eqb, ltb}
use lib.ListN.{length}
use mathlib.Core.Bool.{Bool, cond, ◌&&◌, ◌||◌}
use mathlib.Core.List.{List, [], ◌∷◌}
use mathlib.Core.Path.{◌≡◌, ap, refl, sym}
use native.Mathlib.Omega.{arith}
use Rattle.common.proofs.Lists.{first_le}
use Rattle.common.proofs.Tests.{by_test}
use Rattle.common.specs.Lists.{first, same}
use Rattle.std.proofs.lemmas.List.Recursion.{is_position_or_len}
use Rattle.std.specs.List.{fold, list_any, position_or_len}
use Rattle.std.specs.Cmp.Lexicographic.{pointwise}
use Rattle.std.specs.Prelude.{None, Option, Some, unwrap_or}
use Rattle.text.specs.Digits.{digit_value, value_from}
use Rattle.text.specs.Word.{has}

one_more : (n : ℕ) → suc n ≡ 1 + n
one_more n = omega arith

pub first_is : {A : Type 0} (p : A → Bool) (xs : List A) → first p xs ≡ position_or_len p xs
unfolding first
first_is p xs = is_position_or_len (first p) p refl (λ x ys. ap (cond (p x) 0) (one_more (first p ys))) xs

-- the place that `position` finds, or the length where it finds none
pub place_is : {A : Type 0} (p : A → Bool) (xs : List A) (r : Option ℕ) → r ≡ cond (ltb (position_or_len p xs) (length xs)) (Some (position_or_len p xs)) None
    → (unwrap_or r (length xs) ≡ first p xs) × (unwrap_or r (length xs) ≤ length xs)
place_is p xs r e =
    let f = first_is p xs in
    let m = first_le p xs in
    by_test (ltb (position_or_len p xs) (length xs))
    (λ t. rw (e, t) (sym f, rw f at m))
    (λ t. let g = ltb-false _ _ t in rw (e, t) (omega (f, m, g, arith), omega arith))

-- the number that digits write is a fold
pub value_is : (b v : ℕ) (l : List ℕ) → fold (λ (v x : ℕ). (v * b + digit_value x) % 2 ^ 32) v l ≡ value_from b v l
unfolding value_from
value_is b v [] = refl
value_is b v (x ∷ xs) = value_is b ((v * b + digit_value x) % 2 ^ 32) xs

pub has_is : (x : ℕ) (l : List ℕ) → list_any (λ y. eqb y x) l ≡ has x l
unfolding has
has_is x [] = refl
has_is x (y ∷ ys) = ap (λ (b : Bool). eqb y x || b) (has_is x ys)

-- two slices are equal where each byte is
pub same_is : (a b : List ℕ) → pointwise eqb a b ≡ same a b
unfolding same
same_is [] [] = refl
same_is [] (y ∷ ys) = refl
same_is (x ∷ xs) [] = refl
same_is (x ∷ xs) (y ∷ ys) = ap (λ (b : Bool). eqb x y && b) (same_is xs ys)
