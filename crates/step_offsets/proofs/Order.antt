-- Whether numbers fall, by what holds of each and the next. Assumes nothing.
use Rattle.std.proofs.Common.{◌≡◌, ℕ, zero, suc, ◌+◌, ◌<◌, ◌≤◌, Bool, true, false, not, ltb, List, [], ◌∷◌, length, map, get_or, add-one, refl, sym, arith, tests, ltb-false, true≢false, le-ltb, lt-ltb}
use Rattle.common.proofs.Tests.{by_test}
use Rattle.std.specs.List.{IsAllAdjacentAnswer}
use Rattle.std.specs.List.Sorted.{IsNonDecreasing}
use Rattle.std.proofs.lemmas.List.{get_or-map, length-map}
use Rattle.std.proofs.lemmas.List.Sorted.{IsNonDecreasingBy-from_all_adjacent}
use Rattle.std.specs.Ordering.{is_le, nat_cmp}
use Rattle.std.proofs.Math.Bool.{or-true}
use Rattle.std.proofs.lemmas.Map.Keys.{le_from_is_le}
use Rattle.step_offsets.specs.Offsets.{falls}

module _ (key : ℕ → ℕ) where
  rises : (xs : List ℕ) (before : ℕ) → ((d : ℕ) → 0 < length xs → before ≤ key (get_or xs 0 d)) → ((k d : ℕ) → k + 1 < length xs → key (get_or xs k d) ≤ key (get_or xs (k + 1) d))
      → falls before (map key xs) ≡ false
  unfolding falls
  rises [] before h f = refl
  rises (x ∷ xs) before h f =
      let ih = rises xs (key x) (λ d l. f 0 d (omega arith)) (λ k d l. rw add-one (rw add-one at (f (suc k) d (omega arith)))) in
      rw (le-ltb (key x) before (h 0 (omega arith))) ih

  drops : (xs : List ℕ) (before k : ℕ) → k + 1 < length xs → ((d : ℕ) → key (get_or xs (k + 1) d) < key (get_or xs k d)) → falls before (map key xs) ≡ true
  unfolding falls
  drops [] before k l h = absurd (omega arith)
  drops (x ∷ []) before k l h = absurd (omega arith)
  drops (x ∷ (y ∷ ys)) before zero l h = rw (lt-ltb (key y) (key x) (h 0), or-true)
  drops (x ∷ (y ∷ ys)) before (suc k) l h = rw (drops (y ∷ ys) (key x) k (omega arith) (λ d. rw add-one (rw add-one at (h d))), or-true)

-- what a comparison of two numbers says
not_le : (a b : ℕ) → is_le (nat_cmp a b) ≡ false → b < a
not_le a b e = grind (arith, tests)

-- a test that each is at most the next, by a key
pub tested : (key : ℕ → ℕ) (xs : List ℕ) (r : Bool) → IsAllAdjacentAnswer (λ x y b. b ≡ is_le (nat_cmp (key x) (key y))) xs r → not r ≡ falls 0 (map key xs)
tested key xs true h = sym (rises key xs 0 (λ d l. omega arith) (λ k d l. le_from_is_le _ _ (sym (h k d l))))
tested key xs false h = sym (drops key xs 0 h.0 h.1 (λ d. not_le _ _ (sym (h.2 d))))

-- each of those that do not fall is at least the one before it
pub rising : (ks : List ℕ) (before i d : ℕ) → falls before ks ≡ false → i < length ks → get_or (before ∷ ks) i d ≤ get_or ks i d
unfolding falls
rising [] before i d e h = absurd (omega arith)
rising (k ∷ ks) before zero d e h = by_test (ltb k before) (λ t. absurd (true≢false (rw t at e))) (λ t. ltb-false k before t)
rising (k ∷ ks) before (suc i) d e h =
    let ih = rising ks k i d in
    by_test (ltb k before) (λ t. absurd (true≢false (rw t at e))) (λ t. ih (rw t at e) (omega arith))

-- so numbers do not fall exactly where each is at most those behind it
pub none_falls : (ks : List ℕ) → falls 0 ks ≡ false → IsNonDecreasing ks
none_falls ks e = IsNonDecreasingBy-from_all_adjacent (λ x. x) ks (λ k d l. rw add-one (rising ks 0 (suc k) d e (omega arith)))

pub never_falls : (key : ℕ → ℕ) (xs : List ℕ) → IsNonDecreasing (map key xs) → falls 0 (map key xs) ≡ false
never_falls key xs m =
    rises key xs 0 (λ d l. omega arith)
    (λ k d l. rw (get_or-map key xs k d 0 (omega arith), get_or-map key xs (k + 1) d 0 l) at (m k (k + 1) 0 (omega arith) (rw length-map l)))
