-- Laws of the lowest number that passes a test: nothing else is ever used of it. Assumes nothing.
use mathlib.Core.Path.{◌≡◌, sym, ◌∙◌}
use mathlib.Core.Bool.{Bool, true, false, cond, true≢false}
use Prim.Native.Nat.{ℕ, zero, suc, ◌+◌, ◌≤◌, ◌<◌, zero-le, suc-le-suc}
use native.Mathlib.Nat.{le_of_suc-le-suc, not-suc-le-zero, lt_irrefl}
use native.Mathlib.Omega.{arith}
use lib.Dec.{ltb}
use borrow.Author.Tests.{ltb-true, ltb-false}
use Rattle.common.specs.Lowest.{lowest}
use Rattle.common.proofs.Tests.{by_test}

module _ (p : ℕ → Bool) (n : ℕ) where
  lowest_hit : p zero ≡ true → lowest p (suc n) ≡ zero
  unfolding lowest
  lowest_hit e = rw (e, cond)

  lowest_miss : p zero ≡ false → lowest p (suc n) ≡ suc (lowest (λ m. p (suc m)) n)
  unfolding lowest
  lowest_miss e = rw (e, cond)

-- it is at most the bound
pub lowest_le : (p : ℕ → Bool) (n : ℕ) → lowest p n ≤ n
unfolding lowest
lowest_le p zero = zero-le
lowest_le p (suc n) =
    let ih : lowest (λ m. p (suc m)) n ≤ n = lowest_le (λ m. p (suc m)) n in
    by_test (p zero) (λ e. rw (lowest_hit p n e) zero-le) (λ e. rw (lowest_miss p n e) (suc-le-suc ih))

-- it is at most any number that passes
pub lowest_at_most : (p : ℕ → Bool) (n k : ℕ) → p k ≡ true → lowest p n ≤ k
unfolding lowest
lowest_at_most p zero k e = zero-le
lowest_at_most p (suc n) zero e = rw (lowest_hit p n e) zero-le
lowest_at_most p (suc n) (suc k) e =
    let ih : lowest (λ m. p (suc m)) n ≤ k = lowest_at_most (λ m. p (suc m)) n k e in
    by_test (p zero) (λ e. rw (lowest_hit p n e) zero-le) (λ e. rw (lowest_miss p n e) (suc-le-suc ih))

-- below the bound it passes
pub lowest_passes : (p : ℕ → Bool) (n : ℕ) → lowest p n < n → p (lowest p n) ≡ true
unfolding lowest
lowest_passes p zero h = absurd (not-suc-le-zero h)
lowest_passes p (suc n) h =
    let ih : lowest (λ m. p (suc m)) n < n → p (suc (lowest (λ m. p (suc m)) n)) ≡ true = lowest_passes (λ m. p (suc m)) n in
    by_test (p zero)
    (λ e. rw (lowest_hit p n e) e)
    (λ e. rw (lowest_miss p n e) (ih (le_of_suc-le-suc (rw (lowest_miss p n e) at h))))

-- the number that passes, and is at most each that does; or the bound, where none passes
pub lowest_is : (p : ℕ → Bool) (n k : ℕ) → k ≤ n → (k < n → p k ≡ true) → ((m : ℕ) → m < n → p m ≡ true → k ≤ m) → lowest p n ≡ k
lowest_is p n k h f g =
    by_test (ltb (lowest p n) n)
    (λ e. let l = g (lowest p n) (ltb-true _ _ e) (lowest_passes p n (ltb-true _ _ e)) in
    let u = lowest_at_most p n k (f (omega (arith, ltb-true))) in omega arith)
    (λ e. let b = lowest_le p n in
    by_test (ltb k n) (λ d. let u = lowest_at_most p n k (f (ltb-true _ _ d)) in omega (arith, ltb-true, ltb-false)) (λ d. omega (arith, ltb-false)))

-- a step of a loop that searches
pub lowest_step : (p : ℕ → Bool) (n i : ℕ) → i ≤ lowest p n → i < n → p i ≡ false → i + 1 ≤ lowest p n
lowest_step p n i h l e =
    by_test (ltb i (lowest p n)) (λ d. omega (arith, ltb-true))
    (λ d. let s : lowest p n ≡ i = omega (arith, ltb-false) in
    let t : p i ≡ true = rw s at (lowest_passes p n (omega arith)) in
    let z : ◌≡◌ {A = Bool} true false = sym t ∙ e in absurd (true≢false z))

-- a candidate that is at most each number that passes, and passes if any does: tested, it is the lowest
module _ (p : ℕ → Bool) (n c : ℕ) (below : c < n) (law : (w : ℕ) → w < n → p w ≡ true → (c ≤ w) × (p c ≡ true)) where
  pub verified_passes : p c ≡ true → lowest p n ≡ c
  verified_passes e = lowest_is p n c (omega arith) (λ h. e) (λ m h t. (law m h t).0)

  pub verified_fails : p c ≡ false → lowest p n ≡ n
  verified_fails e =
      lowest_is p n n (omega arith) (λ h. absurd (lt_irrefl n h))
      (λ m h t. let z : ◌≡◌ {A = Bool} true false = sym (law m h t).1 ∙ e in absurd (true≢false z))
