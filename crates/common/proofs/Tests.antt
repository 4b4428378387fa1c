-- Tests that antt computes: the two cases of a test, and a test of each number below a bound. Assumes nothing.
use mathlib.Core.Path.{◌≡◌, refl, sym}
use mathlib.Core.Bool.{Bool, true, false, ◌&&◌, not, true≢false}
use Prim.Native.Nat.{◌+◌, ◌<◌, ◌≤◌, suc, zero, ℕ}
use native.Mathlib.Nat.{not-suc-le-zero}
use native.Mathlib.Omega.{arith}
use lib.Dec.{ltb}
use borrow.Author.Tests.{ltb-true, ltb-false}

-- the two cases of a test, with the equation
pub by_test {ℓ} : (b : Bool) {C : Type ℓ} → (b ≡ true → C) → (b ≡ false → C) → C
by_test true f g = f refl
by_test false f g = g refl

pub and_left : (a b : Bool) → (a && b) ≡ true → a ≡ true
and_left true b e = refl
and_left false b e = e

pub and_right : (a b : Bool) → (a && b) ≡ true → b ≡ true
and_right true b e = e
and_right false b e = absurd (true≢false (sym e))

-- a test of every number below a bound
abbrev pub every : (ℕ → Bool) → ℕ → Bool
every f zero = true
every f (suc n) = f n && every f n

pub at : (f : ℕ → Bool) (n : ℕ) → every f n ≡ true → (k : ℕ) → k < n → f k ≡ true
at f zero e k h = absurd (not-suc-le-zero h)
at f (suc n) e k h =
    let ih = at f n (and_right (f n) (every f n) e) k in
    by_test (ltb k n)
    (λ d. ih (ltb-true _ _ d))
    (λ d. let q : n ≡ k = omega (arith, ltb-false) in rw q at (and_left (f n) (every f n) e))

pub at_not : (f : ℕ → Bool) (n : ℕ) → every (λ k. not (f k)) n ≡ true → (k : ℕ) → k < n → f k ≡ false
at_not f n e k h =
    by_test (f k)
    (λ t. let z : not (f k) ≡ true = at (λ k. not (f k)) n e k h in absurd (true≢false (sym (rw t at z))))
    (λ t. t)

-- k is none of the n numbers from a on, as the last arm of a match has it
abbrev pub Missed : ℕ → ℕ → ℕ → Type 0
Missed k a zero = Unit {0}
Missed k a (suc n) = Missed k a n × (k ≡ a + n → ⊥)

pub missed : (k a n : ℕ) → a ≤ k → Missed k a n → a + n ≤ k
missed k a zero h m = omega arith
missed k a (suc n) h (m, f) = let g = missed k a n h m in omega arith
