-- The lowest number below a bound that passes a test, or the bound where none does. Assumes nothing.
use Rattle.std.specs.Prelude.{Bool, cond, ℕ, zero, suc}

unfoldable pub lowest : (ℕ → Bool) → ℕ → ℕ
lowest p zero = zero
lowest p (suc n) = cond (p zero) zero (suc (lowest (λ m. p (suc m)) n))
