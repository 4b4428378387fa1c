-- Texts that begin with another byte than `<`: each line but `<Undefined>` does. Assumes nothing.
use Rattle.std.proofs.Common.{◌≡◌, Bool, true, false, cond, not, eqb, List, [], ◌∷◌, ◌++◌, ℕ, refl, sym, true≢false}
use borrow.Author.Tests.{not-true}
use Rattle.common.specs.Lists.{same}
use Rattle.text.specs.Text.{text}

abbrev begins : List ℕ → Bool
begins [] = false
begins (b ∷ bs) = not (eqb b 60)

pub record Named (bs : List ℕ) : Type 0 where
  pub is : begins bs ≡ true

longer : (x y : List ℕ) → begins x ≡ true → begins (x ++ y) ≡ true
longer [] y e = absurd (true≢false (sym e))
longer (b ∷ x) y e = e

-- whatever stands behind
infixl 60 ◌&◌
pub ◌&◌ : {x : List ℕ} → Named x → (y : List ℕ) → Named (x ++ y)
◌&◌ {x} n y = record { is = longer x y n.is }

-- one text or another
pub of_two : {x y : List ℕ} (t : Bool) → Named x → Named y → Named (cond t x y)
of_two true p q = p
of_two false p q = q

other : (x : List ℕ) → begins x ≡ true → same x (text "<Undefined>") ≡ false
unfolding same
other [] e = refl
other (b ∷ bs) e = rw (not-true (eqb b 60) e)

pub not_undefined : {x : List ℕ} → Named x → same x (text "<Undefined>") ≡ false
not_undefined {x} n = other x n.is
