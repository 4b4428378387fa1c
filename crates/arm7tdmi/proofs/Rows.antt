-- Rows looked through from the last one up: the first that a word meets has the last word. Assumes nothing.
use Rattle.std.proofs.Common.{◌≡◌, ℕ, ◌∷◌, [], List, eqb, cond, refl, ◌∙◌, eq-eqb, ne_eqb}
use Rattle.std.specs.List.{push}
use lib.Bits.{bit_and}
use Rattle.arm7tdmi.specs.Kinds.{first_row}
use Rattle.arm7tdmi.specs.declared.kinds.Row.{Row}
use Rattle.common.proofs.Tests.{by_test}

module _ {K : Type 0} (w : ℕ) where
  last_row : (rs : List (Row K)) (r : Row K) (k : K) → first_row k (push rs r) w ≡ first_row (cond (eqb (bit_and w r.mask) r.value) r.kind k) rs w
  last_row [] r k = refl
  last_row (q ∷ rs) r k = let ih = last_row rs r k in by_test (eqb (bit_and w q.mask) q.value) (λ e. rw e) (λ e. rw e ih)

  pub last_met : (rs : List (Row K)) (r : Row K) (k : K) → bit_and w r.mask ≡ r.value → first_row k (push rs r) w ≡ first_row r.kind rs w
  last_met rs r k e = last_row rs r k ∙ rw (eq-eqb _ _ e)

  pub last_missed : (rs : List (Row K)) (r : Row K) (k : K) → (bit_and w r.mask ≡ r.value → ⊥) → first_row k (push rs r) w ≡ first_row k rs w
  last_missed rs r k e = last_row rs r k ∙ rw (ne_eqb _ _ e)
