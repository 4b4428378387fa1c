-- Several candidates, each tested: the lowest that passes. Assumes nothing.
use Prim.Native.Nat.{◌<◌, ◌≤◌, min, ℕ}
use borrow.Author.Tests.{ltb-false, ltb-true}
use lib.Dec.{ltb}
use mathlib.Core.Bool.{Bool, cond, true}
use mathlib.Core.List.{List, [], ◌∷◌}
use mathlib.Core.Logic.{◌⊎◌, ⊎_elim}
use mathlib.Core.Path.{◌≡◌}
use native.Mathlib.Nat.{lt_irrefl}
use native.Mathlib.Omega.{arith}
use Rattle.common.proofs.Lowest.{lowest_is}
use Rattle.common.proofs.Tests.{by_test}
use Rattle.common.specs.Lowest.{lowest}

module _ (p : ℕ → Bool) (n : ℕ) where
  -- the lowest of the candidates that pass, and n where none does
  unfoldable pub best : List ℕ → ℕ
  best [] = n
  best (c ∷ cs) = cond (p c) (min c (best cs)) (best cs)

  -- one of the candidates is at most w, and passes
  abbrev pub Covers : ℕ → List ℕ → Type 0
  Covers w [] = ⊥
  Covers w (c ∷ cs) = ((c ≤ w) × (p c ≡ true)) ⊎ Covers w cs

  best_le : (cs : List ℕ) → best cs ≤ n
  unfolding best
  best_le [] = omega arith
  best_le (c ∷ cs) = let ih = best_le cs in by_test (p c) (λ e. rw e (omega arith)) (λ e. rw e ih)

  best_holds : (cs : List ℕ) → best cs < n → p (best cs) ≡ true
  unfolding best
  best_holds [] h = absurd (lt_irrefl n h)
  best_holds (c ∷ cs) h =
      let ih = best_holds cs in
      by_test (p c)
      (λ e. by_test (ltb c (best cs))
      (λ d. let m : min c (best cs) ≡ c = omega (arith, ltb-true) in rw (e, m) e)
      (λ d. let m : min c (best cs) ≡ best cs = omega (arith, ltb-false) in rw (e, m) (ih (rw (e, m) at h))))
      (λ e. rw e (ih (rw e at h)))

  best_most : (w : ℕ) (cs : List ℕ) → Covers w cs → best cs ≤ w
  unfolding best
  best_most w [] h = absurd h
  best_most w (c ∷ cs) h =
      ⊎_elim
      (λ x. let a = x.0 in let e : p c ≡ true = x.1 in rw e (omega arith))
      (λ y. let ih = best_most w cs y in by_test (p c) (λ e. rw e (omega arith)) (λ e. rw e ih)) h

  -- THE LAW: where each number that passes is covered, the best candidate is the lowest
  pub covered : (cs : List ℕ) → ((w : ℕ) → w < n → p w ≡ true → Covers w cs) → lowest p n ≡ best cs
  covered cs law = lowest_is p n (best cs) (best_le cs) (best_holds cs) (λ w h t. best_most w cs (law w h t))
