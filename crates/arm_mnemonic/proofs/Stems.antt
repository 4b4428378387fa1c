-- The mnemonics, as the code's matches have them. Assumes nothing.
use Prim.Native.Nat.{◌<◌, ◌^◌, ◌≤◌, ℕ}
use borrow.Author.Tests.{eqb-false, eqb-true, ltb-false, ltb-true}
use lib.Dec.{eqb, ltb}
use mathlib.Core.List.{List, map}
use mathlib.Core.Bool.{false, true, true≢false}
use mathlib.Core.Path.{◌∙◌, ◌≡◌, refl, sym}
use native.Mathlib.Omega.{arith}
use Rattle.arm_mnemonic.specs.Heads.{stem_at, stem_names, stems}
use Rattle.arm_mnemonic.specs.Stems.{family_number, head_at, is_mnemonic}
use Rattle.arm_mnemonic.specs.declared.Head.{Head}
use Rattle.common.proofs.Lists.{first_le}
use Rattle.common.proofs.Tests.{at, by_test}
use Rattle.common.specs.Lists.{find, place, same}
use Rattle.text.proofs.Packed.{Bytes, find_packed}
use Rattle.text.specs.Word.{packed}

-- ---- the stems
abbrev pub codes : List ℕ
codes = map packed stem_names

pub place_le : (t : List ℕ) → place stem_names t ≤ 70
unfolding stem_names stems
place_le t = first_le (λ u. same u t) stem_names

-- the parts of what stem k says; and its family is that of no mnemonic past the last stem alone
module _ (k : ℕ) (h : k ≤ 70) where
  pub head_family : family_number (head_at k).family ≡ (stem_at k).family
  unfolding stems
  head_family = eqb-true _ _ (at (λ k. eqb (family_number (head_at k).family) (stem_at k).family) 71 refl k (omega arith))

  pub head_small : (head_at k).bits < 2 ^ 25
  unfolding stems
  head_small = ltb-true _ _ (at (λ k. ltb (head_at k).bits (2 ^ 25)) 71 refl k (omega arith))

  pub is_stem_lem : is_mnemonic (head_at k) ≡ true → k < 70
  unfolding stems
  is_stem_lem l =
      by_test (eqb k 70)
      (λ e. absurd (true≢false (sym (rw (eqb-true k 70 e) at l))))
      (λ e. let n = eqb-false k 70 e in omega arith)

  pub no_stem : is_mnemonic (head_at k) ≡ false → 70 ≤ k
  unfolding stems
  no_stem l =
      by_test (ltb k 70)
      (λ e. absurd (true≢false (sym (at (λ k. is_mnemonic (head_at k)) 70 refl k (ltb-true _ _ e)) ∙ l)))
      (λ e. omega (arith, ltb-false))

-- what the code looks up: the stems, packed
pub stem_found : (l : List ℕ) → Bytes l → find (packed l) (map packed stem_names) ≡ place stem_names l
unfolding stem_names stems
stem_found l h = find_packed stem_names l refl h

-- a word's number, looked up, tells its stem
pub head_found : (t : List ℕ) → Bytes t → (r : Head) → r ≡ head_at (find (packed t) codes) → (r ≡ head_at (place stem_names t)) × (r.bits < 2 ^ 25)
head_found t h r e =
    let q : r ≡ head_at (place stem_names t) = rw (stem_found t h) at e in
    rw q (refl, head_small (place stem_names t) (place_le t))
