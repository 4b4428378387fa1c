-- A row has the mnemonic that a word names where its number is that of the word. Assumes nothing.
use Prim.Native.Nat.{◌<◌, ℕ}
use lib.Dec.{eqb}
use mathlib.Core.Bool.{Bool, cond, false, true}
use mathlib.Core.List.{List, [], ◌∷◌}
use mathlib.Core.Path.{◌≡◌, refl}
use native.Mathlib.Omega.{arith}
use Rattle.common.proofs.Tests.{at}
use Rattle.common.specs.Lists.{first, same}
use Rattle.text.proofs.Packed.{Bytes, find_packed, fit}
use Rattle.text.specs.Word.{packed}
use Rattle.thumb_mnemonic.specs.Rows.{row_at, rows}

-- ---- a row's mnemonic is found by its number
told : (a b : Bool) → ◌≡◌ {A = ℕ} (cond a 0 1) (cond b 0 1) → a ≡ b
told true true e = refl
told true false e = absurd (let z : ◌≡◌ {A = ℕ} 0 1 = e in omega arith)
told false true e = absurd (let z : ◌≡◌ {A = ℕ} 1 0 = e in omega arith)
told false false e = refl

pub row_number : (i : ℕ) → i < 70 → (t : List ℕ) → Bytes t → eqb (packed (row_at i).name) (packed t) ≡ same (row_at i).name t
unfolding rows first
row_number i h t b = told _ _ (find_packed ((row_at i).name ∷ []) t (at (λ i. fit ((row_at i).name ∷ [])) 70 refl i h) b)
