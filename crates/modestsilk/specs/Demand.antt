-- What reading is held to, for both sets. Assumes nothing.
use Rattle.std.specs.Prelude.{◌≡◌, List, ℕ, ◌<◌}
use Rattle.lines.specs.Answer.{Answer, line}

-- "Reading succeeds with a word exactly when that word prints exactly that line there and every other word that prints it is higher; it gives 4
-- exactly when none does": for a set of bound words of which each prints an answer, a line l, and what is answered for it
pub record Demand (print : ℕ → Answer) (bound : ℕ) (l : List ℕ) (number word : ℕ) : Type 0 where
  pub prints : number ≡ 0 → (word < bound) × (print word ≡ line l)
  pub lowest : number ≡ 0 → (v : ℕ) → v < bound → print v ≡ line l → (v ≡ word → ⊥) → word < v
  pub found : (w : ℕ) → w < bound → print w ≡ line l → ((v : ℕ) → v < bound → print v ≡ line l → (v ≡ w → ⊥) → w < v) → (number ≡ 0) × (word ≡ w)
  pub none : number ≡ 4 → (w : ℕ) → w < bound → print w ≡ line l → ⊥
  pub refused : ((w : ℕ) → w < bound → print w ≡ line l → ⊥) → (number ≡ 4) × (word ≡ 0)
