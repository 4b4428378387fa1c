-- How long a text is: bounds on its pieces, added up. Assumes nothing.
use mathlib.Core.Path.{◌≡◌}
use mathlib.Core.Bool.{Bool, true, false, cond, ◌&&◌}
use mathlib.Core.List.{List, [], ◌∷◌, ◌++◌}
use Prim.Native.Nat.{ℕ, zero, suc, ◌+◌, ◌≤◌, ◌<◌}
use native.Mathlib.Omega.{arith}
use native.Mathlib.Nat.{le_refl}
use lib.Dec.{leb}
use lib.ListN.{length, length-append, get_or}
use borrow.Author.Tests.{leb-true}
use Rattle.common.proofs.Tests.{and_left, and_right}
use Rattle.text.specs.Text.{text}
use Rattle.text.specs.Digits.{hex, dec, prefixed}
use Rattle.text.proofs.Digits.{digits_least, digits_most}

infixl 60 ◌&◌
-- bs has from lo to hi bytes
pub record Within (lo hi : ℕ) (bs : List ℕ) : Type 0 where
  pub least : lo ≤ length bs
  pub most : length bs ≤ hi

pub ◌&◌ : {a b c d : ℕ} {x y : List ℕ} → Within a b x → Within c d y → Within (a + c) (b + d) (x ++ y)
◌&◌ {a} {b} {c} {d} {x} {y} p q = record { least = simp length-append (omega arith); most = simp length-append (omega arith) }

pub exactly : (x : List ℕ) → Within (length x) (length x) x
exactly x = record { least = le_refl (length x); most = le_refl (length x) }

pub none : (hi : ℕ) → Within 0 hi []
none hi = record { least = omega arith; most = omega arith }

-- looser bounds
pub loosely : {a b c d : ℕ} {x : List ℕ} → Within a b x → c ≤ a → b ≤ d → Within c d x
loosely p h k = record { least = omega arith; most = omega arith }

-- one text or another
pub of_two : {a b : ℕ} {x y : List ℕ} (t : Bool) → Within a b x → Within a b y → Within a b (cond t x y)
of_two true p q = p
of_two false p q = q

-- a text or nothing
pub or_none : {a b : ℕ} {x : List ℕ} (t : Bool) → Within a b x → Within 0 b (cond t x [])
or_none {b = b} t p = of_two t (record { least = omega arith; most = p.most }) (none b)

-- each entry of a table has from lo to hi bytes: one test over the table
abbrev wide : ℕ → ℕ → List ℕ → Bool
wide lo hi x = leb lo (length x) && leb (length x) hi

abbrev pub entries : ℕ → ℕ → List (List ℕ) → Bool
entries lo hi [] = true
entries lo hi (x ∷ xs) = wide lo hi x && entries lo hi xs

wide→within : (lo hi : ℕ) (x : List ℕ) → wide lo hi x ≡ true → Within lo hi x
wide→within lo hi x t =
    record {
      least = leb-true lo (length x) (and_left (leb lo (length x)) (leb (length x) hi) t);
      most = leb-true (length x) hi (and_right (leb lo (length x)) (leb (length x) hi) t);
    }

pub entry : (lo hi : ℕ) (xs : List (List ℕ)) → entries lo hi xs ≡ true → (n : ℕ) → n < length xs → Within lo hi (get_or xs n [])
entry lo hi [] t n h = absurd (omega arith)
entry lo hi (x ∷ xs) t zero h = wide→within lo hi x (and_left (wide lo hi x) (entries lo hi xs) t)
entry lo hi (x ∷ xs) t (suc n) h = entry lo hi xs (and_right (wide lo hi x) (entries lo hi xs) t) n (omega arith)

-- past the table's end there is nothing
pub short_entry : (hi : ℕ) (xs : List (List ℕ)) → entries 0 hi xs ≡ true → (n : ℕ) → Within 0 hi (get_or xs n [])
short_entry hi [] t n = none hi
short_entry hi (x ∷ xs) t zero = wide→within 0 hi x (and_left (wide 0 hi x) (entries 0 hi xs) t)
short_entry hi (x ∷ xs) t (suc n) = short_entry hi xs (and_right (wide 0 hi x) (entries 0 hi xs) t) n

-- numbers
pub hex_within : (w n : ℕ) → w ≤ 8 → Within w 8 (hex w n)
unfolding hex
hex_within w n h = record { least = digits_least 16 8 w n h; most = digits_most 16 8 w n }

pub dec_within : (n : ℕ) → Within 1 10 (dec n)
unfolding dec
dec_within n = record { least = digits_least 10 10 1 n (omega arith); most = digits_most 10 10 1 n }

pub prefixed_within : (w n : ℕ) → w ≤ 8 → Within (2 + w) 10 (prefixed w n)
unfolding prefixed
prefixed_within w n h = exactly (text "0x") & hex_within w n h
