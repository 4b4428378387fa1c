-- A list of registers in a line: its names as pieces, and the numbers that they name. Assumes nothing.
use Prim.Native.Nat.{◌%◌, ◌*◌, ◌+◌, ◌-◌, ◌/◌, ◌<◌, ◌^◌, ◌≤◌, suc, zero, ℕ}
use borrow.Author.Tests.{eq-eqb, eqb-false, eqb-true, lt-ltb, ltb-true, ne_eqb}
use lib.Dec.{eqb, ltb}
use lib.ListN.{length, length-append}
use lib.Pow.{high, low, mod-pow-add, pow_pos}
use mathlib.Core.Bool.{Bool, ◌||◌, cond, false, or-false, true, true≢false}
use mathlib.Core.List.{List, [], ◌++◌, ◌∷◌, append_assoc, append-nil, map}
use mathlib.Core.Path.{◌∙◌, ◌≡◌, ap, refl, sym}
use native.Mathlib.Nat.{mod-lt}
use native.Mathlib.Numerals.{one-add}
use native.Mathlib.Omega.{arith}
use Rattle.arm7tdmi.proofs.Names.{reg_back, reg_wordy}
use Rattle.arm7tdmi.specs.Names.{reg_named, reg_names, reg_string}
use Rattle.lines.specs.Pieces.{joined, set_bits}
use Rattle.common.proofs.Tests.{and_left, and_right, at_not, by_test}
use Rattle.common.specs.Bits.{bit}
use Rattle.common.specs.Lists.{first}
use Rattle.reading.proofs.Pieces.{Pieces, first_word, first_of, from, from_nth, gaps_have, good, has_append, none, piece, spell}
use Rattle.text.proofs.Word.{gap, gap_all, wordy}
use Rattle.text.specs.Text.{text}
use Rattle.text.specs.Word.{after, all, has, is_gap, is_word, word}
use Rattle.reading.specs.Parts.{list_in}

-- ---- the numbers of the bits that are set
abbrev pub sum_of : List ℕ → ℕ
sum_of [] = 0
sum_of (x ∷ xs) = 2 ^ x + sum_of xs

pub sum_append : (xs ys : List ℕ) → sum_of (xs ++ ys) ≡ sum_of xs + sum_of ys
sum_append [] ys = omega arith
sum_append (x ∷ xs) ys = rw (sum_append xs ys) (omega arith)

pub bits_sum : (raw n : ℕ) → sum_of (set_bits raw n) ≡ raw % 2 ^ n
unfolding set_bits
bits_sum raw zero = omega arith
bits_sum raw (suc n) =
    let s : raw % 2 ^ suc n ≡ raw / 2 ^ n % 2 * 2 ^ n + raw % 2 ^ n = rw one-add at (mod-pow-add raw 1 n) in
    rw (sum_append, bits_sum raw n, s)
    (by_test (bit raw n)
    (λ e. let y : raw / 2 ^ n % 2 ≡ 1 = eqb-true _ _ e in rw (e, y) (omega arith))
    (λ e. let y : raw / 2 ^ n % 2 ≡ 0 = let z = eqb-false (raw / 2 ^ n % 2) 1 e in omega arith in rw (e, y) (omega arith)))

-- they are below the bound, and no more than it
abbrev pub below16 : List ℕ → Bool
below16 xs = all (λ x. ltb x 16) xs

pub below_append : (xs ys : List ℕ) → below16 xs ≡ true → below16 ys ≡ true → below16 (xs ++ ys) ≡ true
below_append [] ys a b = b
below_append (x ∷ xs) ys a b = rw (and_left (ltb x 16) (below16 xs) a) (below_append xs ys (and_right (ltb x 16) (below16 xs) a) b)

pub bits_below : (raw n : ℕ) → n ≤ 16 → below16 (set_bits raw n) ≡ true
unfolding set_bits
bits_below raw zero h = refl
bits_below raw (suc n) h =
    below_append (set_bits raw n) (cond (bit raw n) (n ∷ []) []) (bits_below raw n (omega arith))
    (by_test (bit raw n) (λ e. rw (e, lt-ltb n 16 (omega arith))) (λ e. rw e))

pub bits_few : (raw n : ℕ) → length (set_bits raw n) ≤ n
unfolding set_bits
bits_few raw zero = omega arith
bits_few raw (suc n) = let ih = bits_few raw n in simp length-append (by_test (bit raw n) (λ e. rw e (omega arith)) (λ e. rw e (omega arith)))

-- they are those of the bits below the bound alone
pub same_bits : (a b n : ℕ) → a % 2 ^ n ≡ b % 2 ^ n → set_bits a n ≡ set_bits b n
unfolding set_bits
same_bits a b zero e = refl
same_bits a b (suc n) e =
    let s : (x : ℕ) → x % 2 ^ suc n ≡ x / 2 ^ n % 2 * 2 ^ n + x % 2 ^ n = λ x. rw one-add at (mod-pow-add x 1 n) in
    let t : a / 2 ^ n % 2 * 2 ^ n + a % 2 ^ n ≡ b / 2 ^ n % 2 * 2 ^ n + b % 2 ^ n = sym (s a) ∙ e ∙ s b in
    let la = mod-lt a (pow_pos n) in
    let lb = mod-lt b (pow_pos n) in
    let q : a / 2 ^ n % 2 ≡ b / 2 ^ n % 2 = sym (high (a / 2 ^ n % 2) n la) ∙ ap (λ (x : ℕ). x / 2 ^ n) t ∙ high (b / 2 ^ n % 2) n lb in
    let r : a % 2 ^ n ≡ b % 2 ^ n = sym (low (a / 2 ^ n % 2) n la) ∙ ap (λ (x : ℕ). x % 2 ^ n) t ∙ low (b / 2 ^ n % 2) n lb in
    rw (q, same_bits a b n r)

-- ---- a list of names as pieces: behind a word w and g, with z at its end
abbrev names : ℕ → List ℕ → List ℕ → Pieces
names x [] z = piece (reg_string x) z none
names x (y ∷ ys) z = piece (reg_string x) (text ", ") (names y ys z)

abbrev pub behind_word : List ℕ → List ℕ → List ℕ → List ℕ → Pieces
behind_word w g [] z = piece w (g ++ z) none
behind_word w g (x ∷ xs) z = piece w g (names x xs z)

names_spelled : (x : ℕ) (xs z : List ℕ) → spell (names x xs z) ≡ joined (map reg_string (x ∷ xs)) ++ z
names_spelled x [] z = rw append-nil
names_spelled x (y ∷ ys) z = rw (names_spelled y ys z) (sym (append_assoc (reg_string x) (text ", " ++ joined (map reg_string (y ∷ ys))) z))

pub list_spelled : (w g xs z : List ℕ) → spell (behind_word w g xs z) ≡ w ++ (g ++ (joined (map reg_string xs) ++ z))
list_spelled w g [] z = rw append-nil
list_spelled w g (x ∷ xs) z = rw (names_spelled x xs z)

pub list_first : (w g xs z : List ℕ) → first_of (behind_word w g xs z) ≡ w
list_first w g [] z = refl
list_first w g (x ∷ xs) z = refl

gap_append : (g z : List ℕ) → gap g ≡ true → gap z ≡ true → gap (g ++ z) ≡ true
gap_append [] z a b = absurd (true≢false (sym a))
gap_append (x ∷ xs) z a b = rw (and_left (is_gap x) (all is_gap xs) a) (go xs (and_right (is_gap x) (all is_gap xs) a))
  where
    go : (xs : List ℕ) → all is_gap xs ≡ true → all is_gap (xs ++ z) ≡ true
    go [] e = gap_all z b
    go (x ∷ xs) e = rw (and_left (is_gap x) (all is_gap xs) e) (go xs (and_right (is_gap x) (all is_gap xs) e))

module _ (z : List ℕ) (hz : gap z ≡ true) where
  names_good : (x : ℕ) (xs : List ℕ) → below16 (x ∷ xs) ≡ true → good (names x xs z) ≡ true
  unfolding is_word
  names_good x [] e = rw (reg_wordy x (ltb-true x 16 (and_left (ltb x 16) true e)), hz)
  names_good x (y ∷ ys) e =
      rw (reg_wordy x (ltb-true x 16 (and_left (ltb x 16) (below16 (y ∷ ys)) e)), names_good y ys (and_right (ltb x 16) (below16 (y ∷ ys)) e))

  pub list_good : (w g xs : List ℕ) → wordy w ≡ true → gap g ≡ true → below16 xs ≡ true → good (behind_word w g xs z) ≡ true
  list_good w g [] h hg e = rw (h, gap_append g z hg hz)
  list_good w g (x ∷ xs) h hg e = rw (h, hg, names_good x xs e)

  -- a mark in it
  names_has : (y x : ℕ) (xs : List ℕ) → has y (text ", ") ≡ false → gaps_have y (names x xs z) ≡ has y z
  names_has y x [] e = or-false (has y z)
  names_has y x (w ∷ ws) e = rw (e, names_has y w ws e)

  pub list_has : (y : ℕ) (w g xs : List ℕ) → has y (text ", ") ≡ false → gaps_have y (behind_word w g xs z) ≡ (has y g || has y z)
  list_has y w g [] e = or-false (has y (g ++ z)) ∙ has_append y g z
  list_has y w g (x ∷ xs) e = rw (names_has y x xs e)

  -- its numbers
  list_empty : (k : ℕ) → list_in k [] ≡ 0
  unfolding list_in word first
  list_empty zero = refl
  list_empty (suc k) = refl

  name_some : (n : ℕ) → n < 16 → eqb (length (reg_string n)) 0 ≡ false
  unfolding reg_string reg_names
  name_some = at_not (λ n. eqb (length (reg_string n)) 0) 16 refl

  one_more : (k x : ℕ) (g : List ℕ) (ps : Pieces) → x < 16 → good (piece (reg_string x) g ps) ≡ true → list_in (suc k) (spell (piece (reg_string x) g ps)) ≡ 2 ^ x + list_in k (spell ps)
  unfolding list_in
  one_more k x g ps h e = rw (first_word (piece (reg_string x) g ps) e, name_some x h, reg_back x h, (from_nth 1 (piece (reg_string x) g ps) e).0)

  names_back : (k x : ℕ) (xs : List ℕ) → length xs < k → below16 (x ∷ xs) ≡ true → list_in k (spell (names x xs z)) ≡ sum_of (x ∷ xs)
  names_back zero x xs h e = absurd (omega arith)
  names_back (suc k) x [] h e = one_more k x z none (ltb-true x 16 (and_left (ltb x 16) true e)) (names_good x [] e) ∙ rw (list_empty k)
  names_back (suc k) x (y ∷ ys) h e =
      one_more k x (text ", ") (names y ys z) (ltb-true x 16 (and_left (ltb x 16) (below16 (y ∷ ys)) e)) (names_good x (y ∷ ys) e)
      ∙ rw (names_back k y ys (omega arith) (and_right (ltb x 16) (below16 (y ∷ ys)) e))

  pub list_back : (k : ℕ) (w g xs : List ℕ) → length xs ≤ k → below16 xs ≡ true → list_in k (spell (from 1 (behind_word w g xs z))) ≡ sum_of xs
  list_back k w g [] h e = list_empty k
  list_back k w g (x ∷ xs) h e = names_back k x xs (omega arith) e

-- ---- a list as the code reads it: the count is used up, nothing is left, or one name and then the rest
pub list_none : (l : List ℕ) → 0 ≡ list_in 0 l
unfolding list_in
list_none l = refl

pub list_end : (k : ℕ) (l : List ℕ) → length (word l) ≡ 0 → 0 ≡ list_in k l
unfolding list_in
list_end zero l e = refl
list_end (suc k) l e = rw (eq-eqb (length (word l)) 0 e)

pub list_more : (k : ℕ) (l : List ℕ) → (k ≡ 0 → ⊥) → (length (word l) ≡ 0 → ⊥) → 2 ^ reg_named (word l) + list_in (k - 1) (after l) ≡ list_in k l
unfolding list_in
list_more zero l z e = absurd (z refl)
list_more (suc k) l z e = let d : suc k - 1 ≡ k = omega arith in rw (ne_eqb (length (word l)) 0 e, d)
