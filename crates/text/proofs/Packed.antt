-- Texts as numbers: a text is found in a list of short texts where its number is found in the list of theirs. Assumes nothing.
use mathlib.Core.Path.{◌≡◌, refl, sym, ap, ap₂, ◌∙◌}
use mathlib.Core.Bool.{Bool, true, false, ◌&&◌, not, true≢false}
use mathlib.Core.List.{List, [], ◌∷◌, map, reverse}
use Prim.Native.Nat.{ℕ, zero, suc, ◌+◌, ◌-◌, ◌%◌, ◌*◌, ◌^◌, ◌≤◌, ◌<◌}
use native.Mathlib.Nat.{pow-suc, pow-le-pow_right}
use native.Mathlib.Omega.{arith}
use lib.Dec.{ltb, leb, eqb}
use lib.ListN.{length, get_or}
use borrow.Author.Tests.{eqb-true, eqb-false, ne_eqb, le-leb, lt-leb, ltb-true}
use Rattle.std.proofs.lemmas.Grind.{reverse_onto}
use Rattle.std.proofs.lemmas.List.Sums.{fold_push}
use Rattle.std.specs.List.{fold, list_any}
use Rattle.common.specs.Lists.{same, first, find, place}
use Rattle.common.proofs.Lists.{same_refl, other}
use Rattle.common.proofs.Tests.{by_test, and_left, and_right}
use Rattle.text.specs.Word.{number, all, packed}

-- each is a byte; and none is 0
abbrev pub Bytes : List ℕ → Type 0
Bytes l = (i : ℕ) → get_or l i 0 < 256

abbrev pub some : ℕ → Bool
some x = not (eqb x 0)

some_pos : (x : ℕ) → some x ≡ true → 0 < x
some_pos zero e = absurd (true≢false (sym e))
some_pos (suc x) e = omega arith

-- ---- texts with one number are one text
number_same : (a b : List ℕ) → Bytes a → Bytes b → all some a ≡ true → all some b ≡ true → number a ≡ number b → a ≡ b
number_same [] [] ha hb pa pb e = refl
number_same [] (y ∷ ys) ha hb pa pb e = let p = some_pos y (and_left (some y) (all some ys) pb) in absurd (omega arith)
number_same (x ∷ xs) [] ha hb pa pb e = let p = some_pos x (and_left (some x) (all some xs) pa) in absurd (omega arith)
number_same (x ∷ xs) (y ∷ ys) ha hb pa pb e =
    let hx : x < 256 = ha 0 in
    let hy : y < 256 = hb 0 in
    let ex : x ≡ y = omega arith in
    let es : number xs ≡ number ys = omega arith in
    ap₂ ◌∷◌ ex
    (number_same xs ys (λ i. ha (suc i)) (λ i. hb (suc i)) (and_right (some x) (all some xs) pa) (and_right (some y) (all some ys) pb) es)

-- a text that has a number of its own
abbrev pub short : List ℕ → Bool
short l = leb (length l) 8 && all some l

abbrev none : ℕ
none = 2 ^ 64 - 1

module _ (w l : List ℕ) (hw : Bytes w) (hl : Bytes l) (v : short w ≡ true) (n : ltb (number w) none ≡ true) where
  is_number : packed w ≡ number w
  unfolding packed
  is_number = rw v

  pub packed_same : eqb (packed w) (packed l) ≡ same w l
  unfolding packed
  packed_same =
      let b = ltb-true (number w) none n in
      by_test (short l)
      (λ e. by_test (eqb (number w) (number l))
      (λ q. let d = number_same w l hw hl (and_right (leb (length w) 8) (all some w) v) (and_right (leb (length l) 8) (all some l) e) (eqb-true _ _ q) in
      rw (v, e, q) (sym (rw d (same_refl l))))
      (λ q. rw (v, e, q) (sym (other w l (λ d. eqb-false _ _ q (ap number d))))))
      (λ e. let q : eqb (number w) none ≡ false = ne_eqb (number w) none (λ d. let z : number w ≡ none = d in omega arith) in
      rw (v, e, q) (sym (other w l (λ d. true≢false (sym v ∙ ap short d ∙ e)))))

-- a list of such texts: one test
abbrev bytes : List ℕ → Bool
bytes l = all (λ x. ltb x 256) l

abbrev pub fit : List (List ℕ) → Bool
fit [] = true
fit (w ∷ ws) = (bytes w && (short w && ltb (number w) none)) && fit ws

bytes_are : (l : List ℕ) → bytes l ≡ true → Bytes l
bytes_are [] e i = omega arith
bytes_are (x ∷ xs) e zero = ltb-true x 256 (and_left (ltb x 256) (bytes xs) e)
bytes_are (x ∷ xs) e (suc i) = bytes_are xs (and_right (ltb x 256) (bytes xs) e) i

pub find_packed : (ws : List (List ℕ)) (l : List ℕ) → fit ws ≡ true → Bytes l → find (packed l) (map packed ws) ≡ place ws l
unfolding first
find_packed [] l f h = refl
find_packed (w ∷ ws) l f h =
    let a = and_left (bytes w && (short w && ltb (number w) none)) (fit ws) f in
    let b = and_right (bytes w) (short w && ltb (number w) none) a in
    let e = packed_same w l (bytes_are w (and_left (bytes w) (short w && ltb (number w) none) a)) h (and_left (short w) (ltb (number w) none) b) (and_right (short w) (ltb (number w) none) b) in
    let ih = find_packed ws l (and_right (bytes w && (short w && ltb (number w) none)) (fit ws) f) h in
    rw (e, ih)

-- ---- as the code folds them, from the last byte to the first
pub number_lt : (l : List ℕ) → Bytes l → number l < 256 ^ length l
number_lt [] h = omega arith
number_lt (x ∷ xs) h =
    let ih = number_lt xs (λ i. h (suc i)) in
    let hx : x < 256 = h 0 in
    rw pow-suc (omega arith)

abbrev pub push : ℕ → ℕ → ℕ
push v x = v * 2 ^ 8 % 2 ^ 64 + x

pub number_folds : (l : List ℕ) → Bytes l → length l ≤ 8 → fold push 0 (reverse l) ≡ number l
number_folds [] h k = refl
number_folds (x ∷ xs) h k =
    let ih = number_folds xs (λ i. h (suc i)) (omega arith) in
    let a = number_lt xs (λ i. h (suc i)) in
    let b : length xs ≤ 7 = omega arith in
    let c = pow-le-pow_right {n = 256} (omega arith) b in
    rw (reverse_onto xs x [], fold_push push 0 (reverse xs) x, ih) (omega arith)

all_some : (l : List ℕ) → all some l ≡ not (list_any (λ y. eqb y 0) l)
all_some [] = refl
all_some (x ∷ xs) = let ih = all_some xs in by_test (eqb x 0) (λ t. rw t) (λ t. rw t ih)

-- what is returned: a text that is too long, one with a byte 0, and any other
pub packed_long : (s : List ℕ) → 8 < length s → none ≡ packed s
unfolding packed
packed_long s h = rw (lt-leb (length s) 8 h)

pub packed_zero : (s : List ℕ) → length s ≤ 8 → list_any (λ y. eqb y 0) s ≡ true → none ≡ packed s
unfolding packed
packed_zero s h e = rw (le-leb (length s) 8 h, all_some s, e)

pub packed_short : (s : List ℕ) → length s ≤ 8 → list_any (λ y. eqb y 0) s ≡ false → number s ≡ packed s
unfolding packed
packed_short s h e = rw (le-leb (length s) 8 h, all_some s, e)
